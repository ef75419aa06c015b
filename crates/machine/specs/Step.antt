-- A warp's state as the code holds it, and its step: Table 2 of document 001, rule by rule (R69, R83). docs/TABLE2.md holds both side by side.
use Rattle.std.specs.Prelude.{◌≡◌, Bool, true, false, cond, ◌&&◌, List, [], ◌∷◌, ℕ, eqb, leb, length, set}
use Rattle.warps.specs.Language.{Mem, eval}
use Rattle.lanes.specs.Words.{sync_token, div_token, brk_token, call_token, woken_by, broken_by, returned_by, leaving, only_active, highest_of, all_of}
use Rattle.lanes.specs.declared.Lanes.{Lanes}
use Rattle.kernels.specs.Limits.{most_statements}
use Rattle.kernels.specs.Rows.{statements, kind_of, x_of, y_of, z_of, skip_kind, assign_kind, if_kind, while_kind, break_kind, call_kind}
use Rattle.values.specs.Expressions.{expression, acting}
use Rattle.machine.specs.declared.stack.Stand.{Stand}
use Rattle.machine.specs.Entries.{most_entries, stack_room, Entry, row, again, token, stack_in, from_token, list_over}

-- W, Θ and Δ, μ
pub record Warp : Type 0 where
  pub stack : List Entry
  pub lanes : Lanes
  pub cells : Mem

module _ (s e : List ℕ) where
  -- act(Θ, e, μ), of the expression in a row
  abbrev pub act_of : Lanes → Mem → (x : ℕ) → ℕ
  act_of L μ x = acting L.active (expression e x) μ 32

  -- (if), of row i over W (R69)
  abbrev pub parted : (i : ℕ) → List Entry → Lanes → Mem → Warp
  parted i W L μ =
      record {
        stack = list_over s (z_of s i) (token div_token (act_of L μ (x_of s i)) ∷ list_over s (y_of s i) (token sync_token L.active ∷ W));
        lanes = leaving L (act_of L μ (x_of s i));
        cells = μ;
      }

  -- (while), of row i over W (R69)
  abbrev pub looping : (i : ℕ) → List Entry → Lanes → Mem → Warp
  looping i W L μ = record { stack = list_over s (y_of s i) (again i ∷ token brk_token L.active ∷ W); lanes = only_active L (act_of L μ (x_of s i)); cells = μ }

  -- the underlined (while), which lies on W (R69)
  abbrev pub repeating : (i : ℕ) → List Entry → Lanes → Mem → Warp
  repeating i W L μ = record { stack = list_over s (y_of s i) W; lanes = only_active L (act_of L μ (x_of s i)); cells = μ }

  -- the statement of row i, with some lane active, over W (R69); a kind past the last is a return (R83)
  unfoldable pub obey : (i : ℕ) → List Entry → Lanes → Mem → Warp
  obey i W L μ =
      -- (skip)
      cond (eqb (kind_of s i) skip_kind) (record { stack = W; lanes = L; cells = μ })
      -- (assign): the highest active lane's value stays
      (cond (eqb (kind_of s i) assign_kind) (record { stack = W; lanes = L; cells = set μ (x_of s i) (eval (expression e (y_of s i)) (highest_of 32 L.active) μ) })
      (cond (eqb (kind_of s i) if_kind) (parted i W L μ)
      (cond (eqb (kind_of s i) while_kind) (looping i W L μ)
      -- (break)
      (cond (eqb (kind_of s i) break_kind) (record { stack = from_token W; lanes = broken_by L; cells = μ })
      -- (call)
      (cond (eqb (kind_of s i) call_kind) (record { stack = list_over s (x_of s i) (token call_token L.active ∷ W); lanes = L; cells = μ })
      -- (return)
      (record { stack = from_token W; lanes = returned_by L; cells = μ }))))))

  -- one step; with an empty stack there is none (R69)
  unfoldable pub advance : List Entry → Lanes → Mem → Warp
  advance [] L μ = record { stack = []; lanes = L; cells = μ }
  -- (token)
  advance (token kind mask ∷ W) L μ = record { stack = W; lanes = woken_by L kind mask; cells = μ }
  -- (inact), or the statement's rule
  advance (row i ∷ W) L μ = cond (eqb L.active 0) (record { stack = from_token W; lanes = L; cells = μ }) (obey i W L μ)
  -- (inact), or the underlined (while)
  advance (again i ∷ W) L μ = cond (eqb L.active 0) (record { stack = from_token W; lanes = L; cells = μ }) (repeating i (again i ∷ W) L μ)

  -- the same of a warp (R69)
  abbrev pub next_warp : Warp → Warp
  next_warp w = advance w.stack w.lanes w.cells

-- the start: the kernel's rows over a call token, and so many lanes active (R69)
abbrev pub start_of : (s : List ℕ) (lanes : ℕ) → Mem → Warp
start_of s lanes μ = record { stack = list_over s 0 (token call_token (all_of lanes) ∷ []); lanes = record { active = all_of lanes; broke = 0; returned = 0 }; cells = μ }

-- ---- what the doors promise

-- the warp that a room, a height and lanes, and cells hold
abbrev pub warp_of : (room : List ℕ) → Stand → Mem → Warp
warp_of room st μ = record { stack = stack_in room st.height; lanes = st.lanes; cells = μ }

-- what a step needs: at most 256 statements, a stack's room, and a stack that is not over its limit (R83)
unfoldable pub workable : (s room : List ℕ) (height : ℕ) → Bool
workable s room height = (leb (statements s) most_statements && leb stack_room (length room)) && leb height most_entries

-- a start in a room: the warp stands there; or it cannot, and nothing does (R83)
pub record StartsWarp (s : List ℕ) (lanes : ℕ) (room room' : List ℕ) (st : Stand) : Type 0 where
  pub stands : workable s room 0 ≡ true → (μ : Mem) → warp_of room' st μ ≡ start_of s lanes μ
  pub refuses : workable s room 0 ≡ false → (room' ≡ room) × (st ≡ record { height = 0; lanes = record { active = 0; broke = 0; returned = 0 } })

-- a step in place: the next warp stands there; or it cannot, and all is as it was (R83)
pub record StepsWarp (s e : List ℕ) (st : Stand) (room : List ℕ) (μ : Mem) (room' : List ℕ) (μ' : Mem) (st' : Stand) : Type 0 where
  pub steps : workable s room st.height ≡ true → warp_of room' st' μ' ≡ next_warp s e (warp_of room st μ)
  pub keeps : workable s room st.height ≡ false → (room' ≡ room) × (μ' ≡ μ) × (st' ≡ st)
