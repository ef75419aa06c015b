-- A text whose tokens a machine takes is of the notation; any other is refused, at one place, by its first token that does not fit. Assumes nothing.
use mathlib.Core.Path.{◌≡◌, refl, sym, ap, ◌∙◌}
use mathlib.Core.Bool.{Bool}
use mathlib.Core.Option.{none, some}
use mathlib.Core.List.{List, [], ◌∷◌, ◌++◌}
use Prim.Native.Nat.{ℕ, zero, suc, ◌≤◌, ◌<◌}
use native.Mathlib.Omega.{arith}
use lib.ListN.{length, get_or, take, drop}
use Rattle.spelling.specs.Tokens.{starts, tokens}
use Rattle.spelling.specs.Spells.{Spells}
use Rattle.spelling.specs.Machine.{Move, found}
use Rattle.spelling.specs.Refusal.{Follows, Refused}
use Rattle.spelling.proofs.Laws.{Each, Walk, walk_append, Lexer, Grammar}
use Rattle.spelling.proofs.Spelt.{joined, prefix, tokens_spelt}
use Rattle.spelling.proofs.Machines.{follows_self, no_way, found_none, found_some}

follows_cons : {T : Type 0} (t : T) (ts before rest : List T) → Follows ts before rest → Follows (t ∷ ts) (t ∷ before) rest
follows_cons {T} t ts before [] e = ap (λ (l : List T). t ∷ l) e
follows_cons {T} t ts before (u ∷ rest) (more, e) = (more, ap (λ (l : List T). t ∷ l) e)

-- what begins with more of a list's tokens goes on after fewer as the list does
follows_later : {T : Type 0} (ts : List T) (i j : ℕ) (more : List T) → i < j → j ≤ length ts → Follows (take j ts ++ more) (take i ts) (drop i ts)
follows_later [] i j more l h = absurd (omega arith)
follows_later (t ∷ ts) i zero more l h = absurd (omega arith)
follows_later (t ∷ ts) zero (suc j) more l h = (take j ts ++ more, refl)
follows_later (t ∷ ts) (suc i) (suc j) more l h =
    follows_cons t (take j ts ++ more) (take i ts) (drop i ts) (follows_later ts i j more (omega arith) (omega arith))

-- a text is refused at one place at most, and then it is none of the notation
module _ {T : Type 0} {Spells : List ℕ → List T → Type 0} {Whole : List T → Type 0} {text : List ℕ} {tokens : List T} {starts : List ℕ} where
  pub refused_not : {p : ℕ} → Refused Spells Whole text tokens starts p → Whole tokens → ⊥
  refused_not r w = r.stuck tokens w (follows_self tokens r.before)

  not_sooner : {p q : ℕ} (r : Refused Spells Whole text tokens starts p) (s : Refused Spells Whole text tokens starts q) → ¬ (r.before < s.before)
  not_sooner r s l = r.stuck _ s.whole (follows_later tokens r.before s.before s.later l s.few)

  pub refused_one : {p q : ℕ} → Refused Spells Whole text tokens starts p → Refused Spells Whole text tokens starts q → p ≡ q
  refused_one r s =
      let e : r.before ≡ s.before = omega (arith, not_sooner r s, not_sooner s r) in
      r.place ∙ ap (λ (i : ℕ). get_or starts i (length text)) e ∙ sym s.place

module _ {S T : Type 0} {size : List ℕ → ℕ} {token : List ℕ → T} {Spelling : List ℕ → T → Type 0} {extends : T → ℕ → Bool} {Fits : T → Type 0}
    {next : S → T → Move S} {ends : S → Bool} {start : S} {Whole : List T → Type 0} (L : Lexer size token Spelling extends Fits)
    (G : Grammar next ends start Fits (Spells Spelling extends) Whole) where
  walk_fits : (ts : List T) (s u : S) → Walk next ts s u → Each Fits ts
  walk_fits [] s u w = tt
  walk_fits (t ∷ ts) s u (v, g, w) = (G.fits s t v g, walk_fits ts v u w)

  module _ (text : List ℕ) where
    pub passes : (found next ends (tokens size token text) start 0).stop ≡ none
        → Whole (tokens size token text) × Spells Spelling extends text (tokens size token text)
    passes e =
        let ts = tokens size token text in
        let (u, w, z) = found_none next ends ts start 0 e in
        (G.sound ts u w z, tokens_spelt L text (walk_fits ts start u w))

    pub refuses : (i : ℕ) → (found next ends (tokens size token text) start 0).stop ≡ some i
        → Refused (Spells Spelling extends) Whole text (tokens size token text) (starts size text 0) (get_or (starts size text 0) i (length text))
    refuses i e =
        let ts = tokens size token text in
        let (few, u, w, x) = found_some next ends ts start 0 i e in
        let (bytes, more, v, b, y, z) = G.live u in
        record {
          before = i;
          few = few;
          place = refl;
          more = 32 ∷ bytes;
          later = more;
          begins = joined L (prefix L text i (walk_fits (take i ts) start u w)) b;
          whole = G.sound (take i ts ++ more) v (walk_append next (take i ts) more start u v w y) z;
          stuck = λ us h f. let c = G.complete us h in no_way next ends (take i ts) (drop i ts) us start u c.0 w x f c.1 c.2;
        }
