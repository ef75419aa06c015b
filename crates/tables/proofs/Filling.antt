-- The heads of rows, filled in from the front. Assumes nothing.
use mathlib.Core.Path.{◌≡◌, refl, sym, ap, ◌∙◌}
use mathlib.Core.Logic.{by_cases}
use mathlib.Core.List.{List}
use Prim.Native.Nat.{ℕ, min, ◌+◌, ◌-◌, ◌≤◌, ◌<◌}
use native.Mathlib.Decide.{dec_lt}
use native.Mathlib.Omega.{arith}
use lib.Dec.{eqb}
use lib.ListN.{length, get_or, take, drop, replicate, length-replicate, length-drop, get_or-append, get_or-replicate}
use borrow.Rule.Slice.PartMut.{mid_of, put_mid, same_len_mid}
use Rattle.std.proofs.lemmas.List.{get_or-take, length-take-le, get_or-append_right}
use Rattle.tables.specs.Rows.{first_row, thread_of, is_first}
use Rattle.tables.specs.Heads.{head_of, own_head, Heads, Headed}
use Rattle.tables.specs.Needs.{FilledTo, Fills}
use Rattle.tables.proofs.Rows.{first_none, first_next, first_all, only, past_head, same_head}

-- ---- a room that is filled by one store after another

-- a part that is filled with one number
pub fills_part : (from to head : ℕ) (before part : List ℕ) → from ≤ to → to ≤ length before
    → part ≡ replicate (length (mid_of from (to - from) before)) head → Fills from to head before (put_mid from (to - from) before part)
fills_part from to head before part low high e f old says F = record {
  len = same_len_mid from (to - from) before part (ap length e ∙ length-replicate _ _) ∙ F.len;
  done = λ c l.
      by_cases (dec_lt c from)
      (λ (m : c < from). get_or-append (take from before) _ 0 c (omega (arith, pre)) ∙ get_or-take from before c 0 m ∙ F.done c m)
      (λ (m : ¬ (c < from)).
      get_or-append_right (take from before) _ from c 0 pre (omega arith) ∙ get_or-append part _ 0 (c - from) (omega (arith, long))
      ∙ ap (λ (p : List ℕ). get_or p (c - from) 0) e ∙ get_or-replicate _ (c - from) head 0 (omega (arith, mid))
      ∙ sym (says c (omega arith) l));
}
  where
    pre : length (take from before) ≡ from
    pre = length-take-le from before (omega arith)

    mid : length (mid_of from (to - from) before) ≡ to - from
    mid = length-take-le (to - from) (drop from before) (omega (arith, length-drop from before))

    long : length part ≡ to - from
    long = ap length e ∙ length-replicate _ _ ∙ mid

-- ---- the heads, thread by thread

-- the rows before `head`, where thread t begins or the room ends, have their heads
pub record Begun (lengths : List ℕ) (t head : ℕ) (before after : List ℕ) : Type 0 where
  pub at : head ≡ min (first_row lengths t) (length before)
  pub heads : FilledTo (head_of lengths) head before after

pub begun_none : (lengths room : List ℕ) → Begun lengths 0 0 room room
begun_none lengths room = record {
  at = omega (arith, first_none lengths);
  heads = record { len = refl; done = λ c h. absurd (omega arith) };
}

-- v is stored in thread t's rows, as far as the room goes
pub begun_more : {lengths before : List ℕ} {t head end v : ℕ} {room after : List ℕ} → t < length lengths
    → end ≡ min (head + get_or lengths t 0) (length before) → v ≡ head
    → Begun lengths t head before room → Fills head end v room after → Begun lengths (t + 1) end before after
begun_more {lengths} {before} {t} l e s B G = record {
  at = omega (arith, first_next lengths t);
  heads =
      G (head_of lengths) before
      (λ c low high.
      let h = only lengths c t (record { there = l; low = omega arith; high = omega arith }) in
      ap (first_row lengths) h.0 ∙ omega arith)
      B.heads;
}

-- past the last thread what is left of the room has one head
pub begun_all : {lengths : List ℕ} {t head room : ℕ} {before heads after : List ℕ} → length lengths ≤ t → room ≡ length before
    → Begun lengths t head before heads → Fills head room head heads after → Heads lengths before after
begun_all {lengths} {t} {head} {before = before} l e B G =
    let all = first_all lengths t l in
    let F = G (head_of lengths) before (λ c low high. past_head lengths c (omega (arith, B.at)) ∙ omega (arith, B.at)) B.heads in
    record { len = F.len; all = record { head = λ c h. F.done c (omega arith) } }

-- the rows that a room is long enough for have theirs
pub headed : {lengths before after : List ℕ} (n : ℕ) → n ≤ length before → Heads lengths before after → Headed lengths after n
headed n fits H = record { head = λ c l. H.all.head c (omega arith) }

module _ {lengths heads : List ℕ} {n : ℕ} (H : Headed lengths heads n) where
  -- a row is the first of its thread exactly when it is its own head
  pub first_by_head : (c : ℕ) → c < n → own_head heads c ≡ is_first lengths c
  first_by_head c l = ap (eqb c) (H.head c l)

  -- two rows are of one thread exactly when they have one head
  pub same_by_head : (x y : ℕ) → x < n → y < n → eqb (get_or heads x 0) (get_or heads y 0) ≡ eqb (thread_of lengths x) (thread_of lengths y)
  same_by_head x y hx hy = rw (H.head x hx, H.head y hy) (same_head lengths x y)
