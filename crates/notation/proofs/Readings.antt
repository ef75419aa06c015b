-- What a reading answers is what the grammar says of the text; and no other answer meets the promise. Assumes nothing.
use mathlib.Core.Path.{◌≡◌, refl, ap, sym, subst, ◌∙◌}
use mathlib.Core.Logic.{◌⊎◌, inl, inr}
use mathlib.Core.Bool.{Bool, true, false, cond, ◌||◌, true≢false}
use mathlib.Core.List.{List}
use mathlib.Core.Option.{Option, none, some}
use Rattle.std.specs.Prelude.{Ok, Err}
use Prim.Native.Nat.{ℕ, ◌+◌, ◌*◌, ◌/◌, ◌≤◌, ◌<◌}
use native.Mathlib.Omega.{arith}
use lib.Dec.{ltb}
use lib.ListN.{length, length-map}
use borrow.Author.Tests.{lt-ltb, le-ltb, ltb-true, ltb-false}
use Rattle.tables.specs.Limits.{most_rows, most_threads}
use Rattle.spelling.specs.Machine.{Outcome, outcome, found, flat}
use Rattle.tables.specs.Over.{over}
use Rattle.spelling.proofs.Cuts.{start_inside}
use Rattle.spelling.proofs.Spelt.{spelt_tokens}
use Rattle.spelling.proofs.Refusals as R
use Rattle.grammar.specs.declared.tokens.Token.{Token}
use Rattle.grammar.specs.declared.automaton.State.TheVariants.{Word}
use Rattle.notation.specs.declared.scan.Sizes.{Sizes}
use Rattle.notation.specs.declared.reading.Unread.TheVariants.{Unfit, Over}
use Rattle.grammar.specs.Grammar as G
use Rattle.grammar.specs.Grammar.{Listing, Denotes, Spells, row_of, all_commands, threads, listing_rows, listing_lengths}
use Rattle.grammar.specs.Automaton.{next_move, may_end}
use Rattle.notation.specs.Reading.{most_bytes, read_of, row_numbers, thread_lengths, sizes, Scanned, Reading, scanned_by, scanned_of, answered, is_too_many, answer_of, reading, written}
use Rattle.notation.specs.Needs.{Rooms}
use Rattle.grammar.specs.Tokens.{starts, size_of}
use Rattle.notation.specs.Promise.{Within, GivesTables, RefusedAt, ByGrammar, Read}
use Rattle.grammar.proofs.Lexes.{pos, most}
use Rattle.grammar.proofs.Listings.{listing_found}
use Rattle.grammar.proofs.Grammars.{lexer, grammar}
use Rattle.notation.proofs.Passes.{flat_long}

-- a text that denotes a program: what is found in it are the program's tables
pub denoted_found : (text : List ℕ) (x : Listing) → Denotes text x → read_of text ≡ outcome (listing_rows x) (listing_lengths x) none
denoted_found text x d = ap (λ (ts : List Token). found next_move may_end ts Word 0) (spelt_tokens lexer d) ∙ listing_found x

many_rows : (x : Listing) → length (listing_rows x) ≡ length (all_commands (threads x))
many_rows x = length-map (all_commands (threads x)) row_of

many_lengths : (x : Listing) → length (listing_lengths x) ≡ length (threads x)
many_lengths x = length-map (threads x) (λ (t : List G.Command). length t)

denoted_judged : (text : List ℕ) (x : Listing) → Denotes text x → scanned_of text ≡ Ok (sizes (length (all_commands (threads x))) (length (threads x)))
unfolding scanned_of
denoted_judged text x d = rw (denoted_found text x d, many_rows x, many_lengths x)

-- what a judgement says of a text
abbrev Says : List ℕ → Scanned → Type 0
Says text (Err p) = RefusedAt text p
Says text (Ok s) = (x : Listing) × Denotes text x

says : (text : List ℕ) → Says text (scanned_of text)
unfolding scanned_of
says text = by_stop (read_of text).stop refl
  where
    by_stop : (o : Option ℕ) → (read_of text).stop ≡ o → Says text (scanned_by (starts text) (length text) (length (read_of text).rows) (length (read_of text).lengths) o)
    by_stop none e = let (w, s) = R.passes lexer grammar text e in (w.0, subst (λ (ts : List Token). Spells text ts) w.1 s)
    by_stop (some i) e = R.refuses lexer grammar text i e

-- a text that is refused denotes nothing
refused_judged : (text : List ℕ) (p : ℕ) → RefusedAt text p → scanned_of text ≡ Err p
refused_judged text p h = by_judged (scanned_of text) (says text)
  where
    by_judged : (j : Scanned) → Says text j → j ≡ Err p
    by_judged (Err q) k = ap Err (R.refused_one k h)
    by_judged (Ok s) (x, d) = absurd (R.refused_not h (x, spelt_tokens lexer d))

-- document 01's numbers tell the answers apart
answered_one : (r q : Reading) → answered r ≡ answered q → r ≡ q
answered_one (Err (Unfit p)) (Err (Unfit q)) e = let h : p ≡ q = ap (λ a. a.told.place) e in cc
answered_one (Err (Unfit p)) (Err Over) e = let z : ◌≡◌ {A = ℕ} 12 13 = ap (λ a. a.told.number) e in absurd (omega arith)
answered_one (Err (Unfit p)) (Ok s) e = let z : ◌≡◌ {A = ℕ} 12 0 = ap (λ a. a.told.number) e in absurd (omega arith)
answered_one (Err Over) (Err (Unfit q)) e = let z : ◌≡◌ {A = ℕ} 13 12 = ap (λ a. a.told.number) e in absurd (omega arith)
answered_one (Err Over) (Err Over) e = refl
answered_one (Err Over) (Ok s) e = let z : ◌≡◌ {A = ℕ} 13 0 = ap (λ a. a.told.number) e in absurd (omega arith)
answered_one (Ok s) (Err (Unfit q)) e = let z : ◌≡◌ {A = ℕ} 0 12 = ap (λ a. a.told.number) e in absurd (omega arith)
answered_one (Ok s) (Err Over) e = let z : ◌≡◌ {A = ℕ} 0 13 = ap (λ a. a.told.number) e in absurd (omega arith)
answered_one (Ok s) (Ok q) e = ap (λ a. Ok (sizes a.command_count a.thread_count)) e

-- the reading that a judgement gives, within the limits or not
abbrev limited : Scanned → ℕ → ℕ → Reading
limited (Err p) c l = Err (Unfit p)
limited (Ok s) c l = cond (is_too_many s.commands s.threads c l) (Err Over) (Ok s)

answered_limited : (j : Scanned) (c l : ℕ) → answered (limited j c l) ≡ answer_of j c l
answered_limited (Err p) c l = refl
answered_limited (Ok s) c l = by_test (is_too_many s.commands s.threads c l)
  where
    by_test : (b : Bool) → answered (cond b (Err Over) (Ok s)) ≡ cond b (answered (Err Over)) (answered (Ok s))
    by_test true = refl
    by_test false = refl

-- within the limits and the rooms
abbrev Few : ℕ → ℕ → ℕ → ℕ → Type 0
Few m t c l = (m ≤ most_rows) × (t ≤ most_threads) × (m * 3 ≤ c) × (t ≤ l)

module _ (m t c l : ℕ) where
  few : is_too_many m t c l ≡ false → Few m t c l
  unfolding is_too_many
  few e =
      let (p, q, r, s) = none_of (ltb most_rows m) (ltb most_threads t) (ltb (c / 3) m) (ltb l t) e in
      (ltb-false _ _ p, ltb-false _ _ q, omega (arith, ltb-false (c / 3) m r), ltb-false _ _ s)
    where
      none_of : (p q r s : Bool) → (p || q || r || s) ≡ false → (p ≡ false) × (q ≡ false) × (r ≡ false) × (s ≡ false)
      none_of false false false false e = (refl, refl, refl, refl)
      none_of false false false true e = absurd (true≢false e)
      none_of false false true s e = absurd (true≢false e)
      none_of false true r s e = absurd (true≢false e)
      none_of true q r s e = absurd (true≢false e)

  few_enough : Few m t c l → is_too_many m t c l ≡ false
  unfolding is_too_many
  few_enough f = rw (le-ltb _ _ f.0, le-ltb _ _ f.1, le-ltb (c / 3) m (omega (arith, f.2)), le-ltb _ _ f.3)

module _ (text : List ℕ) (c l : ℕ) where
  abbrev long : Bool
  long = ltb most_bytes (length text)

  -- what the text is read as
  abbrev pub reads : Reading
  reads = cond long (Err Over) (limited (scanned_of text) c l)

  pub answered_reads : answered reads ≡ reading text c l
  unfolding reading
  answered_reads = by_test long
    where
      by_test : (b : Bool) → answered (cond b (Err Over) (limited (scanned_of text) c l)) ≡ cond b (answered (Err Over)) (answer_of (scanned_of text) c l)
      by_test true = refl
      by_test false = answered_limited (scanned_of text) c l

  -- an answer that meets the equation is this one
  answer_is : (r : Reading) → answered r ≡ reading text c l → r ≡ reads
  answer_is r e = answered_one r reads (e ∙ sym answered_reads)

  module _ (x : Listing) where
    abbrev FewOf : Type 0
    FewOf = Few (length (all_commands (threads x))) (length (threads x)) c l

    within : length text ≤ most_bytes → FewOf → Within text c l x
    within h f = record { bytes = h; few_rows = f.0; few_threads = f.1; room = f.2; places = f.3 }

    within_few : Within text c l x → FewOf
    within_few w = (w.few_rows, w.few_threads, w.room, w.places)

    pub denoted_reads : Denotes text x → Within text c l x → reads ≡ Ok (sizes (length (all_commands (threads x))) (length (threads x)))
    denoted_reads d w = rw (le-ltb most_bytes (length text) w.bytes, denoted_judged text x d, few_enough _ _ c l (within_few w))

-- a place where a text is refused stands in it, or at its end
refused_inside : (text : List ℕ) (p : ℕ) → RefusedAt text p → p ≤ length text
refused_inside text p k =
    let z : 0 + length text ≡ length text = omega arith in
    rw k.place (rw z at (start_inside size_of pos most k.before text 0))

-- what each answer means
abbrev pub Stands : List ℕ → ℕ → ℕ → Reading → Type 0
Stands text c l (Err (Unfit p)) = (length text ≤ most_bytes) × (p ≤ length text) × RefusedAt text p
Stands text c l (Err Over) = (most_bytes < length text) ⊎ ((x : Listing) × Denotes text x × ¬ Within text c l x)
Stands text c l (Ok s) = (x : Listing) × Denotes text x × Within text c l x

module _ (text : List ℕ) (c l : ℕ) where
  means_denoted : (x : Listing) → Denotes text x → length text ≤ most_bytes → (b : Bool) → is_too_many (length (all_commands (threads x))) (length (threads x)) c l ≡ b
      → Stands text c l (cond b (Err Over) (Ok (sizes (length (all_commands (threads x))) (length (threads x)))))
  means_denoted x d h true e = inr (x, d, λ w. true≢false (sym e ∙ few_enough _ _ c l (within_few text c l x w)))
  means_denoted x d h false e = (x, d, within text c l x h (few _ _ c l e))

  means_limited : (j : Scanned) → scanned_of text ≡ j → Says text j → length text ≤ most_bytes → Stands text c l (limited j c l)
  means_limited (Err p) e k h = (h, refused_inside text p k, k)
  means_limited (Ok s) e (x, d) h =
      let q : Ok (sizes (length (all_commands (threads x))) (length (threads x))) ≡ Ok s = sym (denoted_judged text x d) ∙ e in
      subst (λ (j : Scanned). Stands text c l (limited j c l)) q (means_denoted x d h (is_too_many (length (all_commands (threads x))) (length (threads x)) c l) refl)

  means : (b : Bool) → ltb most_bytes (length text) ≡ b → Stands text c l (cond b (Err Over) (limited (scanned_of text) c l))
  means true e = inl (ltb-true most_bytes (length text) e)
  means false e = means_limited (scanned_of text) refl (says text) (ltb-false most_bytes (length text) e)

  pub reads_means : Stands text c l (reads text c l)
  reads_means = means (ltb most_bytes (length text)) refl

-- what is not accepted writes nothing
unwritten : (r : Reading) → ((s : Sizes) → ¬ (r ≡ Ok s)) → (new old : List ℕ) → written r new old ≡ old
unwritten (Err (Unfit p)) n new old = refl
unwritten (Err Over) n new old = refl
unwritten (Ok s) n new old = absurd (n s refl)

module _ (text commands lengths commands' lengths' : List ℕ) (r : Reading) (e : answered r ≡ reading text (length commands) (length lengths)) where
  abbrev c : ℕ
  c = length commands

  abbrev l : ℕ
  l = length lengths

  meaning : Stands text c l r
  meaning = subst (Stands text c l) (sym (answer_is text c l r e)) (reads_means text c l)

  short : length text ≤ most_bytes → r ≡ limited (scanned_of text) c l
  short h = answer_is text c l r e ∙ rw (le-ltb most_bytes (length text) h)

  module _ (rows : commands' ≡ written r (row_numbers text) commands) (lens : lengths' ≡ written r (thread_lengths text) lengths) where
    accepts : (x : Listing) → Denotes text x → Within text c l x → GivesTables commands lengths commands' lengths' r x
    accepts x d w =
        let q : r ≡ Ok (sizes (length (all_commands (threads x))) (length (threads x))) = answer_is text c l r e ∙ denoted_reads text c l x d w in
        record {
          many = q;
          rows = rows ∙ ap (λ (z : Reading). written z (row_numbers text) commands) q ∙ ap (λ (o : Outcome). over (flat o.rows) commands) (denoted_found text x d);
          lens = lens ∙ ap (λ (z : Reading). written z (thread_lengths text) lengths) q ∙ ap (λ (o : Outcome). over o.lengths lengths) (denoted_found text x d);
        }

    grammatical : ByGrammar text commands lengths commands' lengths' r
    grammatical =
        record {
          accepts = accepts;
          accepted = λ s q. subst (Stands text c l) q meaning;
          refuses = λ p q. subst (Stands text c l) q meaning;
          refused = λ p h k. short h ∙ rw (refused_judged text p k);
          too_much = λ q. subst (Stands text c l) q meaning;
          untouched = λ n. (rows ∙ unwritten r n (row_numbers text) commands, lens ∙ unwritten r n (thread_lengths text) lengths);
        }

    pub promised : Read text commands lengths commands' lengths' r
    promised = record { answers = e; rows_hold = rows; lengths_hold = lens; by_grammar = grammatical }

-- no other answer, and no other tables
pub read_one : {text commands lengths a b a' b' : List ℕ} {r r' : Reading} → Read text commands lengths a b r → Read text commands lengths a' b' r'
    → (r ≡ r') × (a ≡ a') × (b ≡ b')
read_one {text} {commands} {lengths} {r = r} {r' = r'} x y =
    let q : r ≡ r' = answered_one r r' (x.answers ∙ sym y.answers) in
    (q, x.rows_hold ∙ ap (λ (z : Reading). written z (row_numbers text) commands) q ∙ sym y.rows_hold, x.lengths_hold ∙ ap (λ (z : Reading). written z (thread_lengths text) lengths) q ∙ sym y.lengths_hold)

-- what `read` has found at each of its returns
module _ (text : List ℕ) (c l : ℕ) where
  pub reading_long : most_bytes < length text → answered (Err Over) ≡ reading text c l
  unfolding reading
  reading_long h = rw (lt-ltb most_bytes (length text) h)

  module _ (h : length text ≤ most_bytes) where
    judged : (j : Scanned) → scanned_of text ≡ j → answer_of j c l ≡ reading text c l
    unfolding reading
    judged j e = rw (le-ltb most_bytes (length text) h, e)

    pub reading_unfit : (p : ℕ) → scanned_of text ≡ Err p → answered (Err (Unfit p)) ≡ reading text c l
    reading_unfit p e = judged (Err p) e

    module _ (s : Sizes) (e : scanned_of text ≡ Ok s) where
      limits : (b : Bool) → is_too_many s.commands s.threads c l ≡ b → cond b (answered (Err Over)) (answered (Ok s)) ≡ reading text c l
      limits b q = ap (λ (z : Bool). cond z (answered (Err Over)) (answered (Ok s))) (sym q) ∙ judged (Ok s) e

      pub reading_over : is_too_many s.commands s.threads c l ≡ true → answered (Err Over) ≡ reading text c l
      reading_over q = limits true q

      pub reading_accepted : is_too_many s.commands s.threads c l ≡ false → answered (Ok s) ≡ reading text c l
      reading_accepted q = limits false q

-- and what the writing pass asks
judged_many : (text : List ℕ) (s : Sizes) → scanned_of text ≡ Ok s → (length (read_of text).rows ≡ s.commands) × (length (thread_lengths text) ≡ s.threads)
unfolding scanned_of
judged_many text s e = by_stop (read_of text).stop e
  where
    by_stop : (o : Option ℕ) → scanned_by (starts text) (length text) (length (read_of text).rows) (length (read_of text).lengths) o ≡ Ok s
        → (length (read_of text).rows ≡ s.commands) × (length (thread_lengths text) ≡ s.threads)
    by_stop none q = (cc, cc)
    by_stop (some i) q = absurd (cc)

pub judged_rooms : (text commands lengths : List ℕ) (s : Sizes) → scanned_of text ≡ Ok s → is_too_many s.commands s.threads (length commands) (length lengths) ≡ false → Rooms text commands lengths
judged_rooms text commands lengths s e q =
    let f = few s.commands s.threads (length commands) (length lengths) q in
    let n = judged_many text s e in
    record {
      few_rows = omega (arith, f.0, n.0);
      rows = omega (arith, f.2, n.0, flat_long (read_of text).rows);
      lens = omega (arith, f.3, n.1);
    }

-- the grammar's clauses alone leave no other answer, and no other tables, either
module _ {text commands lengths a b a' b' : List ℕ} where
  same_answer : (r r' : Reading) → ByGrammar text commands lengths a b r → ByGrammar text commands lengths a' b' r' → r ≡ r'
  same_answer (Err (Unfit p)) r' x y = let (h, i, k) = x.refuses p refl in sym (y.refused p h k)
  same_answer (Err Over) (Err (Unfit q)) x y = let (h, i, k) = y.refuses q refl in x.refused q h k
  same_answer (Err Over) (Err Over) x y = refl
  same_answer (Err Over) (Ok s) x y = let (z, d, w) = y.accepted s refl in (x.accepts z d w).many ∙ sym (y.accepts z d w).many
  same_answer (Ok s) r' x y = let (z, d, w) = x.accepted s refl in (x.accepts z d w).many ∙ sym (y.accepts z d w).many

  same_tables : (r : Reading) → ByGrammar text commands lengths a b r → ByGrammar text commands lengths a' b' r → (a ≡ a') × (b ≡ b')
  same_tables (Err u) x y =
      let (p, q) = x.untouched (λ s (e : Err u ≡ Ok s). cc) in
      let (p', q') = y.untouched (λ s (e : Err u ≡ Ok s). cc) in
      (p ∙ sym p', q ∙ sym q')
  same_tables (Ok s) x y =
      let (z, d, w) = x.accepted s refl in
      let h = x.accepts z d w in
      let h' = y.accepts z d w in
      (h.rows ∙ sym h'.rows, h.lens ∙ sym h'.lens)

  pub grammar_one : (r r' : Reading) → ByGrammar text commands lengths a b r → ByGrammar text commands lengths a' b' r' → (r ≡ r') × (a ≡ a') × (b ≡ b')
  grammar_one r r' x y =
      let q = same_answer r r' x y in
      let (p, s) = same_tables r x (subst (ByGrammar text commands lengths a' b') (sym q) y) in
      (q, p, s)
