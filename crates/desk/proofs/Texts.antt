-- A text read into full tables, and what is concluded from it. Assumes nothing.
use mathlib.Core.Path.{refl, ◌≡◌, sym, ap, ◌∙◌, subst}
use mathlib.Core.Logic.{◌≢◌}
use mathlib.Core.List.{List, []}
use Rattle.std.specs.Prelude.{Ok, Err}
use Prim.Native.Nat.{ℕ, ◌*◌, ◌≤◌}
use native.Mathlib.Omega.{arith}
use lib.ListN.{length, take, drop, length-append, length-map}
use lib.Seq.{take_at}
use borrow.Author.Tests.{eq-eqb, ne_eqb}
use Rattle.tables.specs.Limits.{most_rows, most_threads}
use Rattle.verdicts.specs.declared.Told.{Told}
use Rattle.spelling.specs.Machine.{flat, Outcome}
use Rattle.notation.specs.declared.scan.Sizes.{Sizes}
use Rattle.notation.specs.declared.reading.Unread.TheVariants.{Unfit, Over}
use Rattle.grammar.specs.Grammar.{Command, all_commands, threads, listing_rows, listing_lengths}
use Rattle.notation.specs.Reading.{Reading, sizes, row_numbers, thread_lengths, Answer, answered}
use Rattle.notation.specs.Promise.{Read}
use Rattle.notation.proofs.Readings.{denoted_found}
use Rattle.notation.proofs.Tabled.{listing_long}
use Rattle.sheet.specs.declared.Sheet.{Sheet}
use Rattle.sheet.specs.Sheet.{sheet_of}
use Rattle.report.specs.declared.Conclusion.{Conclusion}
use Rattle.desk.specs.Conclusion.{of_tables, read_as, of_text, bare}
use Rattle.desk.specs.Needs.{FilledRooms, JudgesTables, Concludes}

not_accepted : (r : Reading) → ((s : Sizes) → r ≡ Ok s → ⊥) → (answered r).told.number ≢ 0
not_accepted (Err (Unfit p)) h = λ e. omega arith
not_accepted (Err Over) h = λ e. omega arith
not_accepted (Ok s) h = absurd (h s refl)

module _ {text commands lengths commands' lengths' : List ℕ} {r : Reading} (reads : Read text commands lengths commands' lengths' r)
    (wide : length commands ≡ most_rows * 3) (high : length lengths ≡ most_threads) where
  told_as : (answered r).told ≡ read_as text
  told_as = ap (λ (a : Answer). a.told) reads.answers ∙ rw (wide, high)

  pub refused_text : ((s : Sizes) → r ≡ Ok s → ⊥) → {t : Told} → t ≡ (answered r).told → {s : Sheet} → s ≡ sheet_of []
      → {relation generations : List ℕ}
      → Concludes text relation generations (record { conclusion = record { told = t; sheet = s }; numbers = 0; threads = 0 }) commands' lengths' relation generations
  unfolding of_text
  refused_text h {t} e {s} q =
      let n : (read_as text).number ≢ 0 = rw (sym told_as) (not_accepted r h) in
      let p : t ≡ read_as text = e ∙ told_as in
      let z : ◌≡◌ {A = Conclusion} (record { told = t; sheet = s }) (bare (read_as text)) = cc in
      record {
        concludes = rw (ne_eqb (read_as text).number 0 n) z;
        numbers_fit = omega arith;
        threads_fit = omega arith;
        numbers = λ e. absurd (n e);
        threads = λ e. absurd (n e);
        holds = λ e. absurd (n e);
      }

  module _ {y : Sizes} (is : r ≡ Ok y) where
    abbrev m : ℕ
    m = y.commands

    abbrev t : ℕ
    t = y.threads

    -- the program's tables stand first in the rooms
    stand : (take (m * 3) commands' ≡ row_numbers text) × (take t lengths' ≡ thread_lengths text) × (m * 3 ≤ length commands') × (t ≤ length lengths')
    stand =
        let (x, d, w) = reads.by_grammar.accepted y is in
        let h = reads.by_grammar.accepts x d w in
        let f = denoted_found text x d in
        let q : Ok (sizes (length (all_commands (threads x))) (length (threads x))) ≡ Ok y = sym h.many ∙ is in
        let i : length (all_commands (threads x)) ≡ m = cc in
        let j : length (threads x) ≡ t = cc in
        let a : row_numbers text ≡ flat (listing_rows x) = ap (λ (o : Outcome). flat o.rows) f in
        let b : thread_lengths text ≡ listing_lengths x = ap (λ (o : Outcome). o.lengths) f in
        let u : length (flat (listing_rows x)) ≡ m * 3 = omega (arith, listing_long x) in
        let v : length (listing_lengths x) ≡ t = length-map (threads x) (λ (w : List Command). length w) ∙ j in (
          ap (λ (l : List ℕ). take (m * 3) l) h.rows ∙ take_at (flat (listing_rows x)) _ (m * 3) u ∙ sym a,
          ap (λ (l : List ℕ). take t l) h.lens ∙ take_at (listing_lengths x) _ t v ∙ sym b,
          omega (arith, ap (λ (l : List ℕ). length l) h.rows, length-append (flat (listing_rows x)) (drop (length (flat (listing_rows x))) commands)),
          omega (arith, ap (λ (l : List ℕ). length l) h.lens, length-append (listing_lengths x) (drop (length (listing_lengths x)) lengths)),
        )

    pub numbers_fit : m * 3 ≤ length commands'
    numbers_fit = stand.2

    pub threads_fit : t ≤ length lengths'
    threads_fit = stand.3

    pub rows_read : take (m * 3) commands' ≡ row_numbers text
    rows_read = stand.0

    pub lengths_read : take t lengths' ≡ thread_lengths text
    lengths_read = stand.1

    pub accepted_text : {k : Conclusion} {relation generations relation' generations' : List ℕ}
        → JudgesTables (take (m * 3) commands') (take t lengths') relation generations k relation' generations'
        → Concludes text relation generations (record { conclusion = k; numbers = m * 3; threads = t }) commands' lengths' relation' generations'
    unfolding of_text
    accepted_text {k} {relation} {generations} {relation'} {generations'} J =
        let z : (read_as text).number ≡ 0 = ap (λ (a : Told). a.number) (sym told_as) ∙ ap (λ (q : Reading). (answered q).told.number) is in
        let p : k ≡ of_tables (row_numbers text) (thread_lengths text) = J.concludes ∙ rw (rows_read, lengths_read) in
        record {
          concludes = rw (eq-eqb (read_as text).number 0 z) p;
          numbers_fit = numbers_fit;
          threads_fit = threads_fit;
          numbers = λ _. rows_read;
          threads = λ _. lengths_read;
          holds = λ _ l. subst (λ (c : List ℕ). FilledRooms c (thread_lengths text) relation generations relation' generations') rows_read
              (subst (λ (l : List ℕ). FilledRooms (take (m * 3) commands') l relation generations relation' generations') lengths_read (J.holds l));
        }
