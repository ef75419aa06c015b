-- What is concluded from a text, by its grammar: demand 3, and which numbers there are. Assumes nothing.
use mathlib.Core.Path.{◌≡◌, refl, sym, ap, subst, ◌∙◌}
use mathlib.Core.Bool.{Bool, true, false, cond}
use mathlib.Core.Logic.{◌⊎◌, inl, inr, ⊎_elim, by_cases}
use mathlib.Core.List.{List}
use Rattle.std.specs.Prelude.{Ok, Err}
use Prim.Native.Nat.{ℕ, ◌*◌, ◌≤◌, ◌<◌}
use native.Mathlib.Omega.{arith}
use native.Mathlib.Decide.{dec_lt}
use lib.ListN.{length}
use borrow.Author.Tests.{eq-eqb, ne_eqb}
use Rattle.tables.specs.Limits.{most_rows, most_threads}
use Rattle.rules.specs.Rules.{Keeps, checked}
use Rattle.verdicts.specs.Numbers.{fills, is_complete, is_unread}
use Rattle.verdicts.specs.declared.Told.{Told}
use Rattle.verdicts.proofs.Numbers.{settles_complete, disagrees_complete, unread_incomplete}
use Rattle.relation.proofs.Truth.{clashing}
use Rattle.rules.proofs.Rules.{kept, passes, passes_zero}
use Rattle.spelling.specs.Machine.{Outcome, flat}
use Rattle.notation.specs.declared.reading.Unread.TheVariants.{Unfit, Over}
use Rattle.grammar.specs.Grammar.{Listing, Denotes, all_commands, threads, listing_lengths}
use Rattle.notation.specs.Reading.{Reading, most_bytes, Answer, answered, row_numbers, thread_lengths}
use Rattle.notation.specs.Promise.{Within, RefusedAt}
use Rattle.notation.proofs.Readings.{denoted_found, Stands, reads, answered_reads, denoted_reads, reads_means}
use Rattle.notation.proofs.Tabled.{listing_checked}
use Rattle.replay.specs.Writer.{schedule}
use Rattle.replay.specs.Schedules.{Complete}
use Rattle.replay.proofs.Writing.{schedule_complete}
use Rattle.sheet.specs.Sheet.{sheet_of}
use Rattle.review.specs.Agreement.{Judges}
use Rattle.review.proofs.Judging.{judges}
use Rattle.review.proofs.Bounds.{refused_checked, passed_told, complete_number}
use Rattle.report.specs.declared.Conclusion.{Conclusion}
use Rattle.desk.specs.Conclusion.{bare, told_of, pairs_of, of_tables, read_as, of_text}
use Rattle.desk.specs.Promise.{numbers, Reviewable, JudgesText, Possible}

pub tables_told : (commands lengths : List ℕ) → (of_tables commands lengths).told ≡ told_of commands lengths
unfolding of_tables
tables_told commands lengths = by (fills (told_of commands lengths).number)
  where
    by : (b : Bool) → (cond b (record { told = told_of commands lengths; sheet = sheet_of (pairs_of commands lengths) }) (bare (told_of commands lengths))).told ≡ told_of commands lengths
    by true = refl
    by false = refl

module _ (text : List ℕ) where
  abbrev number : ℕ
  number = (of_text text).told.number

  -- the reading into full rooms
  abbrev pub taken : Reading
  taken = reads text (most_rows * 3) most_threads

  pub read_told : {r : Reading} → taken ≡ r → read_as text ≡ (answered r).told
  read_told e = ap (λ (a : Answer). a.told) (sym (answered_reads text (most_rows * 3) most_threads)) ∙ ap (λ (r : Reading). (answered r).told) e

  -- a text that denotes a program within the limits: its tables are judged
  module _ (x : Listing) (d : Denotes text x) (w : Within text (most_rows * 3) most_threads x) where
    abbrev n : List ℕ
    n = numbers x

    abbrev l : List ℕ
    l = listing_lengths x

    pub denoted_concluded : of_text text ≡ of_tables n l
    unfolding of_text
    denoted_concluded =
        let z : (read_as text).number ≡ 0 = ap (λ (t : Told). t.number) (read_told (denoted_reads text (most_rows * 3) most_threads x d w)) in
        let f = denoted_found text x d in
        let a : row_numbers text ≡ n = ap (λ (o : Outcome). flat o.rows) f in
        let b : thread_lengths text ≡ l = ap (λ (o : Outcome). o.lengths) f in
        rw (eq-eqb (read_as text).number 0 z, a, b)

    denoted_told : (of_text text).told ≡ told_of n l
    denoted_told = ap (λ (k : Conclusion). k.told) denoted_concluded ∙ tables_told n l

  -- a reviewable text is judged by the writer's schedule
  module _ {x : Listing} (S : Reviewable text x) where
    passed : (checked (numbers x) (listing_lengths x)).number ≡ 0
    passed = ap (λ (t : Told). t.number) S.keeps

    keeps : Keeps (numbers x) (listing_lengths x)
    keeps = passes (numbers x) (listing_lengths x) S.keeps

    abbrev σ : List ℕ
    σ = schedule (numbers x) (listing_lengths x)

    complete : Complete (numbers x) (listing_lengths x) σ
    complete = schedule_complete keeps

    reviewable_judges : Judges (numbers x) (listing_lengths x) σ number
    reviewable_judges =
        subst (Judges (numbers x) (listing_lengths x) σ) (ap (λ (t : Told). t.number) (sym (denoted_told x S.denotes S.within ∙ passed_told (numbers x) (listing_lengths x) passed σ)))
        (judges keeps σ)

    reviewable_number : is_complete number ≡ true
    reviewable_number =
        subst (λ (t : Told). is_complete t.number ≡ true) (sym (denoted_told x S.denotes S.within))
        (complete_number (numbers x) (listing_lengths x) passed σ complete)

  -- what a text is
  data Kind : Type 0 where
    reviewable : (x : Listing) → Reviewable text x → Kind
    broken : number ≡ 3 → (x : Listing) → Denotes text x → (of_text text).told ≡ checked (numbers x) (listing_lengths x) → Kind
    unread : number ≡ 12 → RefusedAt text (of_text text).told.place → Kind
    over : number ≡ 13 → (most_bytes < length text) ⊎ ((x : Listing) × Denotes text x × ¬ Within text (most_rows * 3) most_threads x) → Kind

  refused_told : {t : Told} → read_as text ≡ t → (t.number ≡ 0 → ⊥) → (of_text text).told ≡ t
  unfolding of_text
  refused_told e z = rw (ne_eqb (read_as text).number 0 (λ y. z (ap (λ (t : Told). t.number) (sym e) ∙ y))) e

  kind : Kind
  kind = by taken refl (reads_means text (most_rows * 3) most_threads)
    where
      by : (r : Reading) → taken ≡ r → Stands text (most_rows * 3) most_threads r → Kind
      by (Err (Unfit p)) e (_, _, s) =
          let q = refused_told (read_told e) (λ z. omega arith) in
          unread (ap (λ (t : Told). t.number) q) (subst (RefusedAt text) (ap (λ (t : Told). t.place) (sym q)) s)
      by (Err Over) e s = over (ap (λ (t : Told). t.number) (refused_told (read_told e) (λ z. omega arith))) s
      by (Ok _) e (x, d, w) =
          ⊎_elim
          (λ (z : (checked (numbers x) (listing_lengths x)).number ≡ 0). reviewable x (record { denotes = d; within = w; keeps = kept (numbers x) (listing_lengths x) (passes_zero (numbers x) (listing_lengths x) z) }))
          (λ (h : (checked (numbers x) (listing_lengths x)).number ≡ 3).
          let q : (of_text text).told ≡ checked (numbers x) (listing_lengths x) = denoted_told x d w ∙ refused_checked (numbers x) (listing_lengths x) (λ z. omega arith) (schedule (numbers x) (listing_lengths x)) _ _ in
          broken (ap (λ (t : Told). t.number) q ∙ h) x d q)
          (listing_checked x w.few_rows w.few_threads)

  -- a reviewable text's number is none of a refusal's
  not_refused : is_complete number ≡ true → (number ≡ 3) ⊎ (is_unread number ≡ true) → ⊥
  not_refused h (inl e) = clashing h (ap is_complete e)
  not_refused h (inr u) = clashing h (unread_incomplete number u)

  -- where a number is one of a reviewable text's, the text is reviewable
  is_reviewable : is_complete number ≡ true → (x : Listing) × Reviewable text x
  is_reviewable h = by kind
    where
      by : Kind → (x : Listing) × Reviewable text x
      by (reviewable x S) = (x, S)
      by (broken e _ _ _) = absurd (not_refused h (inl e))
      by (unread e _) = absurd (not_refused h (inr (rw e)))
      by (over e _) = absurd (not_refused h (inr (rw e)))

  pub text_judged : JudgesText text number
  text_judged =
      record {
        agreement = (
          λ h.
              let (x, S) = is_reviewable (settles_complete number h) in
              (x, S, ((reviewable_judges S).agreement.0 h).1),
          λ (x, S, A). (reviewable_judges S).agreement.1 (complete S, A),
        );
        order = (
          λ h.
              let (x, S) = is_reviewable (rw h) in
              let (_, A, O) = (reviewable_judges S).order.0 h in
              (x, S, A, O),
          λ (x, S, A, O). (reviewable_judges S).order.1 (complete S, A, O),
        );
        disagreement =
            λ d.
            let (x, S) = is_reviewable (disagrees_complete number d) in
            (x, S, (reviewable_judges S).disagreement d);
      }

  -- what is not within the limits
  past : (x : Listing) → ¬ Within text (most_rows * 3) most_threads x → length text ≤ most_bytes → (most_rows < length (all_commands (threads x))) ⊎ (most_threads < length (threads x))
  past x w b =
      by_cases (dec_lt most_rows (length (all_commands (threads x)))) inl
      (λ (r : ¬ (most_rows < length (all_commands (threads x)))).
      by_cases (dec_lt most_threads (length (threads x))) inr
      (λ (t : ¬ (most_threads < length (threads x))).
      absurd (w (record { bytes = b; few_rows = omega arith; few_threads = omega arith; room = omega arith; places = omega arith }))))

  pub text_possible : Possible text (of_text text).told
  text_possible = by kind
    where
      by : Kind → Possible text (of_text text).told
      by (reviewable x S) =
          let h = reviewable_number S in
          record {
            some = inl h;
            broken = λ z. absurd (not_refused h (inl z));
            unfit = λ z. absurd (not_refused h (inr (rw z)));
            too_much = λ z. absurd (not_refused h (inr (rw z)));
          }
      by (broken e x d q) =
          record { some = inr (inl e); broken = λ _. (x, d, q); unfit = λ z. absurd (omega arith); too_much = λ z. absurd (omega arith) }
      by (unread e r) =
          record { some = inr (inr (rw e)); broken = λ z. absurd (omega arith); unfit = λ _. r; too_much = λ z. absurd (omega arith) }
      by (over e s) =
          record {
            some = inr (inr (rw e));
            broken = λ z. absurd (omega arith);
            unfit = λ z. absurd (omega arith);
            too_much =
                λ _.
                ⊎_elim inl
                (λ (p : (x : Listing) × Denotes text x × ¬ Within text (most_rows * 3) most_threads x).
                by_cases (dec_lt most_bytes (length text)) inl
                (λ (b : ¬ (most_bytes < length text)). inr (p.0, p.1, past p.0 p.2 (omega arith))))
                s;
          }
