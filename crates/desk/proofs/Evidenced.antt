-- What is printed of evidence for a text is that of its definition, has room, and is so. Assumes nothing.
use mathlib.Core.Path.{◌≡◌, refl, sym, ap, ap₂, ◌∙◌, subst}
use mathlib.Core.Logic.{◌⊎◌, inl, inr, ⊎_elim, by_cases, ◌≢◌}
use mathlib.Core.Bool.{true, false}
use mathlib.Core.List.{List, ◌++◌}
use Rattle.std.specs.Prelude.{Ok, Err}
use Prim.Native.Nat.{ℕ, ◌*◌, ◌≤◌, ◌<◌}
use native.Mathlib.Decide.{ℕ_discrete, dec_lt}
use native.Mathlib.Omega.{arith}
use lib.ListN.{length, get_or, take, length-append}
use borrow.Author.Tests.{eq-eqb, ne_eqb}
use Rattle.tables.specs.Limits.{most_rows}
use Rattle.tables.specs.Rows.{rows}
use Rattle.verdicts.specs.Numbers.{has_pairs, fills, is_unread}
use Rattle.verdicts.specs.declared.Told.{Told}
use Rattle.verdicts.proofs.Numbers.{pairs_fill, refusal_unfilled, unread_unfilled, no_pairs}
use Rattle.relation.specs.Table.{words, related}
use Rattle.relation.proofs.Truth.{clashing, split}
use Rattle.notation.specs.declared.reading.Unread.TheVariants.{Unfit, Over}
use Rattle.notation.specs.Reading.{Reading}
use Rattle.replay.specs.Writer.{schedule}
use Rattle.steps.specs.Going.{played}
use Rattle.steps.specs.Ending.{judged}
use Rattle.verdicts.specs.FirstTold.{or_else}
use Rattle.verdicts.proofs.FirstTold.{or_first, or_second}
use Rattle.replay.proofs.Places.{generation_placed}
use Rattle.replay.proofs.Plays.{clean_through}
use Rattle.sheet.specs.declared.Sheet.{Sheet}
use Rattle.sheet.specs.Sheet.{pair, kept_pairs}
use Rattle.rooms.specs.Refusals.{review_refusal}
use Rattle.rooms.specs.Rooms.{number_at}
use Rattle.rooms.proofs.Refusals.{admitted}
use Rattle.happens.proofs.Reaching.{related_reaches}
use Rattle.findings.specs.Findings.{fault_told}
use Rattle.review.specs.Judge.{verdict_of, generations_by, reaches}
use Rattle.review.proofs.Reviews.{refused_refusal}
use Rattle.review.proofs.Rooms.{put_front}
use Rattle.evidence.proofs.Verdicts as verdicts
use Rattle.evidence.proofs.Verdicts.{Gives, ten_commands, ten_disputes, eleven_commands, eleven_orders}
use Rattle.exhibits.specs.Exhibits.{exhibited}
use Rattle.exhibits.proofs.Doors.{exhibited_none, exhibited_all, exhibits_none}
use Rattle.exhibits.proofs.Alike.{Named, exhibits_alike}
use Rattle.exhibits.proofs.Long.{exhibits_short}
use Rattle.exhibits.proofs.True.{shown_true}
use Rattle.printing.specs.declared.Printer.{Printer}
use Rattle.printing.specs.Putting.{Prints}
use Rattle.printing.proofs.Placing.{puts_on, puts_over}
use Rattle.report.specs.declared.Conclusion.{Conclusion}
use Rattle.desk.specs.declared.conclusion.Concluded.{Concluded}
use Rattle.desk.specs.Conclusion.{told_of, of_tables, read_as, of_text, bare}
use Rattle.report.specs.Report.{report}
use Rattle.desk.specs.Promise.{least_room}
use Rattle.desk.specs.Needs.{FilledRooms, Concludes}
use Rattle.desk.specs.Evidence.{least_evidence, commands_of, lengths_of, offered, generations_of, reaches_of, text_exhibits, Against, BothOrders, TextEvidenced}
use Rattle.desk.proofs.Demands.{taken, read_told, tables_told, text_judged}
use Rattle.desk.proofs.Reports.{text_short, longest_fits}

-- ---- two tables that are told 10 or 11 by the writer's schedule

module _ (commands lengths : List ℕ) (l : has_pairs (of_tables commands lengths).told.number ≡ true) where
  abbrev σ : List ℕ
  σ = schedule commands lengths

  number_is : (of_tables commands lengths).told.number ≡ (told_of commands lengths).number
  number_is = ap (λ (t : Told). t.number) (tables_told commands lengths)

  full : fills (told_of commands lengths).number ≡ true
  full = subst (λ (n : ℕ). fills n ≡ true) number_is (pairs_fill (of_tables commands lengths).told.number l)

  pub tables_pass : (review_refusal commands lengths (words most_rows) most_rows).number ≡ 0
  unfolding verdict_of
  tables_pass =
      let a = review_refusal commands lengths (words most_rows) most_rows in
      by_cases (ℕ_discrete a.number 0) (λ (e : a.number ≡ 0). e)
      (λ (n : a.number ≢ 0).
      let f : fills a.number ≡ true = subst (λ (t : Told). fills t.number ≡ true) (sym (or_first a (or_else (judged lengths (played commands lengths σ)) (fault_told commands lengths (generations_by commands lengths σ) (reaches commands lengths σ))) n)) full in
      clashing f (refusal_unfilled a.number (refused_refusal commands lengths (words most_rows) most_rows n)))

  pub tables_gives : Gives commands lengths σ (of_tables commands lengths).told.number (of_tables commands lengths).sheet
  unfolding verdict_of of_tables
  tables_gives =
      record {
        keeps = (admitted commands lengths (words most_rows) most_rows tables_pass).keeps;
        told = number_is ∙ ap (λ (t : Told). t.number) (sym (or_second (review_refusal commands lengths (words most_rows) most_rows) _ tables_pass));
        sheet = λ _. rw full;
      }

-- ---- a text

module _ (text : List ℕ) where
  abbrev n : ℕ
  n = (of_text text).told.number

  abbrev s : Sheet
  s = (of_text text).sheet

  -- a text that is told 10 or 11 is read
  by_reading : (r : Reading) → taken text ≡ r → ((read_as text).number ≡ 0) ⊎ (is_unread (read_as text).number ≡ true)
  by_reading (Err (Unfit p)) e = inr (ap (λ (t : Told). is_unread t.number) (read_told text e))
  by_reading (Err Over) e = inr (ap (λ (t : Told). is_unread t.number) (read_told text e))
  by_reading (Ok s) e = inl (ap (λ (t : Told). t.number) (read_told text e))

  not_read : (read_as text).number ≢ 0 → of_text text ≡ bare (read_as text)
  unfolding of_text
  not_read d = rw (ne_eqb (read_as text).number 0 d)

  pub fault_read : has_pairs n ≡ true → (read_as text).number ≡ 0
  fault_read l =
      by_cases (ℕ_discrete (read_as text).number 0) (λ (z : (read_as text).number ≡ 0). z)
      (λ (d : (read_as text).number ≢ 0).
      ⊎_elim (λ z. z)
      (λ (u : is_unread (read_as text).number ≡ true).
      clashing (subst (λ (k : Conclusion). fills k.told.number ≡ true) (not_read d) (pairs_fill n l)) (unread_unfilled (read_as text).number u))
      (by_reading (taken text) refl))

  module _ (z : (read_as text).number ≡ 0) where
    text_is : of_text text ≡ of_tables (commands_of text) (lengths_of text)
    unfolding of_text
    text_is = rw (eq-eqb (read_as text).number 0 z)

    table_pairs : has_pairs n ≡ true → has_pairs (of_tables (commands_of text) (lengths_of text)).told.number ≡ true
    table_pairs = subst (λ (k : Conclusion). has_pairs k.told.number ≡ true) text_is

    text_gives : has_pairs n ≡ true → Gives (commands_of text) (lengths_of text) (offered text) n s
    text_gives l =
        subst (λ (k : Conclusion). Gives (commands_of text) (lengths_of text) (offered text) k.told.number k.sheet) (sym text_is)
        (tables_gives (commands_of text) (lengths_of text) (table_pairs l))

    text_passes : has_pairs n ≡ true → (review_refusal (commands_of text) (lengths_of text) (words most_rows) most_rows).number ≡ 0
    text_passes l = tables_pass (commands_of text) (lengths_of text) (table_pairs l)

  named : has_pairs n ≡ true → Named (commands_of text) n s
  named l = let G = text_gives (fault_read l) l in record { reuse = ten_commands G; races = eleven_commands G }

  -- ---- they have room

  exhibits_few : length (text_exhibits text) ≤ 32 * 1600
  unfolding text_exhibits most_rows
  exhibits_few =
      ⊎_elim
      (λ (t : has_pairs n ≡ true).
      let G = text_gives (fault_read t) t in
      exhibits_short G.keeps (generations_of text)
      (λ c l. omega (arith, generation_placed G.keeps (offered text) (verdicts.clean G t).through c l)) (reaches_of text) n s (named t))
      (λ (f : has_pairs n ≡ false).
      let (a, b) = no_pairs n f in
      omega (arith, ap length (exhibits_none (commands_of text) (lengths_of text) (generations_of text) (reaches_of text) n s a b)))
      (split (has_pairs n))

  pub all_fits : length (report (of_text text) ++ text_exhibits text) ≤ least_evidence
  unfolding least_evidence least_room
  all_fits = omega (arith, length-append (report (of_text text)) (text_exhibits text), text_short text, longest_fits, exhibits_few)

  -- ---- they are so

  pub ten_so : n ≡ 10 → Against text
  ten_so e =
      let t : has_pairs n ≡ true = rw e in
      let G = text_gives (fault_read t) t in
      let D = ten_disputes G e in
      record { disputes = D; so = shown_true (commands_of text) (lengths_of text) (generations_of text) _ D.other }

  pub eleven_so : n ≡ 11 → (k : ℕ) → k < length (kept_pairs s) → BothOrders text (get_or (kept_pairs s) k (pair 0 0))
  eleven_so e k l =
      let t : has_pairs n ≡ true = rw e in
      let (a, b) = eleven_orders (text_gives (fault_read t) t) e k l in
      record { x_first = a; y_first = b }

-- ---- what `put_exhibits` has put, over the rooms that a conclusion left

module _ {text relation generations : List ℕ} {r : Concluded} {commands' lengths' relation' generations' : List ℕ}
    (C : Concludes text relation generations r commands' lengths' relation' generations') (wide : length relation ≡ words most_rows)
    (wide' : length relation' ≡ words most_rows) (high' : length generations' ≡ most_rows) where
  abbrev c : List ℕ
  c = commands_of text

  abbrev l : List ℕ
  l = lengths_of text

  abbrev k : ℕ
  k = (of_text text).told.number

  abbrev t : Sheet
  t = (of_text text).sheet

  -- for 10 and 11, over the text's tables and what the rooms hold
  module _ (faulty : has_pairs k ≡ true) where
    z : (read_as text).number ≡ 0
    z = fault_read text faulty

    G : Gives c l (offered text) k t
    G = text_gives text z faulty

    H : FilledRooms c l relation generations relation' generations'
    H = C.holds z (subst (λ (k : Conclusion). has_pairs k.told.number ≡ true) (sym C.concludes) faulty)

    same_numbers : (x : ℕ) → x < rows c → number_at generations' x ≡ generations_of text x
    same_numbers x h =
        let T = clean_through G.keeps (offered text) (verdicts.clean G faulty).through in
        ap (λ (g : List ℕ). get_or g x 0) H.numbers
        ∙ put_front (played c l (offered text)).generations generations (rows c) (omega (arith, G.keeps.few_rows, T.gens.long)) x h

    same_reach : (x y : ℕ) → x < rows c → y < rows c → related relation' (rows c) x y ≡ reaches_of text x y
    same_reach = related_reaches c l (generations_of text) relation relation' H.reached (omega (arith, wide, (admitted c l (words most_rows) most_rows (text_passes text z faulty)).relation_fits))

    faults_are : exhibited c l generations' relation' k t ≡ text_exhibits text
    unfolding text_exhibits
    faults_are =
        exhibited_all c l generations' relation' (rw (wide', high') (text_passes text z faulty)) k t
        ∙ exhibits_alike G.keeps (number_at generations') (generations_of text) (related relation' (rows c)) (reaches_of text) same_numbers same_reach k t (named text faulty)

  -- others have none
  none_are : has_pairs k ≡ false → (cs ls : List ℕ) → exhibited cs ls generations' relation' k t ≡ text_exhibits text
  unfolding text_exhibits
  none_are f cs ls =
      let (a, b) = no_pairs k f in
      by_cases (ℕ_discrete (review_refusal cs ls (length relation') (length generations')).number 0)
      (λ (z : (review_refusal cs ls (length relation') (length generations')).number ≡ 0).
      exhibited_all cs ls generations' relation' z k t ∙ exhibits_none cs ls (number_at generations') (related relation' (rows cs)) k t a b)
      (λ (d : (review_refusal cs ls (length relation') (length generations')).number ≢ 0). exhibited_none cs ls generations' relation' d k t)
      ∙ sym (exhibits_none c l (generations_of text) (reaches_of text) k t a b)

  pub exhibits_are : exhibited (take r.numbers commands') (take r.threads lengths') generations' relation' r.conclusion.told.number r.conclusion.sheet ≡ text_exhibits text
  exhibits_are =
      ap (λ (q : Conclusion). exhibited (take r.numbers commands') (take r.threads lengths') generations' relation' q.told.number q.sheet) C.concludes
      ∙ ⊎_elim
      (λ (p : has_pairs k ≡ true).
      let z = fault_read text p in
      ap₂ (λ (cs ls : List ℕ). exhibited cs ls generations' relation' k t) (C.numbers z) (C.threads z) ∙ faults_are p)
      (λ (f : has_pairs k ≡ false). none_are f (take r.numbers commands') (take r.threads lengths'))
      (split (has_pairs k))

  pub evidenced_text : {p q q' : Printer} {room : List ℕ} → least_evidence ≤ length p.room.now → p.at ≡ 0 → Prints p q (report r.conclusion)
      → Prints q q' (exhibited (take r.numbers commands') (take r.threads lengths') generations' relation' r.conclusion.told.number r.conclusion.sheet)
      → room ≡ q'.room.now → TextEvidenced text p.room.now room r.conclusion.told.number
  evidenced_text h z f g e =
      let told_is : r.conclusion.told.number ≡ (of_text text).told.number = ap (λ (k : Conclusion). k.told.number) C.concludes in
      record {
        refuses = λ g. absurd (omega arith);
        answers = λ _. told_is;
        prints = λ _. e ∙ puts_over z (puts_on (rw C.concludes at f) (rw exhibits_are at g)) (omega (arith, all_fits text));
        demand₃ = λ _. rw told_is (text_judged text);
        reuse = λ e. ten_so text (sym told_is ∙ e);
        races = λ e. eleven_so text (sym told_is ∙ e);
      }

pub evidence_refused : (text : List ℕ) {room : List ℕ} → length room < least_evidence → TextEvidenced text room room 14
evidence_refused text h =
    record {
      refuses = λ _. (refl, refl);
      answers = λ g. absurd (omega arith);
      prints = λ g. absurd (omega arith);
      demand₃ = λ g. absurd (omega arith);
      reuse = λ e. absurd (omega (arith, e));
      races = λ e. absurd (omega (arith, e));
    }

-- no other answer, and no other bytes
pub text_evidence_one : {text room a b : List ℕ} {m n : ℕ} → TextEvidenced text room a m → TextEvidenced text room b n → (m ≡ n) × (a ≡ b)
text_evidence_one {room = room} x y =
    by_cases (dec_lt (length room) least_evidence)
    (λ (l : length room < least_evidence).
    let (e, p) = x.refuses l in
    let (f, q) = y.refuses l in
    (e ∙ sym f, p ∙ sym q))
    (λ (n : ¬ (length room < least_evidence)).
    let l : least_evidence ≤ length room = omega arith in
    (x.answers l ∙ sym (y.answers l), x.prints l ∙ sym (y.prints l)))
