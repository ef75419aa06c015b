-- `read` meets its contract: each refusal from the test that found it, with both tables as they were, or the tables written. Assumes nothing.
use mathlib.Core.Path.{◌≡◌, refl, sym, ◌∙◌}
use native.Mathlib.Omega.{arith}
use borrow.Author.Rules.{rules}
use Rattle.std.specs.Prelude.{Ok, Err}
use Rattle.notation.specs.declared.reading.Unread.TheVariants.{Unfit}
use Rattle.notation.specs.Reading.{most_bytes, Scanned}
use Rattle.notation.specs.Promise.{Read}
use Rattle.notation.proofs.Readings.{promised, reading_long, reading_unfit, reading_over, reading_accepted, judged_rooms}
use Rattle.notation.proofs.reading.read.Goals as goal

pub returns-then-text-gt-BYTES : goal.returns-then-text-gt-BYTES
unfolding most_bytes
returns-then-text-gt-BYTES c = promised _ _ _ _ _ _ (reading_long _ _ _ (omega (arith, c.if-text-gt-BYTES.true))) refl refl

pub returns-in_err-sizes : goal.returns-in_err-sizes
unfolding most_bytes
returns-in_err-sizes c = by c.scan.result refl
  where
    by : (r : Scanned) → c.scan.result ≡ r
        → Read c.args.text.now c.args.commands.now c.args.lengths.now c.args.commands.now c.args.lengths.now c.from_residual.result
    by (Ok s) e = absurd (let h = rw e at c.in_err-sizes.ensures.variant in cc)
    by (Err p) e =
        let h = rw e at c.in_err-sizes.ensures.cases in
        let k : c.from_residual.result ≡ Err c.in_err-sizes.field-0.0 = search rules in
        let q : c.from_residual.result ≡ Err (Unfit p) = cc in
        rw q (promised _ _ _ _ _ _ (reading_unfit _ _ _ (omega (arith, c.if-text-gt-BYTES.false)) _ (sym c.scan.ensures ∙ e)) refl refl)

pub returns-then-too_many : goal.returns-then-too_many
unfolding most_bytes
returns-then-too_many c =
    let e : c.scan.result ≡ Ok c.in_ok-sizes.sizes = search rules in
    promised _ _ _ _ _ _
    (reading_over _ _ _ (omega (arith, c.if-text-gt-BYTES.false)) _ (sym c.scan.ensures ∙ e) (sym c.if-too_many.ensures)) refl refl

pub write-requires : goal.write-requires
write-requires c =
    let e : c.scan.result ≡ Ok c.in_ok-sizes.sizes = search rules in
    judged_rooms _ _ _ _ (sym c.scan.ensures ∙ e) (sym c.if-too_many.ensures)

pub returns : goal.returns
unfolding most_bytes
returns c =
    let e : c.scan.result ≡ Ok c.in_ok-sizes.sizes = search rules in
    promised _ _ _ _ _ _
    (reading_accepted _ _ _ (omega (arith, c.if-text-gt-BYTES.false)) _ (sym c.scan.ensures ∙ e) (sym c.if-too_many.ensures))
    c.write.ensures.0 c.write.ensures.1
