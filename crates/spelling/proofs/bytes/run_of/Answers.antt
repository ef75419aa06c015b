-- `run_of` meets its contract: it stops at the first byte that is not of the class, or at the end. Assumes nothing.
use mathlib.Core.Path.{refl, ap, ◌∙◌}
use lib.ListN.{length}
use Rattle.std.specs.Option.{unwrap_or}
use Rattle.spelling.specs.Bytes.{of_class}
use Rattle.spelling.proofs.Runs.{run_position}
use Rattle.spelling.proofs.bytes.run_of.Goals as goal

pub returns : goal.returns
returns c =
    let bytes = c.args.bytes.now in
    c.unwrap_or.ensures ∙ ap (λ o. unwrap_or o (length bytes)) c.first_other.ensures ∙ run_position (of_class c.args.class) _ (λ b. refl) bytes
