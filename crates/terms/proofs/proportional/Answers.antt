-- `terms::proportional` meets its contract.
use mathlib.Core.Path.{ap, ◌∙◌}
use mir.Facts.{to_z-of_z}
use mir.Syntax.{w64}
use Rattle.integers.specs.Machine.{back}
use Rattle.terms.specs.TermLaws.{proportional_parts}
use Rattle.terms.specs.Terms.{stored_term}
use Rattle.terms.proofs.proportional.Goals as goal

pub returns : goal.returns
returns c =
    let read = back w64 _ c.stored_term.type_inv in (
      read ∙ c.stored_term.ensures.0 ∙
          simp (c.band.ensures, c.unsigned_abs-numerator.ensures.value, to_z-of_z c.ranges.change)
          (ap stored_term (proportional_parts c.args.t c.args.change)),
      rw read c.stored_term.ensures.1,
    )
