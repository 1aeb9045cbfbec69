-- `terms::derivative` meets its contract.
use mathlib.Core.Path.{ap, ◌∙◌}
use mir.Facts.{to_z-of_z}
use mir.Syntax.{w64}
use Rattle.integers.specs.Machine.{back}
use Rattle.terms.specs.TermLaws.{derivative_parts}
use Rattle.terms.specs.Terms.{stored_term}
use Rattle.terms.specs.declared.Tuning.{Tuning}
use Rattle.terms.proofs.derivative.Goals as goal

pub returns : goal.returns
returns c =
    let read = back w64 _ c.stored_term.type_inv in (
      read ∙ c.stored_term.ensures.0 ∙
          simp (
            c.turn-minus.ensures,
            c.band.ensures,
            c.scan_fraction-part.ensures,
            c.unsigned_abs.ensures.value,
            to_z-of_z c.ranges.d,
            ap (λ (t : Tuning). t.td) c.t.view_is,
            ap (λ (t : Tuning). t.inverted) c.t-2.view_is,
          )
          (ap stored_term (derivative_parts c.args.t c.args.d)),
      rw read c.stored_term.ensures.1,
    )
