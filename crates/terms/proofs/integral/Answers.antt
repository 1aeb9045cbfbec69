-- `terms::integral` meets its contract.
use mathlib.Core.Path.{ap, ◌∙◌}
use native.Mathlib.Omega.{arith}
use mir.Facts.{to_z-of_z}
use mir.Syntax.{w64}
use Rattle.integers.specs.Machine.{back}
use Rattle.terms.specs.TermLaws.{integral_none, integral_parts}
use Rattle.terms.specs.Terms.{stored_term}
use Rattle.terms.specs.declared.Tuning.{Tuning}
use Rattle.terms.proofs.integral.Goals as goal

pub returns-then-t-eq0 : goal.returns-then-t-eq0
returns-then-t-eq0 c = (integral_none c.args.t c.args.c (rw (← c.t.view_is) c.if-t-eq0.true), omega arith)

pub returns : goal.returns
returns c =
    let read = back w64 _ c.stored_term.type_inv in (
      read ∙ c.stored_term.ensures.0 ∙
          simp (
            c.scan_fraction-part.ensures,
            c.band.ensures,
            c.unsigned_abs.ensures.value,
            to_z-of_z c.ranges.c,
            ap (λ (t : Tuning). t.ti) c.t-2.view_is,
          )
          (ap stored_term (integral_parts c.args.t c.args.c (rw (← c.t.view_is) c.if-t-eq0.false))),
      rw read c.stored_term.ensures.1,
    )
