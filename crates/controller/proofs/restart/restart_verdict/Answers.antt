-- `controller::restart::restart_verdict` meets its contract.
use mathlib.Core.Path.{◌≡◌, sym, ◌∙◌}
use mathlib.Core.Bool.{◌&&◌, not}
use borrow.Author.Tests.{eq-eqb, ne_eqb}
use Rattle.signals.specs.Refusals.{refused_by}
use Rattle.controller.specs.Restart.{values_in, is_illegal, restart_tests}
use Rattle.controller.proofs.restart.restart_verdict.Goals.{After-is_legal}
use Rattle.controller.proofs.restart.restart_verdict.Goals as goal

pub returns-then-image-ne-IMAGE_LENGTH : goal.returns-then-image-ne-IMAGE_LENGTH
unfolding refused_by restart_tests
returns-then-image-ne-IMAGE_LENGTH c = simp (ne_eqb _ _ c.if-image-ne-IMAGE_LENGTH.true)

pub returns-then-not-is_well_formed : goal.returns-then-not-is_well_formed
unfolding refused_by restart_tests
returns-then-not-is_well_formed c = simp
    (eq-eqb _ _ c.if-image-ne-IMAGE_LENGTH.false, sym c.is_well_formed.ensures ∙ c.if-not-is_well_formed.true)

-- what the code's two tests of the values come to
illegal : (c : After-is_legal) → is_illegal (values_in c.args.image.now)
    ≡ c.is_sum_right.result && not c.is_legal.result
illegal c =
    simp (sym c.values_of-values.ensures) (simp (sym c.is_sum_right.ensures, sym c.is_legal.ensures))

pub returns-then-illegal : goal.returns-then-illegal
unfolding refused_by restart_tests
returns-then-illegal c =
    let formed = sym c.is_well_formed.ensures ∙ c.if-not-is_well_formed.false in
    simp (eq-eqb _ _ c.if-image-ne-IMAGE_LENGTH.false, formed, illegal (goal.at.returns-then-illegal c).After-is_legal ∙ c.if-illegal.true)

pub returns : goal.returns
unfolding refused_by restart_tests
returns c =
    let formed = sym c.is_well_formed.ensures ∙ c.if-not-is_well_formed.false in
    simp (eq-eqb _ _ c.if-image-ne-IMAGE_LENGTH.false, formed, illegal (goal.at.returns c).After-is_legal ∙ c.if-illegal.false)
