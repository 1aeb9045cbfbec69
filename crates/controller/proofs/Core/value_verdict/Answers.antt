-- `controller::Core::value_verdict` meets its contract.
use mathlib.Core.Bool.{not}
use mathlib.Core.Path.{◌≡◌, ap, ◌∙◌}
use mir.Facts.{to_z-of_z}
use Rattle.signals.specs.Refusals.{refused_by}
use Rattle.parameters.specs.Table.{value, rule_of}
use Rattle.parameters.specs.Legal.{in_range, pair_in_order}
use Rattle.controller.specs.Write.{value_tests}
use Rattle.controller.proofs.Core.value_verdict.Goals.{After-in_range, After-pair_in_order}
use Rattle.controller.proofs.Core.value_verdict.Goals as goal

-- the tests of the table, by what the code found
in_range_is : (c : After-in_range) → in_range (rule_of c.args.number) (value c.args.self.now.parameters) c.args.v ≡ c.in_range.result
in_range_is c =
    simp (c.in_range.ensures, to_z-of_z c.ranges.v) (simp (c.rule-rule.ensures, c.values-values.ensures.0))

pair_is : (c : After-pair_in_order) → pair_in_order (rule_of c.args.number) (value c.args.self.now.parameters) c.args.number c.args.v
    ≡ c.pair_in_order.result
pair_is c =
    simp (c.pair_in_order.ensures, to_z-of_z c.ranges.v)
    (simp (c.rule-rule.ensures, c.values-values.ensures.0))

pub returns-then-not-in_range : goal.returns-then-not-in_range
unfolding refused_by value_tests
returns-then-not-in_range c = simp (ap not (in_range_is (goal.at.returns-then-not-in_range c).After-in_range ∙ c.if-not-in_range.true))

pub returns-then-not-pair_in_order : goal.returns-then-not-pair_in_order
unfolding refused_by value_tests
returns-then-not-pair_in_order c =
    simp (
      ap not (in_range_is (goal.at.returns-then-not-pair_in_order c).After-in_range ∙ c.if-not-in_range.false),
      ap not (pair_is (goal.at.returns-then-not-pair_in_order c).After-pair_in_order ∙ c.if-not-pair_in_order.true),
    )

pub returns : goal.returns
unfolding refused_by value_tests
returns c =
    simp (
      ap not (in_range_is (goal.at.returns c).After-in_range ∙ c.if-not-in_range.false),
      ap not (pair_is (goal.at.returns c).After-pair_in_order ∙ c.if-not-pair_in_order.false),
      c.state_verdict.ensures,
      to_z-of_z c.ranges.v,
    )
