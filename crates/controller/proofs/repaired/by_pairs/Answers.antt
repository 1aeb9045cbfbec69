-- `controller::repaired::by_pairs` meets its contract.
use mathlib.Core.Path.{ap, ◌∙◌}
use borrow.Author.Rules.{rules}
use Rattle.integers.specs.Listed.{made_listed}
use Rattle.parameters.specs.Repaired.{paired_value, by_pairs}
use Rattle.parameters.specs.Table.{parameters_of}
use Rattle.controller.proofs.repaired.by_pairs.Goals as goal

pub returns : goal.returns
unfolding by_pairs
returns c =
    c.of.ensures ∙ ap parameters_of
    (made_listed _ _ (paired_value c.args.p) (λ number v q call. (search rules, search rules)) c.from_fn.result 24 c.from_fn.ensures.items)
