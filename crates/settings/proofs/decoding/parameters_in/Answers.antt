-- `settings::decoding::parameters_in` meets its contract.
use mathlib.Core.Path.{ap, ◌∙◌}
use borrow.Author.Rules.{rules}
use Rattle.integers.specs.Listed.{made_listed}
use Rattle.parameters.specs.Table.{parameters_of}
use Rattle.settings.specs.Settings.{parameter_in, parameters_in}
use Rattle.settings.proofs.decoding.parameters_in.Goals as goal

pub returns : goal.returns
unfolding parameters_in
returns c =
    c.of.ensures ∙ ap parameters_of
    (made_listed _ _ (parameter_in c.args.values) (λ place y q call. (search rules, search rules))
    c.from_fn.result 24 c.from_fn.ensures.items)
