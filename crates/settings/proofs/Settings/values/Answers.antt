-- `settings::Settings::values` meets its contract.
use mathlib.Core.Path.{ap, ◌∙◌}
use mathlib.Core.List.{List}
use Prim.Native.Nat.{ℕ}
use borrow.Author.Rules.{rules}
use lib.ListN.{take}
use Rattle.integers.specs.Listed.{made_listed, listed_front}
use Rattle.fields.specs.Fields.{with_sumcheck}
use Rattle.settings.specs.Settings.{value_at, values_of}
use Rattle.settings.proofs.Settings.values.Goals as goal

pub returns : goal.returns
unfolding values_of
returns c =
    let f = value_at c.args.self in
    c.with_sumcheck.ensures ∙ ap (λ (all : List ℕ). with_sumcheck (take 27 all))
    (made_listed _ _ f (λ place y q call. (search rules, search rules)) c.from_fn.result 28 c.from_fn.ensures.items)
    ∙ ap with_sumcheck (listed_front f 0 27)
