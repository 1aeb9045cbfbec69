-- `controller::repaired::are_legal` meets its contract.
use mathlib.Core.Bool.{Bool}
use mathlib.Core.Path.{refl, ◌∙◌}
use Prim.Native.Nat.{ℕ}
use borrow.Author.Rules.{rules}
use Rattle.std.proofs.lemmas.Iterator.{YieldsList-from_range}
use Rattle.std.proofs.lemmas.Iterator.Search.{all_from_yields_List}
use Rattle.parameters.specs.Legal.{keeps, are_legal}
use Rattle.parameters.specs.Range.{every_is}
use Rattle.parameters.specs.Table.{value, rule_of}
use Rattle.controller.proofs.repaired.are_legal.Goals as goal

pub returns : goal.returns
unfolding are_legal
returns c =
    let test : ℕ → Bool = λ n. keeps (rule_of n) (value c.args.p) n in
    all_from_yields_List test _ _ c.all.result c.all.ensures.ran (YieldsList-from_range 1 24 23 refl refl)
    (λ number kept q call. search rules) ∙ every_is test 1 23
