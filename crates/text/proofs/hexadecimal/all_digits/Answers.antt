-- `text::hexadecimal::all_digits` meets its contract.
use mathlib.Core.Path.{sym, ◌∙◌}
use lib.Dec.{ltb}
use Rattle.std.proofs.Common.{rules, tests}
use Rattle.std.proofs.lemmas.Iterator.{YieldsList-from_slice}
use Rattle.std.proofs.lemmas.Iterator.Search.{all_from_yields_List}
use Rattle.text.specs.Hexadecimal.{hexadecimal_value}
use Rattle.text.specs.HexadecimalLaws.{all_digits_are}
use Rattle.text.proofs.hexadecimal.all_digits.Goals as goal

pub returns : goal.returns
returns c =
    all_from_yields_List (λ b. ltb (hexadecimal_value b) 16) _ _ _ c.all.ensures.ran (YieldsList-from_slice c.args.word.now cc)
    (λ x b q k. search (rules, tests)) ∙ sym (all_digits_are c.args.word.now)
