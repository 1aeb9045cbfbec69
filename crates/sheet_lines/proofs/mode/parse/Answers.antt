-- `sheet_lines::mode::parse` meets its contract.
use mathlib.Core.Path.{◌≡◌, ◌∙◌}
use mathlib.Core.List.{List}
use Prim.Native.Nat.{ℕ}
use lib.Pointwise.{pointwise}
use Rattle.std.proofs.Common.{rules, tests, nat_eq}
use Rattle.std.specs.List.{find}
use Rattle.std.proofs.lemmas.Iterator.{YieldsList-from_slice}
use Rattle.std.proofs.lemmas.Iterator.Search.{find_from_yields_List}
use Rattle.text.specs.Words.{same_pointwise}
use Rattle.sheet_lines.specs.ModeWords.{mode_word, mode_of}
use Rattle.sheet_lines.specs.declared.mode.TheConstants.{MODES}
use Rattle.sheet_lines.proofs.mode.parse.Goals as goal

found : (word : List ℕ) → find (λ m. pointwise nat_eq word (mode_word m)) MODES ≡ mode_of word
unfolding mode_of
found word = simp same_pointwise

pub returns : goal.returns
returns c =
    c.copied.ensures ∙
    find_from_yields_List (λ m. pointwise nat_eq c.args.word.now (mode_word m)) _ _ c.find.result c.find.ensures.ran
    (YieldsList-from_slice MODES cc)
    (λ x b q k. search (rules, tests)) ∙
    found c.args.word.now
