-- `terminal::mnemonic::named` meets its contract. No mnemonic before the number has the two bytes, so the search of
-- those from the number on finds what the search of all of them finds.
use mathlib.Core.Path.{◌≡◌, refl, sym, ap, ◌∙◌}
use Prim.Native.Nat.{◌+◌, ◌-◌}
use native.Mathlib.Numerals.{add-one}
use native.Mathlib.Omega.{arith}
use borrow.Author.Rules.{rules}
use borrow.Author.Tests.{lt-ltb}
use Rattle.terminal.specs.Mnemonics.{named, number_in}
use Rattle.terminal.specs.MnemonicLaws.{search_found, search_on, search_ends, search_begins}
use Rattle.terminal.proofs.mnemonic.named.Goals as goal

pub returns-in_default : goal.returns-in_default
unfolding named
returns-in_default c = simp (lt-ltb _ _ c.in_default.len_below)

pub loop-number-init : goal.loop-number-init
loop-number-init c = refl

pub returns-then-is_of : goal.returns-then-is_of
returns-then-is_of c =
    let l = c.loop-number in
    let found = search_found _ _ l.number (search rules) (search rules) (sym c.if-is_of.ensures) in
    sym (ap number_in (search_begins _ (search rules) ∙ l.invariant ∙ found))

pub loop-number-preserved : goal.loop-number-preserved
loop-number-preserved c =
    let l = c.loop-number in
    let next : l.number + 1 - 1 ≡ l.number = omega arith in
    let on = search_on _ _ l.number (search rules) (search rules) (sym c.if-is_of.ensures) in
    l.invariant ∙ rw (next, add-one) on

pub returns : goal.returns
returns c =
    let l = c.loop-number in
    sym (ap number_in (search_begins _ (search rules) ∙ l.invariant ∙ search_ends _ _ l.number (omega arith)))
