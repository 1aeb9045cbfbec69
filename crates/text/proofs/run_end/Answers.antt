-- `text::run_end` meets its contract. The run from the first place on ends where the one from here on does.
use mathlib.Core.Path.{refl, sym, ◌∙◌}
use native.Mathlib.Numerals.{add-one}
use native.Mathlib.Omega.{arith}
use lib.ListN.{drop, length-drop}
use borrow.Author.Rules.{rules}
use Rattle.text.specs.Words.{leading_most, leading_more, leading_ends}
use Rattle.text.proofs.run_end.Goals as goal

pub loop-end-init : goal.loop-end-init
loop-end-init c = refl

pub returns-then-not-fits_blank : goal.returns-then-not-fits_blank
returns-then-not-fits_blank c =
    let ends = leading_ends c.args.blank c.args.line.now c.loop-end.end c.loop-end-test.true (search rules) in
    sym (c.loop-end.invariant ∙ ends)

pub loop-end-preserved : goal.loop-end-preserved
loop-end-preserved c =
    let more = leading_more c.args.blank c.args.line.now c.loop-end.end c.loop-end-test.true (search rules) in
    rw add-one (c.loop-end.invariant ∙ more)

pub returns : goal.returns
returns c =
    let line = c.args.line.now in
    let at = c.args.at in
    let end = c.loop-end.end in
    omega (
      arith,
      c.loop-end.invariant,
      leading_most c.args.blank (drop at line),
      leading_most c.args.blank (drop end line),
      length-drop at line,
      length-drop end line,
    )
