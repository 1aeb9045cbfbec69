-- `text::arguments::parse` meets its contract.
use mathlib.Core.Path.{◌≡◌, sym, ap, ◌∙◌}
use native.Mathlib.Omega.{arith}
use borrow.Author.Rules.{rules}
use mir.Syntax.{w64}
use Rattle.std.specs.Prelude.{ℕ, take, Some}
use Rattle.integers.specs.Machine.{back}
use Rattle.text.specs.ArgumentsLaws.{gathering_ends, gathering_stops, gathering_full, gathering_over}
use Rattle.text.specs.ArgumentsLaws.{numbers_start, numbers_more, holds_ends, holds_stops, holds_full}
use Rattle.text.proofs.arguments.parse.Goals as goal

pub loop-count-init : goal.loop-count-init
loop-count-init c = numbers_start _ _

pub returns-then-w : goal.returns-then-w
returns-then-w c =
    let read = c.loop-count in
    let line = c.args.line.now in
    let found = c.word-w.ensures.value in
    record {
      value =
          gathering_ends
          line c.args.start read.at read.count read.values read.invariant.gathering c.word-w.result found (search rules) c.if-w.true;
      numbers =
          holds_ends
          line c.args.start read.at read.count read.values read.invariant c.word-w.result found (search rules) c.if-w.true;
    }

pub returns-in_default : goal.returns-in_default
returns-in_default c =
    let read = c.loop-count in
    let line = c.args.line.now in
    let found = c.word-w.ensures.value in
    let none = sym c.number.ensures ∙ c.in_default.is in
    record {
      value =
          gathering_stops
          line c.args.start read.at read.count read.values read.invariant.gathering c.word-w.result found (search rules) c.if-w.false none;
      numbers =
          holds_stops
          line c.args.start read.at read.count read.values read.invariant c.word-w.result found (search rules) c.if-w.false none;
    }

pub loop-count-preserved : goal.loop-count-preserved
loop-count-preserved c =
    let v = c.in-Some.number in
    rw (back w64 v (search rules))
    (numbers_more
    c.args.line.now c.args.start c.loop-count.at c.loop-count.count c.loop-count.values c.loop-count.invariant
    c.word-w.result c.word-w.ensures.value (search rules) c.if-w.false v (sym c.number.ensures ∙ c.in-Some.is))

pub returns-then-behind : goal.returns-then-behind
returns-then-behind c =
    let read = c.loop-count in
    let line = c.args.line.now in
    let found = c.word-behind.ensures.value in
    let six : read.count ≡ 6 = omega arith in
    record {
      value =
          gathering_over
          line c.args.start read.at read.count read.values read.invariant.gathering c.word-behind.result found six (λ e. omega arith);
      numbers = holds_full line c.args.start read.at read.count read.values read.invariant c.word-behind.result found six;
    }

pub returns : goal.returns
returns c =
    let read = c.loop-count in
    let line = c.args.line.now in
    let found = c.word-behind.ensures.value in
    let six : read.count ≡ 6 = omega arith in
    record {
      value =
          ap (λ (n : ℕ). Some (take n read.values)) (sym six) ∙
          gathering_full
          line c.args.start read.at read.count read.values read.invariant.gathering c.word-behind.result found six (omega arith);
      numbers = holds_full line c.args.start read.at read.count read.values read.invariant c.word-behind.result found six;
    }
