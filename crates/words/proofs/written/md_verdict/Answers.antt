-- `words::written::md_verdict` meets its contract.
use mathlib.Core.List.{[], ◌∷◌}
use mathlib.Core.Bool.{not, ◌&&◌, ◌||◌}
use mathlib.Core.Path.{◌≡◌}
use Rattle.signals.specs.Refusals.{refused_by}
use Rattle.words.specs.Written.{md_tests}
use Rattle.words.proofs.written.md_verdict.Goals.{After-cause_remains-remains}
use Rattle.words.proofs.written.md_verdict.Goals as goal

-- the tests, by what the code found
tests_are : (c : After-cause_remains-remains) → let auto = c.bit-auto.result in
    let remote = c.bit-remote.result in
    md_tests c.args.c c.args.word ≡
    (not c.exactly_one-one.result, 9)
    ∷ (remote && not c.pins_of-pins.result.remote, 10)
    ∷ ((auto || remote) && c.cause_remains-remains.result, 11)
    ∷ []
unfolding md_tests
tests_are c =
    simp (c.cause_remains-remains.ensures, c.pins_of-pins.ensures, c.exactly_one-one.ensures)
    (simp (c.bit.ensures, c.bit-remote.ensures, c.bit-auto.ensures))

pub returns-then-not-one : goal.returns-then-not-one
unfolding refused_by
returns-then-not-one c = simp (tests_are (goal.at.returns-then-not-one c).After-cause_remains-remains, c.if-not-one.true)

pub returns-then-remote-pins : goal.returns-then-remote-pins
unfolding refused_by
returns-then-remote-pins c = simp
    (tests_are (goal.at.returns-then-remote-pins c).After-cause_remains-remains, c.if-not-one.false, c.if-remote-pins.true)

pub returns-then-auto-remote : goal.returns-then-auto-remote
unfolding refused_by
returns-then-auto-remote c =
    simp (
      tests_are (goal.at.returns-then-auto-remote c).After-cause_remains-remains,
      c.if-not-one.false,
      c.if-remote-pins.false,
      c.if-auto-remote.true,
    )

pub returns : goal.returns
unfolding refused_by
returns c =
    simp (tests_are (goal.at.returns c).After-cause_remains-remains, c.if-not-one.false, c.if-remote-pins.false, c.if-auto-remote.false)
