-- What is worked by hand of the rights holds of the rules: each side of each equation computes to the same.
use mathlib.Core.Path.{refl}
use Rattle.numerals.specs.Numerals as n
use Rattle.signals.specs.Refusals.{refused_by}
use Rattle.parameters.specs.Table.{value, rule_of}
use Rattle.rights.specs.Rights as g
use Rattle.outputs.specs.Instruction as o
use Rattle.controller.specs.Read.{value_in}
use Rattle.controller.specs.Scan as s
use Rattle.controller.specs.State as State
use Rattle.controller.specs.Write as w
use Rattle.terminal.specs.Commands as c
use Rattle.terminal.specs.Mnemonics as names
use Rattle.terminal.specs.Terminal as t
use Rattle.worked.specs.Figures.{AllHold}
use Rattle.worked.specs.RightFigures.{right_figures}
use Rattle.worked.proofs.Worked.{◌and◌}

pub right_figures_hold : AllHold right_figures
unfolding right_figures w.write w.write_core w.write_accepted w.write_tests w.access_now w.value_tests w.state_tests g.may_write g.pin_tests
    g.right_tests g.access_tests rule_of refused_by s.response_from s.controller_after s.refused o.changed o.limited_to o.executed
    State.fresh_controller State.fresh_core t.answered t.answered_to t.read_to t.written_to t.replied t.reply_text t.value_text c.command_in
    c.command_of c.value_of c.is_word names.named names.numbered names.is_of names.mnemonic n.last_digits n.digit_byte n.places_within
    n.places n.digits n.decimal n.digit_value n.read_on n.digits_of n.with_sign n.integer_of value_in value
right_figures_hold =
    (λ k. refl) and
    (λ k. refl) and (λ k. refl) and
    (λ k w. refl) and
    (λ sw. refl) and (λ sw. refl) and (λ sw. refl) and
    (λ k e. rw e refl) and (λ k e. rw e refl) and (λ k e. rw e refl) and (λ k e. rw e refl) and
    (λ k. refl) and (λ k. refl) and
    (λ k. refl) and (λ k. refl) and (λ k e. rw e refl) and
    refl and refl and refl and
    refl and refl and
    tt
