-- An accepted scan after a gap is that of the controller with nothing remembered; any other that of the controller with
-- its earlier PVs and SP and no reading.
use Rattle.std.specs.Prelude.{None}
use Rattle.signals.specs.Clock.{ClockReading}
use mathlib.Core.Path.{◌≡◌, refl, sym, ap, ◌∙◌}
use mathlib.Core.Option.{none}
use Rattle.signals.specs.Refusals.{refused_by, scan_tests}
use Rattle.signals.specs.declared.Input.{Input}
use Rattle.modes.specs.Modes.{counted, conditions_after}
use Rattle.outputs.specs.History.{history_before}
use Rattle.outputs.specs.Outputs.{instruction_of}
use Rattle.outputs.specs.declared.History.{History}
use Rattle.outputs.specs.declared.History.TheVariants.{Nothing}
use Rattle.controller.specs.Answers.{Response}
use Rattle.controller.specs.Scan as rules
use Rattle.controller.specs.Scan.{earlier_scans, context_of, computed_in, indications_after, core_after, status_of, accepted}
use Rattle.controller.specs.Scan.{controller_after, response_from}
use Rattle.controller.specs.ValidLaws.{passed}
use Rattle.controller.specs.declared.Controller.{Controller}
use Rattle.guarantee.specs.Clock.{recalled_at, recalled_in}
use Rattle.guarantee.proofs.Clock.{history_is, none_refused}
use Rattle.promises.specs.Clock.{remembering, GapForgets, OrdinaryRemembers, StaysValid}
use Rattle.promises.proofs.RefusalCauses.{accepted_scan}

-- an input that passes its tests passes them where no reading was taken
passes_first : (last : ClockReading) (i : Input) → refused_by (scan_tests last i) ≡ none → refused_by (scan_tests None i) ≡ none
unfolding refused_by scan_tests
passes_first last i e =
    let p = passed (scan_tests last i) e in
    rw (p.0, p.1.0, p.1.1.0) refl

-- an accepted scan that begins with these earlier PVs and SP
unfoldable from : History → Controller → Input → Response
from h d i =
    let c = d.core in
    let after = conditions_after counted c.conditions i in
    let x = context_of c after i in
    let r = computed_in c x in
    let next = core_after c h after x r in
    response_from d (record { next = next; answer = status_of next; instruction = instruction_of c.parameters x r.readings h })

from_is : (d : Controller) (i : Input) → response_from d (accepted counted d.core i) ≡ from (earlier_scans d.core i) d i
unfolding from accepted
from_is d i = refl

-- what else is remembered doesn't matter to it
from_any : (h k : History) (d : Controller) (i : Input) → from h (remembering k d) i ≡ from h d i
unfolding from remembering response_from controller_after core_after context_of computed_in indications_after
from_any h k d i = refl

remembered_first : (k : History) (d : Controller) (i : Input) → earlier_scans (remembering k d).core i ≡ k
unfolding remembering earlier_scans history_before
remembered_first k d i = refl

same_scan : (d : Controller) (i : Input) (h : History) → refused_by (scan_tests d.core.clock i) ≡ none → recalled_in d.core i ≡ h →
    rules.scan d i ≡ rules.scan (remembering h d) i
unfolding remembering
same_scan d i h e q =
    let given = remembering h d in
    let first = ap (λ (k : History). from k d i) (history_is d.core i ∙ q) in
    let second = ap (λ (k : History). from k given i) (remembered_first h d i) in
    accepted_scan d i e ∙ from_is d i ∙ first ∙
    sym (accepted_scan given i (passes_first d.core.clock i e) ∙ from_is given i ∙ second ∙ from_any h h d i)

pub gap_forgets : GapForgets
unfolding recalled_at
gap_forgets d i r v e q gap = (e.0 ∙ same_scan d i Nothing (none_refused d i r v e q) (rw gap refl), e.1)

pub ordinary_remembers : OrdinaryRemembers
unfolding recalled_at
ordinary_remembers d i r v e q gap = (e.0 ∙ same_scan d i d.core.history (none_refused d i r v e q) (rw gap refl), e.1)

pub stays_valid : StaysValid
unfolding remembering
stays_valid d v = (
  record { legal = v.legal; kept = tt; readable = v.readable; manual = v.manual; stored = v.stored },
  record { legal = v.legal; kept = v.kept; readable = v.readable; manual = v.manual; stored = v.stored },
)
