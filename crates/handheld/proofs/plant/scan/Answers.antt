-- `handheld::plant::scan` meets its contract.
use mathlib.Core.Path.{◌≡◌, sym, ap, ◌∙◌}
use Rattle.signals.specs.Clock.{ClockReading}
use Rattle.controller.specs.Answers.{Reply, Response, reply_of, response_of}
use Rattle.controller.specs.Scan.{scan}
use Rattle.handheld.specs.Plant.{scan_input, outcome_by, scan_outcome}
use Rattle.handheld.proofs.plant.scan.Goals.{After-scan-r}
use Rattle.handheld.proofs.plant.scan.Goals as goal

-- what the scan returned is the rules' scan with these pins
scanned : (r : After-scan-r) → let a = r.args in
    response_of r.scan-r.result ≡ scan a.controller (scan_input a.controller.core.clock a.pins)
scanned r =
    let a = r.args in
    r.scan-r.ensures.0 ∙
    ap (scan a.controller)
    (r.scan_input.ensures ∙ ap (λ (l : ClockReading). scan_input l a.pins) r.last_reading.ensures)

pub returns-in-Ok : goal.returns-in-Ok
unfolding scan_outcome outcome_by
returns-in-Ok c =
    let bytes = c.args.reply.now in
    let taken = ap reply_of c.in-Ok.is in
    rw (c.write.ensures.0, c.write.ensures.1)
    (sym (ap (λ (a : Reply). outcome_by c.scan-r.result.controller a bytes) taken) ∙
    ap (λ (h : Response). outcome_by h.next h.answer bytes) (scanned (goal.at.returns-in-Ok c).After-scan-r))

pub returns-in-Err : goal.returns-in-Err
unfolding scan_outcome outcome_by
returns-in-Err c =
    let bytes = c.args.reply.now in
    sym (ap (λ (a : Reply). outcome_by c.scan-r.result.controller a bytes) (ap reply_of c.in-Err.is)) ∙
    ap (λ (h : Response). outcome_by h.next h.answer bytes) (scanned (goal.at.returns-in-Err c).After-scan-r)
