-- What the contracts hand on, call by call, is what the rules give.
use mathlib.Core.Path.{◌≡◌, ap, ◌∙◌}
use mathlib.Core.List.{List}
use Prim.Native.Nat.{ℕ}
use Rattle.controller.specs.Answers.{Response}
use Rattle.controller.specs.Restart as restarts
use Rattle.controller.specs.Scan as rules
use Rattle.controller.specs.Valid.{Valid}
use Rattle.controller.specs.Write as writes
use Rattle.controller.specs.declared.Controller.{Controller}
use Rattle.guarantee.specs.Exact.{Calls, outcome_of}
use Rattle.guarantee.specs.Linked.{Linked, started, scanned, wrote, restarted}
use Rattle.guarantee.proofs.Ours.{ours}

pub linked : {word : ℕ} {xs : Calls} {rs : List Response} {c : Controller} → Linked word xs rs c → c ≡ ours word xs
unfolding ours rules.scan writes.write restarts.restart outcome_of rules.scan_core
linked (started r e) = e.0
linked (scanned i r l e) = ap (λ (h : Response). h.next) e.0 ∙ ap (λ (k : Controller). (rules.scan k i).next) (linked l)
linked (wrote w n v r l e) = ap (λ (h : Response). h.next) e.0 ∙ ap (λ (k : Controller). (writes.write k w n v).next) (linked l)
linked (restarted life image r l e) =
    ap (λ (h : Response). h.next) e.0 ∙ ap (λ (k : Controller). (restarts.restart k image.now).next) (linked l)

-- and the controller is valid, by the contracts alone
pub valid_linked : {word : ℕ} {xs : Calls} {rs : List Response} {c : Controller} → Linked word xs rs c → Valid c
valid_linked (started r e) = e.1
valid_linked (scanned i r l e) = e.1
valid_linked (wrote w n v r l e) = e.1
valid_linked (restarted life image r l e) = e.1
