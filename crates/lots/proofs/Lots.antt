-- The answers of accepted scans are right, by the exact controller, over every list of calls.
use Rattle.std.specs.Prelude.{Err, Ok}
use Rattle.signals.specs.Clock.{ClockReading}
use mathlib.Core.Path.{◌≡◌, refl, sym, ap, subst, ◌∙◌}
use mathlib.Core.Bool.{not}
use mathlib.Core.List.{List, []}
use Prim.Native.Nat.{ℕ}
use Rattle.signals.specs.declared.Input.{Input}
use Rattle.answers.specs.declared.ScanValues.{ScanValues}
use Rattle.sheet_guarantee.specs.Meaning.{Answers}
use Rattle.sheet_guarantee.proofs.Claim.{always}
use Rattle.controller.specs.Answers.{Response, reply_of, Answer}
use Rattle.controller.specs.declared.Controller.{Controller}
use Rattle.controller.specs.declared.Core.{Core}
use Rattle.guarantee.specs.Claim.{capped}
use Rattle.guarantee.specs.Count.{last_reading}
use Rattle.guarantee.specs.Exact.{Calls, ◌then◌, scan, exact}
use Rattle.guarantee.specs.Linked as calls
use Rattle.guarantee.specs.Linked.{ChainTo, Linked}
use Rattle.guarantee.specs.Modes.{mode_in}
use Rattle.guarantee.proofs.Existence.{exists}
use Rattle.guarantee.proofs.Guarantee.{guarantee, ready}
use Rattle.guarantee.proofs.Modes.{mode_is_first}
use Rattle.promises.specs.RefusalCauses.{scan_refusal}
use Rattle.promises.specs.Refusals.{refusal_in}
use Rattle.promises.specs.Scans.{ScanAnswer}
use Rattle.promises.proofs.RefusalCauses.{scan_refusals}
use Rattle.promises.proofs.Scans.{same_values, scan_effects}
use Rattle.lots.specs.Lots.{with_answer, Answered, started, scanned, wrote, restarted, Right, AllRight, no_call, accepted_scan}
use Rattle.lots.specs.Lots.{refused_scan_lem, a_write, a_restart, LotsRight, AlwaysAnswered}

-- the same calls, as the long guarantee takes them
chain_of : {word : ℕ} {xs : Calls} {c : Controller} {ys : Answers} → Answered word xs c ys → ChainTo word xs c
chain_of (started r e) = record { responses = []; chain = calls.started r e }
chain_of (scanned i r a e) = let k = chain_of a in record { responses = _; chain = calls.scanned i r k.chain e }
chain_of (wrote w n v r a e) = let k = chain_of a in record { responses = _; chain = calls.wrote w n v r k.chain e }
chain_of (restarted life image r a e) =
    let k = chain_of a in record { responses = _; chain = calls.restarted life image r k.chain e }

-- ---- one accepted scan

clock_same : (c : Controller) (exactly : Core) → capped c.core ≡ capped exactly → c.core.clock ≡ exactly.clock
unfolding capped
clock_same c exactly same = ap (λ (k : Core). k.clock) same

-- of a controller c and the exact one's state, which are alike but for the output and counts above 85
right : (c : Controller) (exactly : Core) (v : ScanValues) → capped c.core ≡ capped exactly → mode_in exactly ≡ mode_in c.core →
    ScanAnswer c (Ok v) → Right exactly v
unfolding capped
right c exactly v same mode a =
    let w = a.values in
    let is = same_values v w a.accepted in
    let readings = ap (λ (k : Core). k.readings.pv) same in
    let low = ap (λ (k : Core). not k.indications.lowalarm) same in
    let high = ap (λ (k : Core). not k.indications.highalarm) same in
    subst (Right exactly) (sym is) (record {
      mode = mode ∙ a.mode_first;
      pv = a.pv_is ∙ readings;
      low_alarm = a.shows_ds.low_alarm ∙ low;
      high_alarm = a.shows_ds.high_alarm ∙ high;
    })

-- of an answer: it was refused, or it is right
by_answer : {word : ℕ} {xs : Calls} {ys : Answers} (i : Input) (answer : Answer) → AllRight word xs ys →
    refusal_in (reply_of answer) ≡ scan_refusal (last_reading word xs) i →
    ((v : ScanValues) → answer ≡ Ok v → Right (exact word (xs then scan i)).core v) →
    AllRight word (xs then scan i) (with_answer ys answer)
by_answer i (Ok v) l e f = accepted_scan l (sym e) (f v refl)
by_answer i (Err refusal) l e f = refused_scan_lem l (sym e)

all_right : {word : ℕ} {xs : Calls} {c : Controller} {ys : Answers} → Answered word xs c ys → AllRight word xs ys
all_right {word} (started r e) = no_call
all_right {word} (scanned {xs} {c} {ys} i r a e) =
    let k = chain_of a in
    let refusal = scan_refusals c i r e in
    let before = guarantee word xs _ c k.chain in
    let clock_is = clock_same c (exact word xs).core before.same_state ∙ before.reading_remembered in
    let d = guarantee word (xs then scan i) _ r.controller (calls.scanned i r k.chain e) in
    let mode = d.mode_first ∙ sym (mode_is_first r.controller.core) in
    by_answer i r.answer (all_right a) (refusal ∙ ap (λ (last : ClockReading). scan_refusal last i) clock_is) (λ v q.
    let passes = sym refusal ∙ ap (λ (b : Answer). refusal_in (reply_of b)) q in
    let answered = (scan_effects c i r (ready word xs _ c k.chain).valid e passes).1 in
    right r.controller (exact word (xs then scan i)).core v d.same_state mode (subst (ScanAnswer r.controller) q answered))
all_right {word} (wrote w n v r a e) = a_write (all_right a)
all_right {word} (restarted life image r a e) = a_restart (all_right a)

pub lots_right : LotsRight
lots_right word calls c ys es s a l = (all_right a, always ys es s l)

-- ---- there are such answers for every list

-- of a chain of the long guarantee's, the same controller with the answers of its scans
record At (word : ℕ) (xs : Calls) (c : Controller) : Type 0 where
  values : Answers
  answered : Answered word xs c values

answers_of : {word : ℕ} {xs : Calls} {rs : List Response} {c : Controller} → Linked word xs rs c → At word xs c
answers_of (calls.started r e) = record { values = _; answered = started r e }
answers_of (calls.scanned i r l e) = record { values = _; answered = scanned i r (answers_of l).answered e }
answers_of (calls.wrote w n v r l e) = record { values = _; answered = wrote w n v r (answers_of l).answered e }
answers_of (calls.restarted life image r l e) = record { values = _; answered = restarted life image r (answers_of l).answered e }

pub always_answered : AlwaysAnswered
always_answered word xs =
    let k = exists word xs in
    let a = answers_of k.chain in
    record { last = k.last; values = a.values; answered = a.answered }
