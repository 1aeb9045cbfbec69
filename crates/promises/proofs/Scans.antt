-- What an accepted scan answers and leaves is what the sentences say, over the contract of a scan.
use Rattle.std.specs.Prelude.{Err, Ok}
use mathlib.Core.Path.{◌≡◌, refl, sym, ap, subst, ◌∙◌}
use mathlib.Core.Option.{some, none}
use Rattle.signals.specs.Refusals.{refused_by, scan_tests}
use Rattle.signals.specs.declared.Input.{Input}
use Rattle.modes.specs.Modes.{counted}
use Rattle.answers.specs.declared.ScanValues.{ScanValues}
use Rattle.setpoints.specs.ComputationLaws.{SampleRange}
use Rattle.controller.specs.Answers.{Reply, words, reading, acceptance, number, reply_of, Response, Answer}
use Rattle.controller.specs.Scan.{status_of, core_after, controller_after, response_from, accepted, stepped}
use Rattle.controller.specs.Valid.{Valid}
use Rattle.controller.specs.ValidLaws.{sampled, stepped_valid}
use Rattle.controller.specs.declared.Controller.{Controller}
use Rattle.guarantee.specs.Claim.{OwnOutput}
use Rattle.guarantee.specs.Modes.{mode_in}
use Rattle.guarantee.proofs.Answers.{own_output}
use Rattle.guarantee.proofs.Modes.{mode_is_first}
use Rattle.promises.specs.Scans.{ScanEffect, ScanAnswer, ScanEffects}
use Rattle.promises.specs.Words.{ShowsMD, ShowsDS}
use Rattle.promises.proofs.RefusalCauses.{scan_tests_lem, accepted_scan}
use Rattle.promises.proofs.ScanEffect.{now, effect}
use Rattle.promises.proofs.Words.{shows_md, shows_ds}

-- what is told of the values of an answer, by its reply
abbrev Told : Controller → Reply → Type 0
Told c (words md ds op electrical mode pv) =
    ShowsMD md c.core × ShowsDS ds c.core × OwnOutput c op electrical × (mode_in c.core ≡ some mode) × (pv ≡ c.core.readings.pv)
Told c (reading v) = ⊥
Told c acceptance = ⊥
Told c (number n) = ⊥

abbrev values_or : ScanValues → Answer → ScanValues
values_or v (Ok w) = w
values_or v (Err refusal) = v

-- an answer has its values alone
pub same_values : (v w : ScanValues) → ◌≡◌ {A = Answer} (Ok v) (Ok w) → v ≡ w
same_values v w e = ap (values_or v) e

answered : (c : Controller) (answer : Answer) → Told c (reply_of answer) → ScanAnswer c answer
answered c (Ok v) t =
    record { values = v; accepted = refl; shows_md = t.0; shows_ds = t.1; own = t.2; mode_first = t.3; pv_is = t.4 }
answered c (Err refusal) t = absurd t

abbrev Effects : Controller → Input → Response → Type 0
Effects d i h = ScanEffect d.core h.next.core i × Told h.next h.answer

effects : (d : Controller) (i : Input) → Valid d → SampleRange i → Effects d i (response_from d (accepted counted d.core i))
unfolding response_from controller_after accepted status_of now core_after stepped
effects d i valid range =
    let next = stepped d i in (
      effect d.core i valid.legal range,
      (
        shows_md next.core,
        shows_ds next.core,
        own_output next (stepped_valid d i valid range).stored,
        mode_is_first next.core,
        refl,
      ),
    )

pub scan_effects : ScanEffects
scan_effects d i r valid e in_range_lem =
    let last = d.core.clock in
    let passes : refused_by (scan_tests last i) ≡ none = scan_tests_lem last i ∙ in_range_lem in
    let all = subst (Effects d i) (sym (e.0 ∙ accepted_scan d i passes)) (effects d i valid (sampled last i passes)) in
    (all.0, answered r.controller r.answer all.1)
