-- What a fresh start leaves, what a restart answers and leaves, and what a right and a wrong sumcheck bring.
use Rattle.std.specs.Prelude.{if◌then◌else◌}
use mathlib.Core.Path.{◌≡◌, refl, sym, ap, subst, ◌∙◌}
use mathlib.Core.Bool.{Bool, true, false, not, ◌&&◌, ◌||◌}
use mathlib.Core.List.{List}
use mathlib.Core.Option.{some, none}
use Prim.Native.Nat.{ℕ, ◌≤◌}
use native.Mathlib.Omega.{arith}
use lib.Dec.{leb, eqb}
use lib.IntN.{ℤ, pos, ◌*ℤ◌}
use lib.ListN.{length, get_or}
use Rattle.integers.specs.Choice.{both, never}
use Rattle.integers.specs.Listed.{listed, listed_same}
use Rattle.signals.specs.Bits.{bit}
use Rattle.signals.specs.Refusals.{refused_by}
use Rattle.signals.specs.Signals.{switches_of}
use Rattle.fields.specs.Decoding.{well_formed_from}
use Rattle.modes.specs.declared.Request.{Request}
use Rattle.modes.specs.declared.Request.TheVariants.{Manual}
use Rattle.words.specs.declared.UserBits.{UserBits}
use Rattle.parameters.specs.Legal.{Legal}
use Rattle.parameters.specs.Repaired.{repaired}
use Rattle.parameters.specs.RepairedLaws.{tested_legal, legal_tested, repaired_legal}
use Rattle.parameters.specs.Table.{value, HO, LO}
use Rattle.parameters.specs.declared.Parameters.{Parameters}
use Rattle.settings.specs.Settings.{user_bits_in, parameters_in, settings_in, is_sum_right, legal_user_bits}
use Rattle.settings.specs.declared.Settings.{Settings}
use Rattle.terms.specs.Fraction.{stored_units, limited_stored}
use Rattle.outputs.specs.Instruction.{stored_arithmetic, changed, limited_to, executed}
use Rattle.outputs.specs.Outputs.{minimum_of, restarted_to, restart_instruction}
use Rattle.controller.specs.Answers.{Reply, words, reading, acceptance, number, Response}
use Rattle.controller.specs.Restart.{values_in, is_legal, is_illegal, restart_tests, repaired_settings, restored_settings}
use Rattle.controller.specs.Restart.{restarted_request, restart_accepted, restart_core, restart}
use Rattle.controller.specs.RestartLaws.{in_size, in_unused}
use Rattle.controller.specs.Scan.{Outcome, refused, refused_or, controller_after, response_from}
use Rattle.controller.specs.State.{start_core, start_readings, fresh_parameters, fresh_core, fresh_controller}
use Rattle.controller.specs.ValidLaws.{passed, by_verdict_lem}
use Rattle.controller.specs.declared.Controller.{Controller}
use Rattle.controller.specs.declared.Core.{Core}
use Rattle.promises.specs.Restarts.{answer_to, RestartAnswers, StartState, FreshState, FreshStarts, RestartState, RestartLeaves}
use Rattle.promises.specs.Restarts.{request_for, Taken, RightSumTakes, ranged, paired, repaired_value, Repaired, WrongSumRepairs}
use Rattle.promises.specs.Table.{in_order, default}
use Rattle.promises.specs.Refusals.{refusal_in}
use Rattle.guarantee.specs.Bytes.{word_at}
use Rattle.guarantee.proofs.Brought.{fault_at, op_at, sum_is}
use Rattle.promises.proofs.Places.{well_formed_is, request_at, user_bits_at, parameter_at_lem, legal_columns, repaired_at, values_legal}
use Rattle.promises.proofs.Units.{to_output}
use Rattle.promises.proofs.Refusals.{not_both}

-- ---- the answer, by the bytes

answered : (d : Controller) (o : Core → Outcome) (size formed illegal : Bool) → (response_from d (o d.core)).answer ≡ acceptance →
    (response_from d (refused_or (if not size then some 12 else if not formed then some 13 else if illegal then some 14 else none) d.core
    (o d.core))).answer
    ≡ (if not size then number 12 else if not formed then number 13 else if illegal then number 14 else acceptance)
unfolding response_from refused
answered d o false formed illegal e = refl
answered d o true false illegal e = refl
answered d o true true true e = refl
answered d o true true false e = e

answer_is : (d : Controller) (image : List ℕ) → (restart d image).answer ≡ answer_to image
unfolding restart restart_core restart_tests refused_by answer_to response_from restart_accepted
answer_is d image =
    rw (sym (well_formed_is image), sym (sum_is image), sym (values_legal image))
    (answered d (λ c. restart_accepted c (values_in image)) (eqb (length image) 137) (well_formed_from 0 28 image)
    (is_illegal (values_in image)) refl)

pub restart_answers : RestartAnswers
restart_answers life d image j e = ap (λ (h : Response). h.answer) e.0 ∙ answer_is d image.now

-- ---- what every start leaves

start_state : (sw : ℕ) (p : Parameters) (q : Request) (fault : Bool) (userbits : UserBits) (output : ℤ) →
    StartState (record { core = start_core sw p q fault userbits; output = output })
unfolding start_readings
start_state sw p q fault userbits output =
    record {
      pins = refl;
      opencount = refl;
      buttons = refl;
      battery = refl;
      low_alarm = refl;
      high_alarm = refl;
      pv = refl;
      sp = refl;
      er = refl;
      mp = refl;
      history = refl;
      clock = refl;
    }

defaults_are : (k : ℕ) → 1 ≤ k → k ≤ 23 → value fresh_parameters k ≡ default k
unfolding value default listed
defaults_are k h l = listed_same (value fresh_parameters) default 1 23 k refl h (omega arith)

fresh_state : (word : ℕ) → FreshState word (fresh_controller word)
unfolding fresh_controller fresh_core
fresh_state word =
    record {
      start = start_state word fresh_parameters Manual false _ (pos 0);
      sw = refl;
      parameters = defaults_are;
      request = refl;
      fault = refl;
      user1 = refl;
      user2 = refl;
      measured_power = refl;
      output = refl;
    }

pub fresh_starts : FreshStarts
fresh_starts word n e = subst (FreshState word) (sym e.0) (fresh_state word)

abbrev pub is_acceptance : Reply → Bool
is_acceptance (words md ds op electrical mode pv) = false
is_acceptance (reading v) = false
is_acceptance acceptance = true
is_acceptance (number n) = false

pub restart_state : (d : Controller) (image : List ℕ) → (restart d image).answer ≡ acceptance → RestartState d (restart d image).next
unfolding restart restart_core response_from controller_after restart_accepted refused
restart_state d image =
    by_verdict_lem (λ (o : Outcome). (response_from d o).answer ≡ acceptance → RestartState d (response_from d o).next)
    (refused_by (restart_tests image)) d.core (restart_accepted d.core (values_in image))
    (λ e a. record { start = start_state _ _ _ _ _ _; sw = refl })
    (λ n a. not_accepted n a)
  where
    not_accepted : {A : Type 0} (n : ℕ) → number n ≡ acceptance → A
    not_accepted n e = never (ap is_acceptance e)

pub restart_leaves : RestartLeaves
restart_leaves life d image j e a =
    subst (λ (n : Controller). RestartState d n) (sym (ap (λ (h : Response). h.next) e.0))
    (restart_state d image.now (sym (ap (λ (h : Response). h.answer) e.0) ∙ a))

-- ---- the right sumcheck

never_off : (b : Bool) → (b || not true) ≡ b
never_off true = refl
never_off false = refl

module _ (d : Controller) (image : List ℕ) (right : is_sum_right (values_in image) ≡ true) (legal : is_legal (values_in image) ≡ true) where
  values : List ℕ
  values = values_in image

  after : Controller
  after = controller_after d (restart_accepted d.core values)

  held : Parameters
  held = parameters_in values

  held_legal : Legal held
  unfolding held values is_legal
  held_legal = tested_legal (parameters_in (values_in image)) (in_size (values_in image)) (in_unused (values_in image)) (both _ _ legal).0

  settings_are : restored_settings values ≡ settings_in values
  unfolding values restored_settings
  settings_are = rw right refl

  taken_output : after.output ≡ limited_stored (LO held) (HO held)
      (stored_units (if bit d.core.sw 11 then (if bit d.core.sw 14 then HO held else LO held) else pos (word_at image 118)))
  unfolding values after held controller_after restart_accepted executed changed limited_to restart_instruction restarted_to minimum_of
      stored_arithmetic switches_of settings_in
  taken_output = rw (settings_are, right, never_off (bit d.core.sw 11), op_at image) refl

  takes : Taken image d after
  unfolding values after held controller_after restart_accepted switches_of settings_in user_bits_in
  takes =
      record {
        parameters = λ k h l. ap (λ (s : Settings). value s.parameters k) settings_are ∙ parameter_at_lem image k h l;
        fault = ap (λ (s : Settings). s.fault) settings_are ∙ ap (λ (v : ℕ). eqb v 1) (fault_at image);
        request =
            ap (λ (s : Settings). restarted_request (bit d.core.sw 11) s.request) settings_are ∙
            ap (λ (v : ℕ). if bit d.core.sw 11 then Manual else request_for v) (request_at image);
        user1 = ap (λ (s : Settings). s.userbits.user1) settings_are ∙ ap (λ (v : ℕ). bit v 0) (user_bits_at image);
        user2 = ap (λ (s : Settings). s.userbits.user2) settings_are ∙ ap (λ (v : ℕ). bit v 1) (user_bits_at image);
        measured_power = ap (λ (s : Settings). s.userbits.measuredpower) settings_are ∙ ap (λ (v : ℕ). bit v 2) (user_bits_at image);
        output =
            taken_output ∙ to_output held held_legal (bit d.core.sw 11) (bit d.core.sw 14) (word_at image 118) ∙
            rw (parameter_at_lem image 15 (omega arith) (omega arith), parameter_at_lem image 16 (omega arith) (omega arith)) refl;
      }

-- an accepted image with the right sumcheck is legal
legal_then : (s l : Bool) → (s && not l) ≡ false → s ≡ true → l ≡ true
legal_then true true e d = refl
legal_then true false e d = never (sym e)
legal_then false l e d = never d

takes_accepted : (d : Controller) (image : List ℕ) → is_sum_right (values_in image) ≡ true → (restart d image).answer ≡ acceptance →
    Taken image d (restart d image).next
unfolding restart restart_core restart_tests response_from refused after values
takes_accepted d image right =
    by_verdict_lem (λ (o : Outcome). (response_from d o).answer ≡ acceptance → Taken image d (response_from d o).next)
    (refused_by (restart_tests image)) d.core (restart_accepted d.core (values_in image))
    (λ e a. takes d image right
    (legal_then (is_sum_right (values_in image)) (is_legal (values_in image)) (passed (restart_tests image) e).1.1.0 right))
    (λ n a. not_both (sym (ap refusal_in a)))

pub right_sum_takes : RightSumTakes
right_sum_takes life d image j e a right =
    subst (λ (n : Controller). Taken image.now d n) (sym (ap (λ (h : Response). h.next) e.0))
    (takes_accepted d image.now (sum_is image.now ∙ right) (sym (ap (λ (h : Response). h.answer) e.0) ∙ a))

-- ---- a wrong sumcheck

-- a legal 44h bit by bit, an illegal one 0
user_bits_of : (P : UserBits → Bool) (v k : ℕ) → (P (user_bits_in v) ≡ bit v k) → (P (user_bits_in 0) ≡ false) →
    P (if leb v 7 then user_bits_in v else user_bits_in 0) ≡ (leb v 7 && bit v k)
user_bits_of P v k one zero = go (leb v 7)
  where
    go : (t : Bool) → P (if t then user_bits_in v else user_bits_in 0) ≡ (t && bit v k)
    go true = one
    go false = zero

always_manual : (b : Bool) → (if b then Manual else Manual) ≡ Manual
always_manual true = refl
always_manual false = refl

always : (b : Bool) → (b || not false) ≡ true
always true = refl
always false = refl

high_repaired : (image : List ℕ) → value (repaired (parameters_in (values_in image))) 15 ≡ pos 9999
unfolding repaired_value paired ranged in_order
high_repaired image = repaired_at image 15 (omega arith) (omega arith)

low_repaired : (image : List ℕ) → value (repaired (parameters_in (values_in image))) 16 ≡ pos 0
unfolding repaired_value paired ranged in_order
low_repaired image = repaired_at image 16 (omega arith) (omega arith)

module _ (d : Controller) (image : List ℕ) (wrong : is_sum_right (values_in image) ≡ false) where
  vs : List ℕ
  vs = values_in image

  next : Controller
  next = controller_after d (restart_accepted d.core vs)

  taken_is : restored_settings vs ≡ repaired_settings vs
  unfolding vs restored_settings
  taken_is = rw wrong refl

  p : Parameters
  p = repaired (parameters_in vs)

  output_is : next.output ≡ limited_stored (LO p) (HO p) (stored_units (if bit d.core.sw 14 then HO p else LO p))
  unfolding vs next p controller_after restart_accepted executed changed limited_to restart_instruction restarted_to minimum_of
      stored_arithmetic
      switches_of repaired_settings
  output_is = rw (taken_is, wrong, always (bit d.core.sw 11)) refl

  repairs : Repaired image d next
  unfolding vs next p controller_after restart_accepted switches_of repaired_settings legal_user_bits user_bits_in
  repairs =
      let legal = repaired_legal (parameters_in vs) (in_unused vs) in
      let user_bits_are : (restored_settings vs).userbits
      ≡ (if leb (get_or image 131 0) 7 then user_bits_in (get_or image 131 0) else user_bits_in 0) =
      ap (λ (s : Settings). s.userbits) taken_is ∙
      ap (λ (v : ℕ). if leb v 7 then user_bits_in v else user_bits_in 0) (user_bits_at image) in
      record {
        fault = ap (λ (s : Settings). s.fault) taken_is;
        request =
            ap (λ (s : Settings). restarted_request (bit d.core.sw 11) s.request) taken_is ∙ always_manual (bit d.core.sw 11);
        parameters = λ k h l. ap (λ (s : Settings). value s.parameters k) taken_is ∙ repaired_at image k h l;
        output =
            output_is ∙ to_output p legal true (bit d.core.sw 14) 0 ∙
            ap (λ (z : ℤ). (if bit d.core.sw 14 then z else LO p) *ℤ pos 65536) (high_repaired image) ∙
            ap (λ (z : ℤ). (if bit d.core.sw 14 then pos 9999 else z) *ℤ pos 65536) (low_repaired image);
        user1 = ap (λ (m : UserBits). m.user1) user_bits_are ∙ user_bits_of (λ m. m.user1) (get_or image 131 0) 0 refl refl;
        user2 = ap (λ (m : UserBits). m.user2) user_bits_are ∙ user_bits_of (λ m. m.user2) (get_or image 131 0) 1 refl refl;
        measured_power =
            ap (λ (m : UserBits). m.measuredpower) user_bits_are ∙ user_bits_of (λ m. m.measuredpower) (get_or image 131 0) 2 refl refl;
        legal = sym (legal_columns _) ∙ legal_tested _ (subst (λ (s : Settings). Legal s.parameters) (sym taken_is) legal);
      }

repairs_accepted : (d : Controller) (image : List ℕ) → is_sum_right (values_in image) ≡ false → (restart d image).answer ≡ acceptance →
    Repaired image d (restart d image).next
unfolding restart restart_core response_from refused next vs
repairs_accepted d image wrong =
    by_verdict_lem (λ (o : Outcome). (response_from d o).answer ≡ acceptance → Repaired image d (response_from d o).next)
    (refused_by (restart_tests image)) d.core (restart_accepted d.core (values_in image))
    (λ e a. repairs d image wrong) (λ n a. not_both (sym (ap refusal_in a)))

pub wrong_sum_repairs : WrongSumRepairs
wrong_sum_repairs life d image j e a wrong =
    subst (λ (n : Controller). Repaired image.now d n) (sym (ap (λ (h : Response). h.next) e.0))
    (repairs_accepted d image.now (sum_is image.now ∙ wrong) (sym (ap (λ (h : Response). h.answer) e.0) ∙ a))
