-- What an accepted write has passed, whoever made it; what its answer says of its tests; a write returns a valid
-- controller.
use Rattle.std.specs.Prelude.{◌≡◌, Bool, true, false, not, ◌&&◌, ◌||◌, List, ◌++◌, ℕ, ◌≤◌, eqb, ℤ, pos, nat_abs, if◌then◌else◌}
use Rattle.std.proofs.Math.Path.{refl}
use Rattle.std.proofs.Common.{sym, ◌∙◌, subst, arith}
use Rattle.std.proofs.Math.Option.{Option, some, none}
use borrow.Author.Tests.{eqb-true, eqb-false, ne_eqb, not-false}
use Rattle.integers.specs.Choice.{by_cases, never}
use Rattle.integers.specs.Operations.{number}
use Rattle.integers.specs.Parts.{integers, apart}
use Rattle.signals.specs.Bits.{bit}
use Rattle.signals.specs.Refusals.{refused_by}
use Rattle.modes.specs.Modes.{is_open_cause}
use Rattle.modes.specs.declared.Request.TheVariants.{Manual, Auto, Remote}
use Rattle.words.specs.Written.{conditions_written, exactly_one, md_tests}
use Rattle.parameters.specs.Legal.{Legal, unknown_refusal, read_only_refusal, in_range, pair_in_order}
use Rattle.parameters.specs.LegalLaws.{inside}
use Rattle.parameters.specs.RuleLaws.{not_from, known, settable}
use Rattle.parameters.specs.Table.{value, rule_of, is_from}
use Rattle.parameters.specs.Written.{written}
use Rattle.parameters.specs.WrittenLaws.{elsewhere, written_legal}
use Rattle.rights.specs.Rights.{named}
use Rattle.rights.specs.declared.Writer.{Writer}
use Rattle.outputs.specs.Instruction.{stored_arithmetic, changed, limited_to, executed, Limits, unlimited}
use Rattle.outputs.specs.OutputLaws.{OutputRange, limited_still_stored}
use Rattle.outputs.specs.Outputs.{limits_written}
use Rattle.controller.specs.Answers as answers
use Rattle.controller.specs.Answers.{acceptance, reply_by}
use Rattle.controller.specs.RightLaws.{common_passed}
use Rattle.controller.specs.Scan.{mode_now, refused, controller_after, response_from}
use Rattle.controller.specs.Valid.{Valid}
use Rattle.controller.specs.ValidLaws.{Passed, passed, by_verdict_lem}
use Rattle.controller.specs.Write.{word_of, state_tests, value_tests, write_tests, common_tests, core_with}
use Rattle.controller.specs.Write.{md_written, ds_written, parameter_written, core_written, write_accepted, write_core, controller_written}
use Rattle.controller.specs.Write.{write}
use Rattle.controller.specs.declared.Controller.{Controller}
use Rattle.controller.specs.declared.Core.{Core}

-- ---- what an accepted write has passed

pub record AcceptedWrite (c : Core) (n : ℕ) (v : ℤ) : Type 0 where
  pub is_known : unknown_refusal (rule_of n) ≡ none
  pub is_settable : read_only_refusal (rule_of n) ≡ none
  pub range : in_range (rule_of n) (value c.parameters) v ≡ true
  pub order : pair_in_order (rule_of n) (value c.parameters) n v ≡ true
  pub state : Passed (state_tests c n v)

none_named : (refusal : Option ℕ) (ts : List (Bool × ℕ)) → Passed (named refusal ++ ts) → (refusal ≡ none) × Passed ts
none_named none ts t = (refl, t)
none_named (some n) ts t = never (sym t.0)

pub accepted_write : (c : Core) (n : ℕ) (v : ℤ) → refused_by (common_tests c n v) ≡ none → AcceptedWrite c n v
unfolding common_tests value_tests
accepted_write c n v accepted =
    let t = none_named (unknown_refusal (rule_of n)) _ (passed (common_tests c n v) accepted) in
    let u = none_named (read_only_refusal (rule_of n)) _ t.1 in
    record {
      is_known = t.0;
      is_settable = u.0;
      range = not-false (in_range (rule_of n) (value c.parameters) v) u.1.0;
      order = not-false (pair_in_order (rule_of n) (value c.parameters) n v) u.1.1.0;
      state = u.1.1.1;
    }

-- an accepted word of MD is the value itself
pub word_is : (c : Core) (n : ℕ) (v : ℤ) → refused_by (common_tests c n v) ≡ none → n ≡ 24 → word_of v ≡ nat_abs v
unfolding rule_of
word_is c n v accepted e =
    let w = subst (λ (m : ℕ). in_range (rule_of m) (value c.parameters) v ≡ true) e (accepted_write c n v accepted).range in
    let k = inside (pos 0) (pos 65535) v w in
    omega (arith, integers, k.not_below, k.not_above, number v, apart v)

-- an accepted write is of MD, of DS or of one of the parameters 1 to 23
pub in_parameters : (c : Core) (n : ℕ) (v : ℤ) → refused_by (common_tests c n v) ≡ none → (n ≡ 24 → ⊥) → (n ≡ 25 → ⊥) →
    (1 ≤ n) × (n ≤ 23)
in_parameters c n v accepted a b =
    let t = accepted_write c n v accepted in
    let k = known n t.is_known in
    let s = settable n t.is_known t.is_settable in (k.0, omega arith)

module _ (c : Core) (n : ℕ) (v : ℤ) (legal : Legal c.parameters) (accepted : refused_by (common_tests c n v) ≡ none) where
  -- a value in range and in order leaves the parameters legal, whichever of them it is
  pub values_legal : (n ≡ 24 → ⊥) → (n ≡ 25 → ⊥) → Legal (written c.parameters n v)
  values_legal a b =
      let t = accepted_write c n v accepted in
      let k = in_parameters c n v accepted a b in
      written_legal c.parameters legal n v k.0 k.1 t.range t.order

  pub core_legal : Legal (core_written c n v).parameters
  unfolding core_written md_written ds_written parameter_written core_with
  core_legal =
      by_cases (λ (k : Core). Legal k.parameters) (eqb n 24) (md_written c (word_of v)) _ (λ e. legal)
      (λ e. by_cases (λ (k : Core). Legal k.parameters) (eqb n 25) (ds_written c (word_of v)) (parameter_written c n v) (λ d. legal)
      (λ d. values_legal (eqb-false n 24 e) (eqb-false n 25 d)))

  -- any other write leaves HO and LO
  pub limits_stay : is_from n 15 16 ≡ false → (m : ℕ) → 15 ≤ m → m ≤ 16 → value (core_written c n v).parameters m ≡ value c.parameters m
  unfolding core_written md_written ds_written parameter_written core_with
  limits_stay e m h l =
      by_cases (λ (k : Core). value k.parameters m ≡ value c.parameters m) (eqb n 24) (md_written c (word_of v)) _ (λ d. refl)
      (λ d. by_cases (λ (k : Core). value k.parameters m ≡ value c.parameters m) (eqb n 25) (ds_written c (word_of v))
      (parameter_written c n v) (λ f. refl)
      (λ f.
      let t = accepted_write c n v accepted in
      let k = known n t.is_known in
      let s = settable n t.is_known t.is_settable in
      let a = eqb-false n 24 d in
      let b = eqb-false n 25 f in
      elsewhere c.parameters legal n v k.0 (omega arith) m (λ q. omega arith) (λ q. omega arith) ∙
      rw (ne_eqb m n (not_from n 15 16 e m h l)) refl))

-- ---- "of these only scans and restarts change any": what no write touches, SW, the earlier PVs and SP and
-- the last reading beside it

module _ (c : Core) (n : ℕ) (v : ℤ) where
  -- the three kinds of write
  pub by_kind : (P : Core → Type 0) → P (md_written c (word_of v)) → P (ds_written c (word_of v)) → P (parameter_written c n v) →
      P (core_written c n v)
  unfolding core_written
  by_kind P a b d = by_cases P (eqb n 24) _ _ (λ e. a) (λ e. by_cases P (eqb n 25) _ _ (λ f. b) (λ f. d))

  pub sw_stays : (core_written c n v).sw ≡ c.sw
  unfolding md_written ds_written parameter_written core_with
  sw_stays = by_kind (λ k. k.sw ≡ c.sw) refl refl refl

  pub readings_stay : (core_written c n v).readings ≡ c.readings
  unfolding md_written ds_written parameter_written core_with
  readings_stay = by_kind (λ k. k.readings ≡ c.readings) refl refl refl

  pub history_stays : (core_written c n v).history ≡ c.history
  unfolding md_written ds_written parameter_written core_with
  history_stays = by_kind (λ k. k.history ≡ c.history) refl refl refl

  pub clock_stays : (core_written c n v).clock ≡ c.clock
  unfolding md_written ds_written parameter_written core_with
  clock_stays = by_kind (λ k. k.clock ≡ c.clock) refl refl refl

  pub open_count_stay : (core_written c n v).conditions.opencount ≡ c.conditions.opencount
  unfolding md_written ds_written parameter_written core_with conditions_written
  open_count_stay = by_kind (λ k. k.conditions.opencount ≡ c.conditions.opencount) refl refl refl

  pub pins_stay : (core_written c n v).conditions.pins ≡ c.conditions.pins
  unfolding md_written ds_written parameter_written core_with conditions_written
  pins_stay = by_kind (λ k. k.conditions.pins ≡ c.conditions.pins) refl refl refl

-- ---- a fault that a write leaves comes with the request Manual

manual_word : (fault b13 b12 b11 b8 opened : Bool) → let after = if fault && not b8 then false else fault in
    not (exactly_one b13 b12 b11) ≡ false → (b12 || b11) && (after || opened) ≡ false → after ≡ true →
    (if fault && not b8 then Manual else if b13 then Manual else if b12 then Auto else Remote) ≡ Manual
manual_word false b13 b12 b11 b8 opened e d f = never f
manual_word true b13 b12 b11 false opened e d f = never f
manual_word true true b12 b11 true opened e d f = refl
manual_word true false true b11 true opened e d f = never (sym d)
manual_word true false false true true opened e d f = never (sym d)
manual_word true false false false true opened e d f = never (sym e)

manual_written : (c : Core) (n : ℕ) (v : ℤ) → refused_by (common_tests c n v) ≡ none →
    (c.conditions.fault ≡ true → c.conditions.request ≡ Manual) →
    (core_written c n v).conditions.fault ≡ true → (core_written c n v).conditions.request ≡ Manual
unfolding core_written md_written ds_written parameter_written core_with conditions_written state_tests md_tests
manual_written c n v accepted before =
    let w = word_of v in
    let P : Core → Type 0 = λ k. k.conditions.fault ≡ true → k.conditions.request ≡ Manual in
    by_cases P (eqb n 24) (md_written c w) _
    (λ e. let t = (accepted_write c n v accepted).state in
    let tests : state_tests c n v ≡ md_tests c.conditions w = rw (ne_eqb n 20 (λ q. omega (arith, eqb-true n 24 e)), e) refl in
    let k = subst Passed tests t in
    manual_word c.conditions.fault (bit w 13) (bit w 12) (bit w 11) (bit w 8) (is_open_cause c.conditions.opencount) k.0
    k.1.1.0)
    (λ e. by_cases P (eqb n 25) (ds_written c w) (parameter_written c n v) (λ f. before) (λ f. before))

-- ---- a write's own refusal, by its answer

module _ (c : Controller) (w : Writer) (n : ℕ) (v : ℤ) where
  pub write_answer : (write c w n v).answer ≡ reply_by (refused_by (write_tests c.core w n v))
  unfolding write write_core response_from write_accepted refused
  write_answer = go (refused_by (write_tests c.core w n v)) refl
    where
      go : (d : Option ℕ) → refused_by (write_tests c.core w n v) ≡ d → (write c w n v).answer ≡ reply_by d
      go none e = rw e refl
      go (some k) e = rw e refl

  pub write_accepted_lem : (write c w n v).answer ≡ acceptance → refused_by (write_tests c.core w n v) ≡ none
  write_accepted_lem e = go (refused_by (write_tests c.core w n v)) (sym write_answer ∙ e)
    where
      go : (d : Option ℕ) → reply_by d ≡ acceptance → d ≡ none
      go none f = refl
      go (some k) f = let z : ◌≡◌ {A = ℕ} 0 1 = cc in absurd (omega arith)

  pub write_refused : (k : ℕ) → (write c w n v).answer ≡ answers.number k → refused_by (write_tests c.core w n v) ≡ some k
  write_refused k e = go (refused_by (write_tests c.core w n v)) (sym write_answer ∙ e)
    where
      go : (d : Option ℕ) → reply_by d ≡ answers.number k → d ≡ some k
      go none f = let z : ◌≡◌ {A = ℕ} 0 1 = cc in absurd (omega arith)
      go (some m) f = cc

  -- a refused write leaves the controller
  pub write_leaves : (k : ℕ) → refused_by (write_tests c.core w n v) ≡ some k → (write c w n v).next ≡ c
  unfolding write write_core response_from controller_after refused executed changed limited_to
  write_leaves k e = rw e refl

-- ---- valid

pub written_valid : (c : Controller) (n : ℕ) (v : ℤ) → Valid c → refused_by (common_tests c.core n v) ≡ none →
    Valid (controller_written c n v)
unfolding controller_written controller_after write_accepted executed changed limited_to limits_written
written_valid c n v valid accepted =
    record {
      legal = core_legal c.core n v valid.legal accepted;
      kept = rw (history_stays c.core n v) valid.kept;
      readable = rw (readings_stay c.core n v) valid.readable;
      manual = manual_written c.core n v accepted valid.manual;
      stored =
          by_cases (λ (l : Limits). OutputRange (limited_to stored_arithmetic l c.output)) (is_from n 15 16) _ unlimited
          (λ e. limited_still_stored _ (core_legal c.core n v valid.legal accepted) (mode_now c.core) c.output valid.stored)
          (λ e. unlimited_stored);
    }
  where
    unlimited_stored : OutputRange (limited_to stored_arithmetic unlimited c.output)
    unlimited_stored = valid.stored

pub valid_write : (c : Controller) (w : Writer) (n : ℕ) (v : ℤ) → Valid c → Valid (write c w n v).next
unfolding write write_core response_from controller_after refused executed changed limited_to controller_written
valid_write c w n v valid =
    by_verdict_lem (λ o. Valid (response_from c o).next) (refused_by (write_tests c.core w n v)) c.core (write_accepted c.core n v)
    (λ e. written_valid c n v valid (common_passed c.core w n v e)) (λ m. valid)
