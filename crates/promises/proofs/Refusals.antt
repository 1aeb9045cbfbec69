-- The number that a call is refused with is the lowest of those whose tests hold.
use mathlib.Core.Path.{◌≡◌, refl, sym, ap, subst, ◌∙◌}
use mathlib.Core.Bool.{Bool, true, false}
use mathlib.Core.List.{List, [], ◌∷◌, ◌++◌}
use mathlib.Core.Option.{Option, some, none}
use Prim.Native.Nat.{ℕ, ◌<◌}
use native.Mathlib.Omega.{arith}
use lib.Dec.{eqb, ltb}
use lib.IntN.{ℤ}
use borrow.Author.Tests.{eqb-true, ltb-true}
use Rattle.integers.specs.Choice.{by_cases, never}
use Rattle.signals.specs.RefusalLaws.{by_number, Above, Ascending, Holds, here, later, lowest_wins, scan_ascends}
use Rattle.signals.specs.Refusals.{number_of, refused_by, scan_tests}
use Rattle.fields.specs.Fields.{save_tests}
use Rattle.modes.specs.Modes.{counted}
use Rattle.words.specs.Written.{md_tests}
use Rattle.parameters.specs.RuleLaws.{names_own, names_own_lem}
use Rattle.parameters.specs.Table.{rule_of}
use Rattle.parameters.specs.declared.Rule.{Rule}
use Rattle.parameters.specs.declared.Rule.TheVariants.{Unknown, ReadOnly, Word, Free, Pair, Between}
use Rattle.rights.specs.Rights.{pin_tests, right_tests, access_tests}
use Rattle.rights.specs.declared.Writer.{Writer}
use Rattle.outputs.specs.Instruction.{changed, limited_to, executed}
use Rattle.controller.specs.Answers.{number, reply_by, Response}
use Rattle.controller.specs.Restart.{values_in, restart_tests, restart_accepted, restart_core, restart}
use Rattle.controller.specs.RestartLaws.{restart_ascends}
use Rattle.controller.specs.Scan as rules
use Rattle.controller.specs.Scan.{Outcome, refused_or, status_of, scan_core, controller_after, response_from}
use Rattle.controller.specs.ValidLaws.{Passed, passed}
use Rattle.controller.specs.Write.{word_of, setpoint_tests, state_tests, value_tests, access_now, write_tests, write_accepted, write_core}
use Rattle.controller.specs.Write.{write}
use Rattle.controller.specs.declared.Controller.{Controller}
use Rattle.controller.specs.declared.Core.{Core}
use Rattle.promises.specs.RefusalCauses.{RefusedStays}
use Rattle.promises.specs.Refusals.{refusal_in, Lowest, accepted, refused, place_in, write_order, RefusalOrder}

-- no call is accepted and refused at once
pub not_both : {A : Type 0} {n : ℕ} → none ≡ some n → A
not_both e = let z : ◌≡◌ {A = ℕ} 0 1 = cc in absurd (omega arith)

-- ---- of a list of tests

none_holds : (ts : List (Bool × ℕ)) → Passed ts → (m : ℕ) → Holds m ts → ⊥
none_holds (t ∷ ts) p m (here q d) = never (sym p.0 ∙ q)
none_holds (t ∷ ts) p m (later h) = none_holds ts p.1 m h
none_holds [] p m h = elim h [ ]

one_holds : (ts : List (Bool × ℕ)) (n : ℕ) → refused_by ts ≡ some n → Holds n ts
unfolding refused_by
one_holds [] n e = not_both e
one_holds (t ∷ ts) n e = go t.0 refl (one_holds ts n)
  where
    go : (b : Bool) → t.0 ≡ b → (refused_by ts ≡ some n → Holds n ts) → Holds n (t ∷ ts)
    go true q f = let d : some t.1 ≡ some n = rw q at e in let same : t.1 ≡ n = cc in here q same
    go false q f = later (f (rw q at e))

lowest : (rank : ℕ → ℕ) (ts : List (Bool × ℕ)) → Ascending rank ts → Lowest rank ts (refused_by ts)
lowest rank ts a = go (refused_by ts) refl
  where
    go : (v : Option ℕ) → refused_by ts ≡ v → Lowest rank ts v
    go none e = accepted (none_holds ts (passed ts e))
    go (some n) e = refused (one_holds ts n e) (lowest_wins rank ts a n e)

-- ---- of a call

-- of an outcome that is no refusal, unless a test refuses the call
pub refusal_is : (c : Controller) (v : Option ℕ) (o : Outcome) → refusal_in (response_from c o).answer ≡ none →
    refusal_in (response_from c (refused_or v c.core o)).answer ≡ v
unfolding response_from rules.refused
refusal_is c none o e = e
refusal_is c (some n) o e = refl

-- a call that the first of its tests that holds refuses
wins : (rank : ℕ → ℕ) (c : Controller) (ts : List (Bool × ℕ)) (o : Outcome) (h : Response) → Ascending rank ts →
    refusal_in (response_from c o).answer ≡ none → h ≡ response_from c (refused_or (refused_by ts) c.core o) →
    Lowest rank ts (refusal_in h.answer)
wins rank c ts o h a passes e =
    subst (Lowest rank ts) (sym (ap (λ (k : Response). refusal_in k.answer) e ∙ refusal_is c (refused_by ts) o passes)) (lowest rank ts a)

pub reply_refusal : (v : Option ℕ) → refusal_in (reply_by v) ≡ v
reply_refusal none = refl
reply_refusal (some n) = refl

save_ascends : (buffer : List ℕ) → Ascending by_number (save_tests buffer)
unfolding save_tests
save_ascends buffer = (tt, tt)

-- ---- the tests of a write stand in the order of `write_order`

-- of numbers that the order has, by their places
before : (a b : ℕ) → ltb (place_in write_order a) (place_in write_order b) ≡ true → place_in write_order a < place_in write_order b
before a b e = ltb-true (place_in write_order a) (place_in write_order b) e

module _ (c : Core) (n : ℕ) (v : ℤ) where
  state_above : (k : ℕ) → place_in write_order k < 6 → Above (place_in write_order) k (state_tests c n v)
  unfolding state_tests setpoint_tests md_tests place_in
  state_above k h =
      by_cases (Above (place_in write_order) k) (eqb n 20) (setpoint_tests c) _ (λ e. (omega arith, tt))
      (λ e. by_cases (Above (place_in write_order) k) (eqb n 24) (md_tests c.conditions (word_of v)) []
      (λ d. (omega arith, (omega arith, (omega arith, tt)))) (λ d. tt))

  state_ascends : Ascending (place_in write_order) (state_tests c n v)
  unfolding state_tests setpoint_tests md_tests place_in
  state_ascends =
      by_cases (Ascending (place_in write_order)) (eqb n 20) (setpoint_tests c) _ (λ e. (tt, tt))
      (λ e. by_cases (Ascending (place_in write_order)) (eqb n 24) (md_tests c.conditions (word_of v)) []
      (λ d. ((before 9 10 refl, (before 9 11 refl, tt)), ((before 10 11 refl, tt), (tt, tt)))) (λ d. tt))

  value_above : (k : ℕ) → place_in write_order k < 4 → Above (place_in write_order) k (value_tests c n v)
  unfolding value_tests place_in
  value_above k h = (h, (omega arith, state_above k (omega arith)))

  value_ascends : Ascending (place_in write_order) (value_tests c n v)
  unfolding value_tests place_in
  value_ascends =
      ((before 6 7 refl, state_above 6 (ltb-true 4 6 refl)), (state_above 7 (ltb-true 5 6 refl), state_ascends))

  writer_ascends : (w : Writer) (pins : ℕ) → Ascending (place_in write_order) (pin_tests w pins ++ (right_tests w n ++ value_tests c n v))
  unfolding pin_tests right_tests place_in
  writer_ascends w pins =
      ((before 19 20 refl, value_above 19 (ltb-true 1 4 refl)), (value_above 20 (ltb-true 2 4 refl), value_ascends))

  -- 4 before the writer's, 5 behind them, then those of the value
  row_ascends : (r : Rule) (w : Writer) (pins : ℕ) → names_own r ≡ true →
      Ascending (place_in write_order) (access_tests r w pins n ++ value_tests c n v)
  unfolding access_tests pin_tests right_tests place_in
  row_ascends (Unknown refusal) w pins e =
      subst (λ (k : ℕ). Ascending (place_in write_order) ((true, k) ∷ (pin_tests w pins ++ (right_tests w n ++ value_tests c n v))))
      (sym (eqb-true (number_of refusal) 4 e))
      ((before 4 19 refl, (before 4 20 refl, value_above 4 (ltb-true 0 4 refl))), writer_ascends w pins)
  row_ascends (ReadOnly refusal) w pins e =
      subst (λ (k : ℕ). Ascending (place_in write_order) (pin_tests w pins ++ (right_tests w n ++ ((true, k) ∷ value_tests c n v))))
      (sym (eqb-true (number_of refusal) 5 e)) (
        (before 19 20 refl, (before 19 5 refl, value_above 19 (ltb-true 1 4 refl))),
        ((before 20 5 refl, value_above 20 (ltb-true 2 4 refl)), (value_above 5 (ltb-true 3 4 refl), value_ascends)),
      )
  row_ascends (Word least most) w pins e = writer_ascends w pins
  row_ascends (Free least most) w pins e = writer_ascends w pins
  row_ascends (Pair least most high low strict) w pins e = writer_ascends w pins
  row_ascends (Between low high) w pins e = writer_ascends w pins

write_ascends : (c : Core) (w : Writer) (n : ℕ) (v : ℤ) → Ascending (place_in write_order) (write_tests c w n v)
unfolding write_tests access_now
write_ascends c w n v = row_ascends c n v (rule_of n) w c.conditions.pins (names_own_lem n)

pub refusal_order : RefusalOrder
unfolding restart restart_core restart_accepted rules.scan scan_core rules.accepted status_of write write_core write_accepted response_from
refusal_order =
    record {
      scans = λ c i r e. let last = c.core.clock in
          wins by_number c (scan_tests last i) (rules.accepted counted c.core i) _ (scan_ascends last i) refl e.0;
      writes = λ c w n v r e.
          wins (place_in write_order) c (write_tests c.core w n v) (write_accepted c.core n v) _ (write_ascends c.core w n v) refl
          e.0;
      restarts =
          λ life c image r e. wins by_number c (restart_tests image.now)
          (restart_accepted c.core (values_in image.now)) _ (restart_ascends image.now) refl e.0;
      saves = λ life c buffer r after e.
          subst (Lowest by_number (save_tests buffer.now)) (sym (ap refusal_in e.0 ∙ reply_refusal (refused_by (save_tests buffer.now))))
          (lowest by_number _ (save_ascends buffer.now));
    }

-- ---- a refused call leaves the controller

-- of an outcome that is no refusal, unless a test refuses the call
stays : (d : Controller) (v : Option ℕ) (o : Outcome) → refusal_in (response_from d o).answer ≡ none → (n : ℕ) →
    (response_from d (refused_or v d.core o)).answer ≡ number n → (response_from d (refused_or v d.core o)).next ≡ d
unfolding response_from controller_after rules.refused executed changed limited_to
stays d none o e n a = not_both (sym e ∙ ap refusal_in a)
stays d (some m) o e n a = refl

pub refused_stays : RefusedStays
unfolding restart restart_core restart_accepted rules.scan scan_core rules.accepted status_of write write_core write_accepted response_from
refused_stays = (
  λ life d image j n e a.
      ap (λ (h : Response). h.next) e.0 ∙
      stays d (refused_by (restart_tests image.now)) (restart_accepted d.core (values_in image.now)) refl n
      (sym (ap (λ (h : Response). h.answer) e.0) ∙ a),
  λ d w p v j n e a.
      ap (λ (h : Response). h.next) e.0 ∙
      stays d (refused_by (write_tests d.core w p v)) (write_accepted d.core p v) refl n
      (sym (ap (λ (h : Response). h.answer) e.0) ∙ a),
  λ d i r n e a.
      ap (λ (h : Response). h.next) e.0 ∙
      stays d (refused_by (scan_tests d.core.clock i)) (rules.accepted counted d.core i) refl n
      (sym (ap (λ (h : Response). h.answer) e.0) ∙ a),
)
