-- What an accepted write leaves is what the sentences say.
use Rattle.std.specs.Prelude.{if◌then◌else◌}
use mathlib.Core.Path.{◌≡◌, refl, sym, subst, ◌∙◌}
use mathlib.Core.Bool.{Bool, true, false, ◌&&◌, ◌||◌}
use mathlib.Core.Option.{none}
use Prim.Native.Nat.{ℕ, ◌≤◌}
use native.Mathlib.Omega.{arith}
use lib.Dec.{eqb, leb}
use lib.IntN.{ℤ, pos, nat_abs, ◌*ℤ◌}
use lib.Signed.{le_z}
use borrow.Author.Tests.{eqb-true, eqb-false, ne_eqb, le-leb}
use Rattle.integers.specs.Limit.{limited}
use Rattle.modes.specs.declared.Conditions.{Conditions}
use Rattle.words.specs.Written.{conditions_written, power_written, user_bits_written}
use Rattle.words.specs.declared.UserBits.{UserBits}
use Rattle.parameters.specs.Legal.{Legal}
use Rattle.parameters.specs.Table.{value, is_from}
use Rattle.parameters.specs.Written.{written}
use Rattle.parameters.specs.WrittenLaws.{value_after, written_values}
use Rattle.parameters.specs.declared.Parameters.{Parameters}
use Rattle.signals.specs.Refusals.{refused_by}
use Rattle.rights.specs.declared.Writer.{Writer}
use Rattle.modes.specs.Modes.{is_limiting}
use Rattle.terms.specs.Fraction.{stored_units, limited_stored}
use Rattle.outputs.specs.Instruction.{unlimited, between, stored_arithmetic, changed, limited_to, executed}
use Rattle.outputs.specs.Outputs.{limits_in, limits_written}
use Rattle.controller.specs.Answers.{Response}
use Rattle.controller.specs.Scan.{mode_now, controller_after, response_from}
use Rattle.controller.specs.Write as writes
use Rattle.controller.specs.Write.{core_with, md_written, ds_written, parameter_written, core_written, write_tests, write_accepted}
use Rattle.controller.specs.Write.{write_core}
use Rattle.controller.specs.declared.Controller.{Controller}
use Rattle.controller.specs.declared.Core.{Core}
use Rattle.guarantee.proofs.ExactOutput.{either, limiting_is}
use Rattle.guarantee.proofs.Faults.{kept_or_cleared}
use Rattle.guarantee.proofs.Modes.{mode_is_first}
use Rattle.guarantee.proofs.Rights.{by_access}
use Rattle.promises.specs.RefusalCauses.{value_refusal, write_refusal}
use Rattle.promises.specs.Table.{least, most}
use Rattle.promises.specs.Writes.{Untouched, WriteEffect, expected_output, WriteEffects}
use Rattle.promises.proofs.Refusals.{not_both}
use Rattle.promises.proofs.RefusalCauses.{word_most, word_same, write_tests_lem}

-- ---- what no write touches

untouched : (c : Core) (p : Parameters) (k : Conditions) (u : UserBits) → k.opencount ≡ c.conditions.opencount →
    k.pins ≡ c.conditions.pins → Untouched c (core_with c p k u)
unfolding core_with
untouched c p k u opencount pins =
    record { sw = refl; opencount = opencount; pins = pins; readings = refl; indications = refl; history = refl; clock = refl }

-- ---- MD and DS

md_effect : (c : Core) (v : ℤ) → nat_abs v ≤ 65535 → WriteEffect c (core_written c 24 v) 24 v
unfolding core_written md_written core_with conditions_written power_written
md_effect c v h =
    record {
      parameters = λ m. refl;
      request = rw (word_same v h) refl;
      fault = rw (word_same v h) (kept_or_cleared c.conditions.fault (nat_abs v));
      measured_power = rw (word_same v h) refl;
      user1 = refl;
      user2 = refl;
      untouched = untouched c _ _ _ refl refl;
    }

ds_effect : (c : Core) (v : ℤ) → nat_abs v ≤ 65535 → WriteEffect c (core_written c 25 v) 25 v
unfolding core_written ds_written core_with user_bits_written
ds_effect c v h =
    record {
      parameters = λ m. refl;
      request = refl;
      fault = refl;
      measured_power = refl;
      user1 = rw (word_same v h) refl;
      user2 = rw (word_same v h) refl;
      untouched = untouched c _ _ _ refl refl;
    }

-- ---- parameters 1 to 23

exchanged : (a b : Bool) → (a && b) ≡ (b && a)
exchanged true true = refl
exchanged true false = refl
exchanged false true = refl
exchanged false false = refl

module _ (c : Core) (n : ℕ) (v : ℤ) (legal : Legal c.parameters) (first : 1 ≤ n) (last : n ≤ 23) where
  next_is : core_written c n v ≡ parameter_written c n v
  unfolding core_written
  next_is = rw (ne_eqb n 24 (λ q. omega arith), ne_eqb n 25 (λ q. omega arith)) refl

  values_are : (m : ℕ) → let after = value (written c.parameters n v) in let earlier = value c.parameters in
      after m ≡
      (if leb n 23 && eqb m n then v else
      if (eqb n 9 || eqb n 10) && eqb m 20 then limited (after 10) (after 9) (earlier 20) else
      if (eqb n 7 || eqb n 8) && eqb m 21 then limited (after 8) (after 7) (earlier 21) else earlier m)
  unfolding value_after
  values_are m =
      written_values c.parameters legal n v first last m ∙
      rw (le-leb n 23 last, either n 9, either n 7, exchanged (eqb m 20) (is_from n 9 10), exchanged (eqb m 21) (is_from n 7 8)) refl

  parameter_effect : WriteEffect c (core_written c n v) n v
  unfolding parameter_written core_with
  parameter_effect =
      rw next_is
      record {
        parameters = values_are;
        request = rw (ne_eqb n 24 (λ q. omega arith)) refl;
        fault = rw (ne_eqb n 24 (λ q. omega arith)) refl;
        measured_power = rw (ne_eqb n 24 (λ q. omega arith)) refl;
        user1 = rw (ne_eqb n 25 (λ q. omega arith)) refl;
        user2 = rw (ne_eqb n 25 (λ q. omega arith)) refl;
        untouched = untouched c _ _ _ refl refl;
      }

-- ---- over the contract

-- the test of refusal 6
abbrev pub within_range : Core → ℕ → ℤ → Bool
within_range c n v = le_z (least (value c.parameters) n) v && le_z v (most (value c.parameters) n)

-- what the causes that are not there say of the number and the value
pub record InRange (c : Core) (n : ℕ) (v : ℤ) : Type 0 where
  pub first : 1 ≤ n
  pub last : n ≤ 25
  pub ranged : within_range c n v ≡ true

in_range_lem : (c : Core) (w : Writer) (n : ℕ) (v : ℤ) → write_refusal c w n v ≡ none → InRange c n v
unfolding value_refusal
in_range_lem c w n v =
    by_access (λ x y. x ≡ none → InRange c n v) c.conditions.pins w n (value_refusal c n v) none (λ t e. not_both (sym e))
    (λ s e. not_both (sym e)) (λ f h e. not_both (sym e)) (λ right k e. not_both (sym e))
    (λ right first last e. go first last e (within_range c n v) refl)
  where
    go : 1 ≤ n → n ≤ 25 → value_refusal c n v ≡ none → (r : Bool) → within_range c n v ≡ r → InRange c n v
    go first last e false t = not_both {n = 6} (sym e ∙ rw t refl)
    go first last e true t = record { first = first; last = last; ranged = t }

-- the ranges of MD and DS
word_in_range : (c : Core) (n m : ℕ) (v : ℤ) → n ≡ m → InRange c n v → within_range c m v ≡ true
word_in_range c n m v e f =
    subst (λ (k : ℕ). within_range c k v ≡ true) e f.ranged

effect : (c : Core) (n : ℕ) (v : ℤ) → Legal c.parameters → InRange c n v → WriteEffect c (core_written c n v) n v
unfolding least most
effect c n v legal f = go (eqb n 24) refl (eqb n 25) refl
  where
    go : (s : Bool) → eqb n 24 ≡ s → (t : Bool) → eqb n 25 ≡ t → WriteEffect c (core_written c n v) n v
    go true e t d =
        let q = eqb-true n 24 e in
        subst (λ (m : ℕ). WriteEffect c (core_written c m v) m v) (sym q) (md_effect c v (word_most v (word_in_range c n 24 v q f)))
    go false e true d =
        let q = eqb-true n 25 d in
        subst (λ (m : ℕ). WriteEffect c (core_written c m v) m v) (sym q) (ds_effect c v (word_most v (word_in_range c n 25 v q f)))
    go false e false d =
        let a = eqb-false n 24 e in
        let b = eqb-false n 25 d in
        let l = f.last in
        parameter_effect c n v legal f.first (omega arith)

-- HO and LO limit the output
output_is : (d : Controller) (n : ℕ) (v : ℤ) →
    (controller_after d (write_accepted d.core n v)).output ≡ expected_output d (core_written d.core n v) n
unfolding controller_after write_accepted executed changed limited_to limits_written limits_in stored_arithmetic limited_stored stored_units
    expected_output
output_is d n v = rw (mode_is_first d.core, either n 15, limiting_is) (go (is_from n 15 16) (is_limiting (mode_now d.core)))
  where
    low : ℤ
    low = value (core_written d.core n v).parameters 16

    high : ℤ
    high = value (core_written d.core n v).parameters 15

    go : (a b : Bool) → limited_to stored_arithmetic (if a then (if b then between low high else unlimited) else unlimited) d.output
        ≡ (if a && b then limited (low *ℤ pos 65536) (high *ℤ pos 65536) d.output else d.output)
    go true true = refl
    go true false = refl
    go false b = refl

accepted_write : (d : Controller) (w : Writer) (n : ℕ) (v : ℤ) → refused_by (write_tests d.core w n v) ≡ none →
    writes.write d w n v ≡ response_from d (write_accepted d.core n v)
unfolding writes.write write_core
accepted_write d w n v e = rw e refl

pub write_effects : WriteEffects
unfolding response_from controller_after write_accepted
write_effects d w n v r valid e passes =
    let tests : refused_by (write_tests d.core w n v) ≡ none = write_tests_lem d.core w n v ∙ passes in
    subst (λ (h : Response). WriteEffect d.core h.next.core n v × (h.next.output ≡ expected_output d h.next.core n))
    (sym (e.0 ∙ accepted_write d w n v tests))
    (effect d.core n v valid.legal (in_range_lem d.core w n v passes), output_is d n v)
