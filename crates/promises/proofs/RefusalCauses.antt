-- A call is refused for its listed causes, and for no other.
use Rattle.std.specs.Prelude.{if◌then◌else◌}
use mathlib.Core.Path.{◌≡◌, refl, sym, ap, subst, ◌∙◌}
use mathlib.Core.Bool.{Bool, true, false, not, ◌&&◌, ◌||◌}
use mathlib.Core.List.{List, [], ◌∷◌}
use mathlib.Core.Option.{Option, some, none}
use Prim.Native.Nat.{ℕ, ◌+◌, ◌≤◌}
use native.Mathlib.Omega.{arith}
use lib.Dec.{eqb, ltb}
use lib.IntN.{ℤ, pos, nat_abs}
use lib.Signed.{le_z}
use borrow.Author.Tests.{eqb-true, ne_eqb, le-ltb}
use Rattle.integers.specs.Choice.{both, never}
use Rattle.integers.specs.Operations as operations
use Rattle.integers.specs.Parts.{integers, apart}
use Rattle.integers.specs.Listed.{listed, listed_same}
use Rattle.signals.specs.Clock.{ClockReading}
use Rattle.signals.specs.Bits.{bit}
use Rattle.signals.specs.Refusals.{number_of, refused_by, scan_tests}
use Rattle.signals.specs.Signals.{switches_of, pins_of}
use Rattle.signals.specs.declared.Input.{Input}
use Rattle.signals.specs.declared.Refusal.{Refusal}
use Rattle.modes.specs.Modes.{counted, sets_setpoint}
use Rattle.modes.specs.declared.Mode.{Mode}
use Rattle.modes.specs.declared.Mode.TheVariants.{Hold, Track, Forced, Manual, Auto, Remote, Ratio, Fallback}
use Rattle.words.specs.Written.{exactly_one, md_tests}
use Rattle.parameters.specs.Legal.{unknown_refusal, in_range, pair_in_order}
use Rattle.parameters.specs.LegalLaws.{inside}
use Rattle.parameters.specs.RuleLaws.{unknown_is}
use Rattle.parameters.specs.Table.{value, rule_of}
use Rattle.rights.specs.declared.Writer.{Writer}
use Rattle.controller.specs.Answers.{number, Response}
use Rattle.controller.specs.Read as reads
use Rattle.controller.specs.Read.{read_by, read_in}
use Rattle.controller.specs.Scan as rules
use Rattle.controller.specs.Scan.{mode_now, accepted, status_of, scan_core, response_from}
use Rattle.controller.specs.Write as writes
use Rattle.controller.specs.Write.{word_of, setpoint_tests, state_tests, value_tests, write_tests, write_accepted, write_core}
use Rattle.controller.specs.declared.Controller.{Controller}
use Rattle.controller.specs.declared.Core.{Core}
use Rattle.guarantee.specs.Modes.{automatic_mode}
use Rattle.guarantee.specs.Rights.{has_right, access_or}
use Rattle.guarantee.proofs.Faults.{kept_or_cleared}
use Rattle.guarantee.proofs.Modes.{mode_is_first}
use Rattle.guarantee.proofs.Clock.{soon_is}
use Rattle.guarantee.proofs.Rights.{access_tests_lem, by_access, has_both}
use Rattle.promises.specs.Refusals.{refusal_in}
use Rattle.promises.specs.RefusalCauses.{scan_refusal, ScanRefusals, replaced, setpoint_refused, request_bits, word_refusal, value_refusal}
use Rattle.promises.specs.RefusalCauses.{write_refusal, WriteRefusals, ReadRefusals, RefusalNumbers, in_order_of_numbers, NumberedFrom}
use Rattle.promises.specs.RefusalCauses.{RefusalNames}
use Rattle.promises.specs.Table.{least, most, in_order}
use Rattle.promises.specs.Words.{remote_or_ratio}
use Rattle.promises.proofs.Refusals.{refusal_is}

-- ---- scans

pub scan_tests_lem : (last : ClockReading) (i : Input) → refused_by (scan_tests last i) ≡ scan_refusal last i
unfolding scan_tests refused_by scan_refusal
scan_tests_lem last i = rw (soon_is last i.milliseconds) refl

scan_refusal_lem : (d : Controller) (i : Input) → refusal_in (rules.scan d i).answer ≡ scan_refusal d.core.clock i
unfolding rules.scan scan_core response_from accepted status_of
scan_refusal_lem d i =
    refusal_is d (refused_by (scan_tests d.core.clock i)) (accepted counted d.core i) refl ∙ scan_tests_lem d.core.clock i

-- what an accepted scan returns
pub accepted_scan : (d : Controller) (i : Input) → refused_by (scan_tests d.core.clock i) ≡ none →
    rules.scan d i ≡ response_from d (accepted counted d.core i)
unfolding rules.scan scan_core
accepted_scan d i e = rw e refl

pub scan_refusals : ScanRefusals
scan_refusals d i r e = ap (λ (h : Response). refusal_in h.answer) e.0 ∙ scan_refusal_lem d i

-- ---- writes: the rows of the table, by its columns

module _ (values : ℕ → ℤ) (n : ℕ) (v : ℤ) (first : 1 ≤ n) (last : n ≤ 25) where
  range_is : in_range (rule_of n) values v ≡ (le_z (least values n) v && le_z v (most values n))
  unfolding rule_of listed least most
  range_is =
      listed_same (λ (m : ℕ). in_range (rule_of m) values v)
      (λ (m : ℕ). le_z (least values m) v && le_z v (most values m)) 1 25 n refl first
      (omega arith)

  order_is : pair_in_order (rule_of n) values n v ≡ in_order (replaced values n v) n
  unfolding rule_of listed in_order
  order_is =
      listed_same (λ (m : ℕ). pair_in_order (rule_of m) values m v) (λ (m : ℕ). in_order (replaced values m v) m) 1 25 n refl first
      (omega arith)

-- ---- SL and MD

pub setpoint_refused_is : (c : Core) → sets_setpoint (mode_now c) (switches_of c.sw).setpointtracks ≡ setpoint_refused c
unfolding setpoint_refused switches_of
setpoint_refused_is c = rw (mode_is_first c) (go (mode_now c) (bit c.sw 10))
  where
    go : (m : Mode) (t : Bool) → sets_setpoint m t ≡ (remote_or_ratio (some m) || t && not (automatic_mode (some m)))
    go Hold t = refl
    go Track t = refl
    go Forced t = refl
    go Manual t = refl
    go Auto t = refl
    go Remote t = refl
    go Ratio t = refl
    go Fallback t = refl

one_of_three : (a b c : Bool) → exactly_one a b c ≡ eqb ((if a then 1 else 0) + (if b then 1 else 0) + (if c then 1 else 0)) 1
one_of_three true true true = refl
one_of_three true true false = refl
one_of_three true false true = refl
one_of_three true false false = refl
one_of_three false true true = refl
one_of_three false true false = refl
one_of_three false false true = refl
one_of_three false false false = refl

word_tests : (c : Core) (word : ℕ) → refused_by (md_tests c.conditions word) ≡ word_refusal c word
unfolding md_tests refused_by word_refusal request_bits pins_of
word_tests c word =
    rw (one_of_three (bit word 13) (bit word 12) (bit word 11), kept_or_cleared c.conditions.fault word) refl

state_tests_lem : (c : Core) (n : ℕ) (v : ℤ) → (n ≡ 24 → word_of v ≡ nat_abs v) →
    refused_by (state_tests c n v)
    ≡ (if eqb n 20 then (if setpoint_refused c then some 8 else none) else if eqb n 24 then word_refusal c (nat_abs v) else none)
unfolding state_tests setpoint_tests refused_by
state_tests_lem c n v word = go (eqb n 20) (eqb n 24) refl
  where
    go : (s t : Bool) → eqb n 24 ≡ t →
        refused_by (if s then setpoint_tests c else if t then md_tests c.conditions (word_of v) else [])
        ≡ (if s then (if setpoint_refused c then some 8 else none) else if t then word_refusal c (nat_abs v) else none)
    go true t e = rw (setpoint_refused_is c) refl
    go false true e = rw (word (eqb-true n 24 e)) (word_tests c (nat_abs v))
    go false false e = refl

-- ---- the whole

-- a value in the range of MD and DS is a word
pub word_most : (v : ℤ) → (le_z (pos 0) v && le_z v (pos 65535)) ≡ true → nat_abs v ≤ 65535
word_most v e =
    let k = inside (pos 0) (pos 65535) v e in omega (arith, integers, k.not_below, k.not_above, operations.number v, apart v)

pub word_same : (v : ℤ) → nat_abs v ≤ 65535 → word_of v ≡ nat_abs v
word_same v h = omega arith

md_word : (n : ℕ) (values : ℕ → ℤ) (v : ℤ) → (le_z (least values n) v && le_z v (most values n)) ≡ true → n ≡ 24 → word_of v ≡ nat_abs v
unfolding least most
md_word n values v e q = word_same v (word_most v (subst (λ (m : ℕ). (le_z (least values m) v && le_z v (most values m)) ≡ true) q e))

value_tests_lem : (c : Core) (n : ℕ) (v : ℤ) → 1 ≤ n → n ≤ 25 → refused_by (value_tests c n v) ≡ value_refusal c n v
unfolding value_tests value_refusal refused_by
value_tests_lem c n v first last =
    let values = value c.parameters in
    rw (range_is values n v first last, order_is values n v first last)
    (go (le_z (least values n) v && le_z v (most values n)) refl (in_order (replaced values n v) n))
  where
    rest : Option ℕ
    rest = if eqb n 20 then (if setpoint_refused c then some 8 else none) else if eqb n 24 then word_refusal c (nat_abs v) else none

    go : (r : Bool) → (le_z (least (value c.parameters) n) v && le_z v (most (value c.parameters) n)) ≡ r → (o : Bool) →
        (if not r then some 6 else if not o then some 7 else refused_by (state_tests c n v))
        ≡ (if not r then some 6 else if not o then some 7 else rest)
    go false e o = refl
    go true e false = refl
    go true e true = state_tests_lem c n v (md_word n (value c.parameters) v e)

-- ---- the writer's right, before what is asked of the value

-- it comes to the value where the writer has the right
pub right_passes : (pins : ℕ) (w : Writer) (n : ℕ) (o : Option ℕ) → has_right pins w n ≡ true → 1 ≤ n → n ≤ 25 →
    access_or pins w n o ≡ o
right_passes pins w n o right first last =
    let h = has_both pins w n right in
    let inside : (eqb n 0 || ltb 32 n) ≡ false = rw (ne_eqb n 0 (λ q. omega arith), le-ltb 32 n (omega arith)) refl in
    by_access (λ x y. x ≡ o) pins w n o o (λ t. never (sym inside ∙ t)) (λ s. never (sym h.1 ∙ s)) (λ f g. never (sym g ∙ h.0))
    (λ r k. never (sym (le-ltb 25 n last) ∙ k)) (λ r least most. refl)

pub write_tests_lem : (c : Core) (w : Writer) (n : ℕ) (v : ℤ) → refused_by (write_tests c w n v) ≡ write_refusal c w n v
unfolding write_tests
write_tests_lem c w n v =
    access_tests_lem c w n (value_tests c n v) ∙
    by_access (λ x y. x ≡ y) c.conditions.pins w n (refused_by (value_tests c n v)) (value_refusal c n v) (λ t. refl) (λ s. refl)
    (λ f h. refl) (λ right k. refl) (λ right first last. value_tests_lem c n v first last)

write_refusal_lem : (d : Controller) (w : Writer) (n : ℕ) (v : ℤ) → refusal_in (writes.write d w n v).answer ≡ write_refusal d.core w n v
unfolding writes.write write_core response_from write_accepted
write_refusal_lem d w n v =
    refusal_is d (refused_by (write_tests d.core w n v)) (write_accepted d.core n v) refl ∙ write_tests_lem d.core w n v

pub write_refusals : WriteRefusals
write_refusals d w n v r e = ap (λ (h : Response). refusal_in h.answer) e.0 ∙ write_refusal_lem d w n v

-- ---- reads

read_refusal : (o : Option ℕ) (v : ℤ) → refusal_in (read_by o v) ≡ o
read_refusal none v = refl
read_refusal (some n) v = refl

pub read_refusals : ReadRefusals
unfolding reads.read read_in
read_refusals d n r e = ap refusal_in e ∙ read_refusal (unknown_refusal (rule_of n)) _ ∙ unknown_is n

-- ---- the number of a refusal

pub refusal_numbers : RefusalNumbers
refusal_numbers refusal n e = (ap number (sym e), ap number (sym e), ap number (sym e))

-- the whole list by one computed test
abbrev are_numbered : ℕ → List Refusal → Bool
are_numbered k [] = true
are_numbered k (refusal ∷ refusals) = eqb (number_of refusal) k && are_numbered (k + 1) refusals

numbered : (k : ℕ) (refusals : List Refusal) → are_numbered k refusals ≡ true → NumberedFrom k refusals
numbered k [] e = tt
numbered k (refusal ∷ refusals) e =
    let h = both (eqb (number_of refusal) k) (are_numbered (k + 1) refusals) e in
    (λ n f. f ∙ eqb-true (number_of refusal) k h.0, numbered (k + 1) refusals h.1)

pub refusal_names_lem : RefusalNames
refusal_names_lem = numbered 1 in_order_of_numbers refl
