-- The two texts of who may write; the stored pins are those that the list tells; a write by someone without the right
-- changes nothing, so lists lead to the same controllers without such writes.
use Rattle.std.specs.Prelude.{if◌then◌else◌}
use mathlib.Core.Path.{◌≡◌, refl, sym, ap, subst, ◌∙◌}
use mathlib.Core.Bool.{Bool, true, false, not, ◌&&◌, ◌||◌}
use mathlib.Core.List.{List, [], ◌∷◌, ◌++◌}
use mathlib.Core.Option as option
use mathlib.Core.Option.{Option, some}
use Prim.Native.Nat.{ℕ, ◌≤◌, ◌<◌}
use native.Mathlib.Omega.{arith}
use lib.Dec.{eqb, leb, ltb}
use lib.IntN.{ℤ}
use borrow.Author.Tests.{ne_eqb, lt-leb, ltb-true, ltb-false, le-ltb, not-true}
use Rattle.integers.specs.Choice.{both, never}
use Rattle.integers.specs.Listed.{listed, listed_same}
use Rattle.signals.specs.RefusalLaws.{refused_append, refused_from}
use Rattle.signals.specs.Refusals.{first_of, refused_by, scan_tests, Verdict}
use Rattle.signals.specs.Signals.{computer_pin}
use Rattle.modes.specs.Modes.{conditions_after}
use Rattle.parameters.specs.Legal.{read_only_refusal}
use Rattle.parameters.specs.RuleLaws.{known, unknown_is, read_only_is}
use Rattle.parameters.specs.Table.{rule_of}
use Rattle.rights.specs.Rights.{may_write, needs_pin, pin_tests, right_tests, named, access_tests}
use Rattle.rights.specs.declared.Writer.{Writer}
use Rattle.rights.specs.declared.Writer.TheVariants.{Operator, Engineer, Computer}
use Rattle.outputs.specs.Instruction.{changed, limited_to, executed}
use Rattle.controller.specs.Answers.{Response, number, response_of, reply_of_verdict, reply_by, reply_by_lem, response_of_verdict}
use Rattle.controller.specs.Restart.{values_in, restart_tests, restart_accepted, restart_core}
use Rattle.controller.specs.RightLaws.{right_common, common_numbers}
use Rattle.controller.specs.Scan.{core_after, accepted, refused, refused_or, scan_core, controller_after, response_from, status_of}
use Rattle.controller.specs.State.{fresh_core}
use Rattle.controller.specs.ValidLaws.{by_verdict_lem}
use Rattle.controller.specs.Write as writes
use Rattle.controller.specs.Write.{value_tests, access_now, write_tests, common_tests, write_accepted, write_core}
use Rattle.controller.specs.WriteLaws.{pins_stay, write_refused}
use Rattle.controller.specs.declared.CallResult.{CallResult}
use Rattle.controller.specs.declared.Controller.{Controller}
use Rattle.controller.specs.declared.Core.{Core}
use Rattle.guarantee.specs.Claim.{capped}
use Rattle.guarantee.specs.Count.{pins_after, last_pins}
use Rattle.guarantee.specs.Exact.{Call, scan, write, restart, Calls, none, ◌then◌, one_more, outcome_of, Exact, after_outcome}
use Rattle.guarantee.specs.Exact.{exact_after}
use Rattle.guarantee.specs.Exact.{exact, exact_answer}
use Rattle.guarantee.specs.Linked.{WriteEnsures, AccessEnsures, Linked, started, scanned, wrote, restarted, ChainTo}
use Rattle.guarantee.specs.Rights.{is_engineer, is_of, is_shut_out, has_right, access_or, number_without, is_permitted, permitted}
use Rattle.guarantee.specs.Rights.{WithoutRightNothing}
use Rattle.guarantee.proofs.Ours.{cores}
use Rattle.guarantee.proofs.Linked.{linked}

-- ---- the two texts

neither : (a b : Bool) → (a && false || b && false) ≡ false
neither true true = refl
neither true false = refl
neither false true = refl
neither false false = refl

-- beyond DS each has the engineer alone
right_beyond : (w : Writer) (n : ℕ) → 26 ≤ n → may_write w n ≡ is_of n w
unfolding may_write is_of
right_beyond w n h =
    rw (ne_eqb n 20 (λ q. omega arith), ne_eqb n 21 (λ q. omega arith), ne_eqb n 22 (λ q. omega arith), ne_eqb n 24 (λ q. omega arith))
    (rw (ne_eqb n 25 (λ q. omega arith)) (go w (lt-leb n 21 (omega arith)) (lt-leb n 22 (omega arith)) (lt-leb n 25 (omega arith))))
  where
    go : (w : Writer) → leb n 21 ≡ false → leb n 22 ≡ false → leb n 25 ≡ false → may_write w n ≡ is_engineer w
    go Operator a b d = rw (a, d) (neither (leb 20 n) (leb 24 n))
    go Engineer a b d = refl
    go Computer a b d = rw (b, d) (neither (leb 20 n) (leb 24 n))

pub right_is : (w : Writer) (n : ℕ) → may_write w n ≡ is_of n w
unfolding may_write is_of listed
right_is w n = go (ltb n 26) refl
  where
    within : (w : Writer) → n < 26 → may_write w n ≡ is_of n w
    within Operator h = listed_same (may_write Operator) (λ (m : ℕ). is_of m Operator) 0 26 n refl (omega arith) h
    within Engineer h = listed_same (may_write Engineer) (λ (m : ℕ). is_of m Engineer) 0 26 n refl (omega arith) h
    within Computer h = listed_same (may_write Computer) (λ (m : ℕ). is_of m Computer) 0 26 n refl (omega arith) h

    go : (t : Bool) → ltb n 26 ≡ t → may_write w n ≡ is_of n w
    go true e = within w (ltb-true n 26 e)
    go false e = right_beyond w n (ltb-false n 26 e)

pub pin_is : (w : Writer) (pins : ℕ) → (needs_pin w && not (computer_pin pins)) ≡ is_shut_out pins w
unfolding is_shut_out
pin_is Operator pins = refl
pin_is Engineer pins = refl
pin_is Computer pins = refl

-- ---- the pins by the list

step : (c : Core) (x : Call) → let o = outcome_of one_more c x in
    o.next.conditions.pins ≡ pins_after x o.answer c.conditions.pins
unfolding outcome_of scan_core write_core write_accepted restart_core restart_accepted refused accepted core_after conditions_after
    status_of
    pins_after
step c (scan i) =
    by_verdict_lem (λ o. o.next.conditions.pins ≡ pins_after (scan i) o.answer c.conditions.pins)
    (refused_by (scan_tests c.clock i)) c (accepted one_more c i) (λ e. refl) (λ n. refl)
step c (write w n v) =
    by_verdict_lem (λ o. o.next.conditions.pins ≡ pins_after (write w n v) o.answer c.conditions.pins)
    (refused_by (write_tests c w n v)) c (write_accepted c n v) (λ e. pins_stay c n v) (λ m. refl)
step c (restart image) =
    by_verdict_lem (λ o. o.next.conditions.pins ≡ pins_after (restart image) o.answer c.conditions.pins)
    (refused_by (restart_tests image)) c (restart_accepted c (values_in image)) (λ e. refl) (λ m. refl)

pub pins_after_lem : (word : ℕ) (xs : Calls) → (exact word xs).core.conditions.pins ≡ last_pins word xs
unfolding exact exact_after exact_answer last_pins fresh_core
pins_after_lem word none = refl
pins_after_lem word (xs then x) =
    step (exact word xs).core x ∙ ap (λ (pins : ℕ). pins_after x (exact_answer word xs x) pins) (pins_after_lem word xs)

pins_capped : (c : Core) → (capped c).conditions.pins ≡ c.conditions.pins
unfolding capped
pins_capped c = refl

-- and those of our own controller
pub our_pins : {word : ℕ} {xs : Calls} {rs : List Response} {c : Controller} → Linked word xs rs c →
    c.core.conditions.pins ≡ last_pins word xs
our_pins {word} {xs} l =
    ap (λ (k : Controller). k.core.conditions.pins) (linked l) ∙ ap (λ (k : Core). k.conditions.pins) (cores word xs) ∙
    pins_capped (exact word xs).core ∙ pins_after_lem word xs

-- ---- what is refused whatever the value

-- the tests of a writer and a number, by what they test, with the tests behind them
access_by_lem : (outside pinless has readonly : Bool) (o : Option ℕ) (ts : List (Bool × ℕ)) →
    (outside ≡ false → o ≡ (if readonly then some 5 else option.none)) →
    refused_by ((named (if outside then some 4 else option.none) ++ ((pinless, 19) ∷ (not has, 20) ∷ named o)) ++ ts)
    ≡ (if outside then some 4 else if pinless then some 19 else if not has then some 20 else if readonly then some 5 else refused_by ts)
unfolding refused_by
access_by_lem true pinless has readonly o ts e = refl
access_by_lem false true has readonly o ts e = refl
access_by_lem false false false readonly o ts e = refl
access_by_lem false false true true o ts e = rw (e refl) refl
access_by_lem false false true false o ts e = rw (e refl) refl

-- a number that isn't outside 1..32
pub inside_table : (n : ℕ) → (eqb n 0 || ltb 32 n) ≡ false → (1 ≤ n) × (n ≤ 32)
inside_table n e = known n (unknown_is n ∙ rw e refl)

pub access_tests_lem : (c : Core) (w : Writer) (n : ℕ) (ts : List (Bool × ℕ)) →
    refused_by (access_now c w n ++ ts) ≡ access_or c.conditions.pins w n (refused_by ts)
unfolding access_now access_tests pin_tests right_tests access_or
access_tests_lem c w n ts =
    rw (unknown_is n, pin_is w c.conditions.pins, right_is w n)
    (access_by_lem (eqb n 0 || ltb 32 n) (is_shut_out c.conditions.pins w) (is_of n w) (ltb 25 n) (read_only_refusal (rule_of n)) ts
    (λ e. let h = inside_table n e in read_only_is n h.0 h.1))

first_alone : (a : Option ℕ) → first_of a option.none ≡ a
first_alone option.none = refl
first_alone (some n) = refl

pub access_alone : (c : Core) (w : Writer) (n : ℕ) → refused_by (access_now c w n) ≡ access_or c.conditions.pins w n option.none
unfolding refused_by
access_alone c w n =
    sym (first_alone (refused_by (access_now c w n))) ∙ sym (refused_append (access_now c w n) []) ∙ access_tests_lem c w n []

-- by the contract, after these calls
pub access_told : {word : ℕ} {xs : Calls} {rs : List Response} {c : Controller} → Linked word xs rs c → (w : Writer) (n : ℕ)
    (r : Verdict) → AccessEnsures c w n r → reply_of_verdict r ≡ reply_by (access_or (last_pins word xs) w n option.none)
access_told {c = c} l w n r e =
    reply_by_lem r ∙ ap reply_by (e ∙ access_alone c.core w n ∙ ap (λ (p : ℕ). access_or p w n option.none) (our_pins l))

-- ---- a write by someone without the right

-- what `access_or` says in each case, of two answers to the value at once; each case has what the ones before it leave
pub by_access : (P : Option ℕ → Option ℕ → Type 0) (pins : ℕ) (w : Writer) (n : ℕ) (a b : Option ℕ) →
    ((eqb n 0 || ltb 32 n) ≡ true → P (some 4) (some 4)) → (is_shut_out pins w ≡ true → P (some 19) (some 19)) →
    (is_shut_out pins w ≡ false → is_of n w ≡ false → P (some 20) (some 20)) →
    (has_right pins w n ≡ true → ltb 25 n ≡ true → P (some 5) (some 5)) →
    (has_right pins w n ≡ true → 1 ≤ n → n ≤ 25 → P a b) → P (access_or pins w n a) (access_or pins w n b)
unfolding access_or has_right
by_access P pins w n a b four nineteen twenty five rest =
    go (eqb n 0 || ltb 32 n) refl (is_shut_out pins w) refl (is_of n w) refl (ltb 25 n) refl
  where
    chosen : Bool → Bool → Bool → Bool → Option ℕ → Option ℕ
    chosen t p h r o = if t then some 4 else if p then some 19 else if not h then some 20 else if r then some 5 else o

    go : (t : Bool) → (eqb n 0 || ltb 32 n) ≡ t → (p : Bool) → is_shut_out pins w ≡ p → (h : Bool) → is_of n w ≡ h →
        (r : Bool) → ltb 25 n ≡ r → P (chosen t p h r a) (chosen t p h r b)
    go true e p f h g r k = four e
    go false e true f h g r k = nineteen f
    go false e false f false g r k = twenty f g
    go false e false f true g true k = five (rw (f, g) refl) k
    go false e false f true g false k = rest (rw (f, g) refl) (inside_table n e).0 (ltb-false 25 n k)

pub refused_without : (c : Core) (w : Writer) (n : ℕ) (v : ℤ) → has_right c.conditions.pins w n ≡ false →
    refused_by (write_tests c w n v) ≡ access_or c.conditions.pins w n option.none
unfolding write_tests
refused_without c w n v e =
    access_tests_lem c w n (value_tests c n v) ∙
    by_access (λ x y. x ≡ y) c.conditions.pins w n (refused_by (value_tests c n v)) option.none (λ t. refl) (λ s. refl) (λ f h. refl)
    (λ right k. refl) (λ right least most. never (sym e ∙ right))

-- and it is refused, with 4, 19 or 20
by_refusal : (P : Option ℕ → Type 0) (pins : ℕ) (w : Writer) (n : ℕ) → has_right pins w n ≡ false → ((k : ℕ) → P (some k)) →
    P (access_or pins w n option.none)
by_refusal P pins w n e refuses =
    by_access (λ x y. P x) pins w n option.none option.none (λ t. refuses 4) (λ s. refuses 19) (λ f h. refuses 20)
    (λ right k. never (sym e ∙ right)) (λ right least most. never (sym e ∙ right))

-- of a number that has a parameter
pub some_without : (pins : ℕ) (w : Writer) (n : ℕ) → 1 ≤ n → n ≤ 32 → has_right pins w n ≡ false →
    access_or pins w n option.none ≡ some (number_without pins w)
some_without pins w n first last e =
    let inside : (eqb n 0 || ltb 32 n) ≡ false = rw (ne_eqb n 0 (λ q. omega arith), le-ltb 32 n last) refl in
    by_access (λ x y. x ≡ some (number_without pins w)) pins w n option.none option.none (λ t. never (sym inside ∙ t)) (λ s. rw s refl)
    (λ f h. rw f refl) (λ right k. never (sym e ∙ right)) (λ right least most. never (sym e ∙ right))

write_without : (c : Controller) (w : Writer) (n : ℕ) (v : ℤ) → let pins = c.core.conditions.pins in has_right pins w n ≡ false →
    writes.write c w n v ≡ record { next = c; answer = reply_by (access_or pins w n option.none) }
unfolding writes.write write_core response_from controller_after refused executed changed limited_to
write_without c w n v e =
    rw (refused_without c.core w n v e)
    (by_refusal (λ o. response_from c (refused_or o c.core (write_accepted c.core n v)) ≡ record { next = c; answer = reply_by o })
    c.core.conditions.pins w n e (λ k. refl))

-- by the contract, after these calls
pub unchanged : {word : ℕ} {xs : Calls} {rs : List Response} {c : Controller} → Linked word xs rs c → (w : Writer) (n : ℕ) (v : ℤ)
    (r : CallResult) → WriteEnsures c w n v r → has_right (last_pins word xs) w n ≡ false →
    (r.controller ≡ c) × (reply_of_verdict r.verdict ≡ reply_by (access_or (last_pins word xs) w n option.none))
unchanged {c = c} l w n v r e without =
    let pins = our_pins l in
    let is = e.0 ∙ write_without c w n v (ap (λ (p : ℕ). has_right p w n) pins ∙ without) in (
      ap (λ (h : Response). h.next) is,
      ap (λ (h : Response). h.answer) is ∙ ap (λ (p : ℕ). reply_by (access_or p w n option.none)) pins,
    )

-- ---- a write by someone with it

pub has_both : (pins : ℕ) (w : Writer) (n : ℕ) → has_right pins w n ≡ true → (is_of n w ≡ true) × (is_shut_out pins w ≡ false)
unfolding has_right
has_both pins w n e = let h = both (is_of n w) (not (is_shut_out pins w)) e in (h.0, not-true (is_shut_out pins w) h.1)

pub by_value : {word : ℕ} {xs : Calls} {rs : List Response} {c : Controller} → Linked word xs rs c → (w : Writer) (n : ℕ) (v : ℤ)
    (r : CallResult) → WriteEnsures c w n v r → has_right (last_pins word xs) w n ≡ true → (k : ℕ) →
    reply_of_verdict r.verdict ≡ number k → (4 ≤ k) × (k ≤ 11)
by_value {c = c} l w n v r e right k is =
    let h = has_both c.core.conditions.pins w n (ap (λ (p : ℕ). has_right p w n) (our_pins l) ∙ right) in
    let tests = right_common c.core w n v (pin_is w c.core.conditions.pins ∙ h.1) (right_is w n ∙ h.0) in
    refused_from 4 11 (common_tests c.core n v) (common_numbers c.core n v) k
    (sym tests ∙ write_refused c w n v k (sym (ap (λ (h : Response). h.answer) e.0) ∙ is))

-- ---- lists without such writes

-- of the exact controller
call_without : (word : ℕ) (xs : Calls) (x : Call) → is_permitted (last_pins word xs) x ≡ false →
    exact_after (exact word xs) x ≡ exact word xs
unfolding is_permitted exact_after outcome_of write_core refused
call_without word xs (scan i) e = never (sym e)
call_without word xs (write w n v) e =
    let pins = pins_after_lem word xs in
    let without = ap (λ (p : ℕ). has_right p w n) pins ∙ e in
    let c = exact word xs in
    rw (refused_without c.core w n v without)
    (by_refusal (λ o. after_outcome c (write w n v) (refused_or o c.core (write_accepted c.core n v)) ≡ c)
    c.core.conditions.pins w n without (λ k. refl))
call_without word xs (restart image) e = never (sym e)

exact_permitted : (word : ℕ) (xs : Calls) → exact word (permitted word xs) ≡ exact word xs
unfolding permitted exact
exact_permitted word none = refl
exact_permitted word (xs then x) = go (is_permitted (last_pins word xs) x) refl (exact_permitted word xs)
  where
    go : (t : Bool) → is_permitted (last_pins word xs) x ≡ t → exact word (permitted word xs) ≡ exact word xs →
        exact word (if t then permitted word xs then x else permitted word xs) ≡ exact_after (exact word xs) x
    go true e earlier = ap (λ (k : Exact). exact_after k x) earlier
    go false e earlier = earlier ∙ sym (call_without word xs x e)

-- and of ours
chain_permitted : {word : ℕ} {xs : Calls} {rs : List Response} {c : Controller} → Linked word xs rs c →
    ChainTo word (permitted word xs) c
unfolding permitted is_permitted
chain_permitted (started r e) = record { responses = []; chain = started r e }
chain_permitted (scanned i r l e) =
    let k = chain_permitted l in record { responses = response_of r ∷ k.responses; chain = scanned i r k.chain e }
chain_permitted (restarted life image r l e) =
    let k = chain_permitted l in
    record { responses = response_of_verdict r ∷ k.responses; chain = restarted life image r k.chain e }
chain_permitted {word} (wrote {xs} {rs} {c} w n v r l e) = go (has_right (last_pins word xs) w n) refl (chain_permitted l)
  where
    go : (t : Bool) → has_right (last_pins word xs) w n ≡ t → ChainTo word (permitted word xs) c →
        ChainTo word (if t then permitted word xs then write w n v else permitted word xs) r.controller
    go true q k = record { responses = response_of_verdict r ∷ k.responses; chain = wrote w n v r k.chain e }
    go false q k = subst (ChainTo word (permitted word xs)) (sym (unchanged l w n v r e q).0) k

pub without_right_nothing : WithoutRightNothing
without_right_nothing word calls rs c l =
    record { chain = chain_permitted l; same = exact_permitted word calls }
