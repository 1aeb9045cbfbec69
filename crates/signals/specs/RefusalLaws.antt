-- Which of the tests that hold gives the number of a refusal: the first in the order of the list. Where the tests are
-- listed by ascending numbers that is the lowest number of all that hold, "Within a group the lowest number wins."
use Rattle.std.specs.Prelude.{◌≡◌, refl, Bool, true, false, List, [], ◌∷◌, ◌++◌, ℕ, ◌≤◌, ◌<◌, Result, Ok, Err, if◌then◌else◌}
use Rattle.std.proofs.Common.{ap, ◌∙◌, arith}
use Rattle.std.specs.Result.{IsErrAnd, result_and}
use Rattle.std.proofs.Math.Option.{some}
use Rattle.std.proofs.lemmas.Result.{err_from_is_err_and}
use Rattle.signals.specs.Refusals.{Verdict, number_in, first_of, refused_by, scan_tests}
use Rattle.signals.specs.declared.Input.{Input}
use Rattle.signals.specs.declared.Refusal.{Refusal}
use Rattle.signals.specs.Clock.{ClockReading}

-- ---- tests of one list behind those of another

pub refused_append : (ts us : List (Bool × ℕ)) → refused_by (ts ++ us) ≡ first_of (refused_by ts) (refused_by us)
unfolding refused_by
refused_append [] us = refl
refused_append (t ∷ ts) us = go t.0 (refused_append ts us)
  where
    go : (b : Bool) → refused_by (ts ++ us) ≡ first_of (refused_by ts) (refused_by us) →
        (if b then some t.1 else refused_by (ts ++ us)) ≡ first_of (if b then some t.1 else refused_by ts) (refused_by us)
    go true e = refl
    go false e = e

-- ---- what `?` returns: the refusal that it met

pub refusal_returned : {T : Type 0} (r : Result T Refusal) (refusal : Refusal) → IsErrAnd r (λ e. e ≡ refusal) → r ≡ Err refusal
refusal_returned r refusal h = let e = err_from_is_err_and r h in e.1 ∙ ap Err e.2

-- ---- of two verdicts, one after the other

pub number_of_both : (a b : Verdict) → number_in (result_and a b) ≡ first_of (number_in a) (number_in b)
number_of_both (Ok accepted) b = refl
number_of_both (Err refusal) b = refl

-- ---- an order of refusals: each number has a rank

-- the order of the numbers themselves
abbrev pub by_number : ℕ → ℕ
by_number n = n

-- every number of the list ranks above this one
abbrev pub Above : (ℕ → ℕ) → ℕ → List (Bool × ℕ) → Type 0
Above rank n [] = Unit {0}
Above rank n (t ∷ ts) = (rank n < rank t.1) × Above rank n ts

-- each number ranks below all behind it
abbrev pub Ascending : (ℕ → ℕ) → List (Bool × ℕ) → Type 0
Ascending rank [] = Unit {0}
Ascending rank (t ∷ ts) = Above rank t.1 ts × Ascending rank ts

-- a test with this number holds
pub data Holds (n : ℕ) : List (Bool × ℕ) → Type 0 where
  here : {t : Bool × ℕ} {ts : List (Bool × ℕ)} → t.0 ≡ true → t.1 ≡ n → Holds n (t ∷ ts)
  later : {t : Bool × ℕ} {ts : List (Bool × ℕ)} → Holds n ts → Holds n (t ∷ ts)

-- so a test that holds has a number above that one
above_holds : (rank : ℕ → ℕ) (n m : ℕ) (ts : List (Bool × ℕ)) → Above rank n ts → Holds m ts → rank n < rank m
above_holds rank n m (t ∷ ts) a (here e q) = omega (arith, a.0, ap rank q)
above_holds rank n m (t ∷ ts) a (later h) = above_holds rank n m ts a.1 h
above_holds rank n m [] a h = elim h [ ]

-- a number out of an answer
some_is : (m n : ℕ) → some m ≡ some n → m ≡ n
some_is m n e = cc

-- the number that `refused_by` gives has the lowest rank of those whose tests hold
pub lowest_wins : (rank : ℕ → ℕ) (ts : List (Bool × ℕ)) → Ascending rank ts → (n : ℕ) → refused_by ts ≡ some n →
    (m : ℕ) → Holds m ts → rank n ≤ rank m
unfolding refused_by
lowest_wins rank (t ∷ ts) a n e m (here q d) = omega (arith, ap rank d, ap rank (some_is t.1 n (rw q at e)))
lowest_wins rank (t ∷ ts) a n e m (later h) = go t.0 refl (λ d. lowest_wins rank ts a.1 n d m h)
  where
    go : (b : Bool) → t.0 ≡ b → (refused_by ts ≡ some n → rank n ≤ rank m) → rank n ≤ rank m
    go true q f = omega (arith, above_holds rank t.1 m ts a.0 h, ap rank (some_is t.1 n (rw q at e)))
    go false q f = f (rw q at e)
lowest_wins rank [] a n e m h = elim h [ ]

-- ---- the numbers of a list

-- every number of the list lies from one to another
abbrev pub AllFrom : ℕ → ℕ → List (Bool × ℕ) → Type 0
AllFrom least most [] = Unit {0}
AllFrom least most (t ∷ ts) = (least ≤ t.1) × (t.1 ≤ most) × AllFrom least most ts

-- so the one that `refused_by` gives does
pub refused_from : (least most : ℕ) (ts : List (Bool × ℕ)) → AllFrom least most ts → (k : ℕ) → refused_by ts ≡ some k →
    (least ≤ k) × (k ≤ most)
unfolding refused_by
refused_from least most [] f k e = let z : ◌≡◌ {A = ℕ} 0 1 = cc in absurd (omega arith)
refused_from least most (t ∷ ts) f k e = go t.0 refl (refused_from least most ts f.2 k)
  where
    go : (b : Bool) → t.0 ≡ b → (refused_by ts ≡ some k → (least ≤ k) × (k ≤ most)) → (least ≤ k) × (k ≤ most)
    go true q r = let is = some_is t.1 k (rw q at e) in (omega (arith, is, f.0), omega (arith, is, f.1))
    go false q r = r (rw q at e)

-- ---- the tests of a scan are listed by their numbers

pub scan_ascends : (last : ClockReading) (i : Input) → Ascending by_number (scan_tests last i)
unfolding scan_tests
scan_ascends last i =
    ((omega arith, (omega arith, (omega arith, tt))), ((omega arith, (omega arith, tt)), ((omega arith, tt), (tt, tt))))
