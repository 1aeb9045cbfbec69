-- The counts of the modes and their total.
use Rattle.std.specs.Prelude.{◌≡◌, List, [], ◌∷◌, ℕ, zero, suc, ◌+◌, ◌≤◌, ◌<◌, length, get_or, set, sum}
use Rattle.std.proofs.Common.{arith}
use Rattle.std.proofs.lemmas.List.Sums.{sum_by-cons, sum_by-set}
use Rattle.modes.specs.declared.Mode.{Mode}
use Rattle.modes.specs.declared.Mode.TheVariants as mode
use Rattle.sheet.specs.Sheet.{place_of}

pub place_few : (m : Mode) → place_of m < 8
place_few mode.Hold = omega arith
place_few mode.Track = omega arith
place_few mode.Forced = omega arith
place_few mode.Manual = omega arith
place_few mode.Auto = omega arith
place_few mode.Remote = omega arith
place_few mode.Ratio = omega arith
place_few mode.Fallback = omega arith

pub count_most : (ns : List ℕ) (k : ℕ) → get_or ns k 0 ≤ sum ns
count_most [] k = omega arith
count_most (n ∷ ns) zero = omega (arith, sum_by-cons (λ n. n) n ns)
count_most (n ∷ ns) (suc k) = let h = count_most ns k in omega (arith, sum_by-cons (λ n. n) n ns)

pub total_more : (ns : List ℕ) (k : ℕ) → k < length ns → sum (set ns k (get_or ns k 0 + 1)) ≡ sum ns + 1
total_more ns k h = omega (arith, sum_by-set (λ n. n) ns k (get_or ns k 0 + 1) 0 h)
