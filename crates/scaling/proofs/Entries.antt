-- The rule of the table of roots as a test, which the checker computes at all entries at once, and what it gives.
use mathlib.Core.Path.{◌≡◌}
use mathlib.Core.Bool.{Bool, true, ◌&&◌}
use mathlib.Core.List.{List, [], ◌∷◌}
use Prim.Native.Nat.{ℕ, suc, ◌+◌, ◌*◌}
use lib.Dec.{leb, ltb}
use borrow.Author.Tests.{leb-true, ltb-true}
use Rattle.integers.specs.Choice.{both}
use Rattle.scaling.specs.Root.{Greatest, root_from}

-- "the greatest whole number whose square isn't above 10000 times its place": its square isn't, the next number's is
abbrev pub is_root : ℕ → ℕ → Bool
is_root place r = leb (r * r) (10000 * place) && ltb (10000 * place) ((r + 1) * (r + 1))

-- each entry is the root of its place; the places are counted on from the first entry's
abbrev pub are_roots : ℕ → List ℕ → Bool
are_roots place [] = true
are_roots place (r ∷ others) = is_root place r && are_roots (suc place) others

pub root_at : (place r : ℕ) → is_root place r ≡ true → Greatest (10000 * place) r
root_at place r e =
    let tests = both (leb (r * r) (10000 * place)) (ltb (10000 * place) ((r + 1) * (r + 1))) e in
    root_from (leb-true (r * r) (10000 * place) tests.0) (ltb-true (10000 * place) ((r + 1) * (r + 1)) tests.1)
