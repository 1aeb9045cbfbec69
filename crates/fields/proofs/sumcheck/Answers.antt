-- `fields::sumcheck` meets its contract.
use Rattle.std.proofs.Common.{◌≡◌, ℕ, ◌+◌, ◌%◌, List, [], ◌∷◌, length, take, arith, rules, ◌∙◌}
use Rattle.std.proofs.Common.{length-take, zero-add, ap}
use Rattle.std.specs.List.{fold}
use Rattle.fields.specs.Fields.{sum, sum_of}
use Rattle.fields.proofs.sumcheck.Goals as goal

-- the sum may wrap at each step or once at the end
wrapped : (vs : List ℕ) (s : ℕ) → fold (λ s v. (s + v) % 65536) (s % 65536) vs ≡ (s + sum vs) % 65536
unfolding sum
wrapped [] s = omega arith
wrapped (v ∷ vs) s =
    let next : (s % 65536 + v) % 65536 ≡ (s + v) % 65536 = omega arith in
    rw next (wrapped vs (s + v) ∙ omega arith)

pub slice_bounds-iter-end : goal.slice_bounds-iter-end
slice_bounds-iter-end c =
    let size : length c.args.values ≡ 28 = search rules in
    simp length-take (omega arith)

pub returns : goal.returns
unfolding sum_of
returns c =
    let all : c.fold.result ≡ fold (λ s v. (s + v) % 65536) 0 (take 27 c.args.values) = search rules in
    let vs = take 27 c.args.values in
    all ∙ wrapped vs 0 ∙ ap (λ (n : ℕ). n % 65536) (zero-add (sum vs))
