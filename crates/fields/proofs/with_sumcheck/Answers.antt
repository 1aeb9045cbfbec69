-- `fields::with_sumcheck` meets its contract.
use Rattle.std.proofs.Common.{◌≡◌, ℕ, [], ◌∷◌, ◌++◌, length, take, set, sym, ap, ◌∙◌, arith, length-set, take_all, take-suc-set}
use Rattle.fields.specs.Fields.{with_sumcheck}
use Rattle.fields.proofs.with_sumcheck.Goals as goal

pub returns : goal.returns
unfolding with_sumcheck
returns c = let l = c.args.values in
    let s = c.sumcheck.result in
    let size : length l ≡ 28 = c.well_formed.0.1.0.1 in
    let whole : take 28 (set l 27 s) ≡ set l 27 s = take_all 28 (set l 27 s) (omega (arith, length-set l 27 s)) in
    sym whole ∙ take-suc-set l 27 s (omega arith) ∙ ap (λ (n : ℕ). take 27 l ++ (n ∷ [])) c.sumcheck.ensures
