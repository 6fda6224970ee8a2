-- The laws of the stop: it comes after the first sweep whose drop is within the tolerance.
use Rattle.std.proofs.Common.{◌≡◌, ℕ, suc, ◌^◌, ◌<◌, ℤ, pos, ◌*ℤ◌, ◌<ℤ◌, ◌≤ℤ◌, cond, Some, None, ap, ◌∙◌, arith}
use Rattle.std.proofs.lemmas.Bool.{eq-eqb, ne_eqb}
use Rattle.fx_whole.specs.First.{first_to}
use Rattle.fx_whole.proofs.FirstLaws.{first_here, first_none}
use Rattle.mj_optimum.specs.declared.stop.Stop.TheVariants.{NoRows, Tolerance, Limit}
use Rattle.mj_optimum.specs.Problem.{Problem}
use Rattle.mj_optimum.specs.Sweep.{drop_of}
use Rattle.mj_optimum.specs.Stop.{stop_after, or_limit, stop_of}
use Rattle.mj_optimum.proofs.Tests.{int_le_from, int_le_none}

goes_on : (p : Problem) (tolerance : ℤ) (s : ℕ) → (tolerance *ℤ pos (2 ^ 56)) <ℤ drop_of p s → stop_after p tolerance s ≡ None
goes_on p tolerance s h = ap (λ b. cond b (Some (Tolerance (suc s))) None) (int_le_none (drop_of p s) (tolerance *ℤ pos (2 ^ 56)) h)

stops : (p : Problem) (tolerance : ℤ) (s : ℕ) → drop_of p s ≤ℤ (tolerance *ℤ pos (2 ^ 56)) → stop_after p tolerance s ≡ Some (Tolerance (suc s))
stops p tolerance s h = ap (λ b. cond b (Some (Tolerance (suc s))) None) (int_le_from (drop_of p s) (tolerance *ℤ pos (2 ^ 56)) h)

some_rows : (p : Problem) (tolerance : ℤ) (limit : ℕ) → 0 < p.m → stop_of p tolerance limit ≡ or_limit (first_to limit (stop_after p tolerance)) limit
some_rows p tolerance limit h = ap (λ b. cond b NoRows (or_limit (first_to limit (stop_after p tolerance)) limit)) (ne_eqb p.m 0 (omega arith))

pub stop_without_rows : (p : Problem) (tolerance : ℤ) (limit : ℕ) → p.m ≡ 0 → stop_of p tolerance limit ≡ NoRows
stop_without_rows p tolerance limit e = ap (λ b. cond b NoRows (or_limit (first_to limit (stop_after p tolerance)) limit)) (eq-eqb p.m 0 e)

pub stop_at_tolerance : (p : Problem) (tolerance : ℤ) (limit s : ℕ) → 0 < p.m → s < limit → ((k : ℕ) → k < s → (tolerance *ℤ pos (2 ^ 56)) <ℤ drop_of p k) → drop_of p s ≤ℤ (tolerance *ℤ pos (2 ^ 56))
    → stop_of p tolerance limit ≡ Tolerance (suc s)
stop_at_tolerance p tolerance limit s some h before here =
    some_rows p tolerance limit some
    ∙ ap (λ x. or_limit x limit) (first_here s limit (stop_after p tolerance) (Tolerance (suc s)) h ((first_none s (stop_after p tolerance)).1 (λ k l. goes_on p tolerance k (before k l))) (stops p tolerance s here))

pub stop_at_limit : (p : Problem) (tolerance : ℤ) (limit : ℕ) → 0 < p.m → ((k : ℕ) → k < limit → (tolerance *ℤ pos (2 ^ 56)) <ℤ drop_of p k) → stop_of p tolerance limit ≡ Limit limit
stop_at_limit p tolerance limit some before =
    some_rows p tolerance limit some ∙ ap (λ x. or_limit x limit) ((first_none limit (stop_after p tolerance)).1 (λ k l. goes_on p tolerance k (before k l)))
