-- The sum of the shortfalls so far, and its range.
use Rattle.std.proofs.Common.{◌≡◌, ℕ, suc, ◌^◌, ◌<◌, ◌≤◌, ℤ, pos, ◌+ℤ◌, ◌-ℤ◌, ◌≤ℤ◌, unsigned_abs, false, nat_le, Some, None, sym, arith}
use Rattle.std.proofs.lemmas.Int.{ints, by_lt_z}
use Rattle.std.proofs.lemmas.Bool.{cond-false}
use Rattle.std.proofs.lemmas.Bool.Decides.{nat_tests}
use Rattle.fx_whole.proofs.SumLaws.{sum_to-nonneg}
use Rattle.mj_optimum.specs.Shortfall.{shortfall, total_shortfall}
use Rattle.mj_optimum.specs.Limits.{shortfall_to}
use Rattle.mj_optimum.proofs.BoundLaws.{shortfall_nonneg, left_to_nonneg}
use Rattle.mj_types.specs.declared.dual.Dual.{Dual}
use Rattle.mj_types.specs.declared.dual.Forces.{Forces}
use Rattle.mj_types.specs.declared.range.Quantity.TheVariants as kind
use Rattle.mj_types.specs.Problems.{problem, forces, place}
use Rattle.mj_types.specs.Solved.{IsSolved}
use Rattle.mj_cert.specs.Certificate.{shortfall_out}
use Rattle.mj_types.proofs.DualLaws.{regular}

pub row-nonneg : (d : Dual) (x : Forces) (i : ℕ) → IsSolved d x → i < d.m → pos 0 ≤ℤ shortfall (problem d) (forces x) i
row-nonneg d x i s q = shortfall_nonneg (problem d) (forces x) (regular d) s.feasible i q

pub so_far-nonneg : (d : Dual) (x : Forces) (n : ℕ) → IsSolved d x → n ≤ d.m → pos 0 ≤ℤ shortfall_to (problem d) (forces x) n
so_far-nonneg d x n s l = sum_to-nonneg n (shortfall (problem d) (forces x)) (λ k q. row-nonneg d x k s (omega arith))

-- a row whose shortfall alone passes the limit
pub passes : (d : Dual) (x : Forces) (i : ℕ) → IsSolved d x → i < d.m → (shortfall (problem d) (forces x) i ≤ℤ pos (2 ^ 124) → ⊥)
    → Some (record { kind = kind.Shortfall; index = place d i }) ≡ shortfall_out d x i
passes d x i s q over =
    sym (cond-false (nat_le (unsigned_abs (shortfall_to (problem d) (forces x) (suc i))) (2 ^ 124)) None (Some (record { kind = kind.Shortfall; index = place d i })) (past (shortfall_to (problem d) (forces x) i) (shortfall (problem d) (forces x) i) (so_far-nonneg d x i s (omega arith)) over))
  where
    beyond : (a b : ℤ) → pos 0 ≤ℤ a → (b ≤ℤ pos (2 ^ 124) → ⊥) → 2 ^ 124 < unsigned_abs (a +ℤ b)
    beyond a b h o = by_lt_z (pos (2 ^ 124)) b (λ l. omega (arith, ints)) (λ l. absurd (o l))

    past : (a b : ℤ) → pos 0 ≤ℤ a → (b ≤ℤ pos (2 ^ 124) → ⊥) → nat_le (unsigned_abs (a +ℤ b)) (2 ^ 124) ≡ false
    past a b h o = let l : 2 ^ 124 < unsigned_abs (a +ℤ b) = beyond a b h o in grind (arith, nat_tests)

-- what the other rows fall short by
pub others-nonneg : (d : Dual) (x : Forces) (i : ℕ) → IsSolved d x → i < d.m → pos 0 ≤ℤ (total_shortfall (problem d) (forces x) -ℤ shortfall (problem d) (forces x) i)
others-nonneg d x i s q = left_to_nonneg (problem d) (forces x) (regular d) s.feasible i q

pub total-nonneg : (d : Dual) (x : Forces) → IsSolved d x → pos 0 ≤ℤ total_shortfall (problem d) (forces x)
unfolding total_shortfall
total-nonneg d x s = so_far-nonneg d x d.m s (omega arith)
