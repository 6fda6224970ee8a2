use Rattle.std.proofs.Common.{◌≡◌, ℕ, ◌^◌, ◌<◌, ◌≤ℤ◌, ℤ, pos, List, length, None}
use Rattle.fx_whole.specs.First.{first_to}
use Rattle.fx_num.specs.declared.number.Wide.{Wide}
use Rattle.mj_optimum.specs.Cost.{gradient}
use Rattle.mj_optimum.specs.Limits.{shortfall_to}
use Rattle.mj_optimum.specs.Shortfall.{shortfall}
use Rattle.mj_types.specs.declared.dual.Dual.{Dual}
use Rattle.mj_types.specs.declared.dual.Forces.{Forces}
use Rattle.mj_types.specs.Duals.{wide_at}
use Rattle.mj_types.specs.Problems.{problem, forces}
use Rattle.mj_cert.specs.Certificate.{shortfall_out}
use Rattle.mj_cert.proofs.fall.fill_shortfalls.Given as goal

-- the rows below n are done
pub record ShortfallsSoFar (d : Dual) (x : Forces) (slope_room depth_room n : ℕ) (slope : List (Wide 68)) (depth : List (Wide 88)) (total : ℤ) : Type 0 where
  pub slope_len : length slope ≡ slope_room
  pub depth_len : length depth ≡ depth_room
  pub passed : first_to n (shortfall_out d x) ≡ None
  pub sum : total ≡ shortfall_to (problem d) (forces x) n
  pub limit : total ≤ℤ pos (2 ^ 124)
  pub slopes : (k : ℕ) → k < n → wide_at slope k ≡ gradient (problem d) (forces x) k
  pub depths : (k : ℕ) → k < n → wide_at depth k ≡ shortfall (problem d) (forces x) k

abbrev pub invariant-loop-i : goal.invariant-loop-i
invariant-loop-i l = ShortfallsSoFar l.dual l.forces (length l.fn.slope) (length l.fn.depth) l.i l.slope l.depth l.total.raw
