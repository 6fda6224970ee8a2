use Rattle.std.proofs.Common.{◌≡◌, ℕ, ◌<◌, List, length, None}
use Rattle.fx_whole.specs.First.{first_to}
use Rattle.fx_num.specs.declared.number.Number.{Number}
use Rattle.mj_optimum.specs.Box.{lo, hi}
use Rattle.mj_types.specs.declared.dual.Dual.{Dual}
use Rattle.mj_types.specs.declared.dual.Forces.{Forces}
use Rattle.mj_types.specs.Parts.{number_at}
use Rattle.mj_types.specs.Problems.{problem, forces}
use Rattle.mj_cert.specs.Certificate.{box_out}
use Rattle.mj_cert.proofs.ends.fill_box.Given as goal

-- the rows below n are done
pub record BoxSoFar (d : Dual) (x : Forces) (low_room high_room n : ℕ) (low high : List (Number (Unit {0}) 20)) : Type 0 where
  pub low_len : length low ≡ low_room
  pub high_len : length high ≡ high_room
  pub passed : first_to n (box_out d x) ≡ None
  pub lows : (k : ℕ) → k < n → number_at low k ≡ lo (problem d) (forces x) k
  pub highs : (k : ℕ) → k < n → number_at high k ≡ hi (problem d) (forces x) k

abbrev pub invariant-loop-i : goal.invariant-loop-i
invariant-loop-i l = BoxSoFar l.dual l.forces (length l.fn.lo) (length l.fn.hi) l.i l.lo l.hi
