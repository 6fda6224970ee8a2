use Rattle.std.proofs.Common.{ℕ, ◌-◌, ◌^◌, ◌<◌, ◌≤◌}
use Rattle.mj_optimum.specs.Box.{rise}
use Rattle.mj_cert.proofs.curve.Curve.bisect.Given as goal

pub record Bracket (rise low high : ℕ) : Type 0 where
  pub in_range : high ≤ 2 ^ 52
  pub before : low < rise
  pub risen : rise ≤ high

abbrev pub invariant-loop-high : goal.invariant-loop-high
invariant-loop-high l = Bracket (rise l.self.g l.self.r l.self.height) l.low l.high

abbrev pub decreases-loop-high : goal.decreases-loop-high
decreases-loop-high l = l.high - l.low
