use Rattle.std.proofs.Common.{ℕ, ◌+◌, ◌^◌, ◌≤◌, arith, pow_mono}
use Rattle.mj_ball.proofs.balls.left_of.Goals as goal

most : (k : ℕ) → k ≤ 50 → 2 ^ (k + 64) ≤ 2 ^ 114
most k h = let few : k + 64 ≤ 114 = omega arith in pow_mono few

pub returns-clause-small : goal.returns-clause-small
returns-clause-small c = omega (arith, c.saturating_sub.ensures, c.wide_power.ensures, most c.args.k c.requires)
