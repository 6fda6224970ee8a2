use Rattle.std.proofs.Common.{◌≤ℤ◌, pos, ℤ, ◌≡◌, sym, subst, rules}
use Rattle.mj_quat.specs.Rotation.{quaternion, square_sum}
use Rattle.mj_quat.proofs.LengthLaws.{square_sum-nonneg}
use Rattle.mj_quat.proofs.lengths.square_sum.Goals as goal

of_value : (n m : ℤ) → n ≡ m → pos 0 ≤ℤ m → pos 0 ≤ℤ n
of_value n m e h = subst (λ x. pos 0 ≤ℤ x) (sym e) h

pub returns-clause-not_negative : goal.returns-clause-not_negative
returns-clause-not_negative c = of_value _ (square_sum (quaternion c.args.q.now)) (search rules) (square_sum-nonneg (quaternion c.args.q.now))
