use Rattle.std.proofs.Common.{ℤ, pos, ◌+ℤ◌, ◌*ℤ◌, ◌≡◌, ap, ◌∙◌, arith}
use Rattle.std.proofs.lemmas.Int.{ints}
use Rattle.mj_passive.specs.Forces.{motor_force}
use Rattle.mj_passive.proofs.motors.force.Goals as goal

none : (x : ℤ) → pos 0 +ℤ x ≡ x
none x = omega (arith, ints)

pub returns-clause-value : goal.returns-clause-value
unfolding motor_force
returns-clause-value c = c.plus_product.ensures.value ∙ none _ ∙ ap (λ (u : ℤ). c.args.motor.now.gear.mid *ℤ u) c.held.ensures.value
