use Rattle.std.proofs.Common.{◌≡◌, ◌+◌, ◌^◌, ℤ, ◌-ℤ◌, ◌*ℤ◌, IfOk, ap, ◌∙◌, subst}
use Rattle.fx_num.specs.Settled.{settled_mid}
use Rattle.fx_whole.specs.First.{refusal_of}
use Rattle.mj_types.specs.declared.range.Quantity.TheVariants as kind
use Rattle.mj_types.specs.Ranges.{limited}
use Rattle.mj_passive.specs.Forces.{tension_of}
use Rattle.mj_passive.proofs.tendons.tension.Goals as goal

is : (c : goal.After-settled) → c.minus_product.result.raw
    ≡ c.args.motors.now.raw -ℤ c.args.tendon.now.stiffness.mid *ℤ (c.args.length.now.mid -ℤ c.args.tendon.now.springlength.mid) -ℤ c.args.tendon.now.damping.mid *ℤ c.args.rate.now.mid
is c =
    c.minus_product.ensures.value
    ∙ ap (λ (x : ℤ). x -ℤ c.args.tendon.now.damping.mid *ℤ c.args.rate.now.mid)
    (c.minus_product-spring.ensures.value ∙ ap (λ (x : ℤ). c.args.motors.now.raw -ℤ c.args.tendon.now.stiffness.mid *ℤ x) c.less.ensures.value)

pub returns-clause-value : goal.returns-clause-value
unfolding tension_of
returns-clause-value c = subst (λ (x : ℤ). IfOk c.settled.result (λ y. y.mid ≡ settled_mid x 32)) (is c) c.settled.ensures.value

pub returns-clause-first : goal.returns-clause-first
unfolding tension_of
returns-clause-first c = subst (λ (x : ℤ). refusal_of c.settled.result ≡ limited kind.TendonForce (c.args.t + 1) (2 ^ 52) (settled_mid x 32)) (is c) c.settled.ensures.first
