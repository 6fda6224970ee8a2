use Rattle.std.proofs.Common.{◌≡◌, ◌≤ℤ◌, ◌^◌, pos, unsigned_abs, rules, arith, ap, sym, subst}
use Rattle.fx_vec.specs.Sizes.{Within}
use Rattle.fx_vec.specs.Views.{mids}
use Rattle.mj_quat.specs.Rotation.{vector_length}
use Rattle.mj_quat.proofs.LengthLaws.{vector_covered, vector_length-nonneg, vector_length-le}
use Rattle.mj_quat.proofs.lengths.vector_length.Goals as goal

pub returns-clause-not_negative : goal.returns-clause-not_negative
unfolding vector_length
returns-clause-not_negative c =
    let v : c.root.result.mid ≡ vector_length (mids c.args.v.now) = search rules in
    subst (λ s. pos 0 ≤ℤ s) (sym v) (vector_length-nonneg (mids c.args.v.now))

pub returns-clause-covers : goal.returns-clause-covers
unfolding vector_length
returns-clause-covers c =
    let v : c.root.result.mid ≡ vector_length (mids c.args.v.now) = search rules in
    subst (λ s. Within (mids c.args.v.now) (unsigned_abs s)) (sym v) (vector_covered (mids c.args.v.now))

pub returns-clause-bound : goal.returns-clause-bound
unfolding vector_length
returns-clause-bound c limit h =
    let v : c.root.result.mid ≡ vector_length (mids c.args.v.now) = search rules in
    omega (arith, ap unsigned_abs v, vector_length-le (mids c.args.v.now) limit h)

pub returns-clause-near : goal.returns-clause-near
unfolding vector_length
returns-clause-near c h =
    let v : c.root.result.mid ≡ vector_length (mids c.args.v.now) = search rules in
    omega (arith, ap unsigned_abs v, vector_length-le (mids c.args.v.now) (2 ^ 47) h)
