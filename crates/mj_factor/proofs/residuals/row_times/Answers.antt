use Rattle.std.proofs.Common.{ℕ, ◌+ℤ◌, ◌*ℤ◌, unsigned_abs, length, ap₂, sym, ◌∙◌, arith}
use Rattle.fx_whole.proofs.SumLaws.{sum_to-more}
use Rattle.mj_types.specs.Parts.{number_at}
use Rattle.mj_types.specs.Masses.{mass_at}
use Rattle.mj_factor.proofs.ResidualLaws.{row_small, row_fits}
use Rattle.mj_factor.proofs.residuals.row_times.Goals as goal

pub plus_product-sum-requires : goal.plus_product-sum-requires
plus_product-sum-requires c =
    let n = length c.args.a.now in
    let row = mass_at n c.args.mass.now.m c.args.i in
    let small = row_small n row (number_at c.args.a.now) c.requires.few c.requires.mass c.requires.numbers c.loop-j.j (omega arith) c.loop-j.sum.raw c.loop-j.invariant in
    let entry = rw (← c.mass_of.ensures) at (c.requires.mass c.loop-j.j (omega arith)) in
    let fits = row_fits (unsigned_abs c.loop-j.sum.raw) (unsigned_abs c.mass_of.result.mid) (unsigned_abs (number_at c.args.a.now c.loop-j.j)) small entry (c.requires.numbers c.loop-j.j (omega arith)) in
    (omega arith, (omega arith, (omega arith, fits)))

pub loop-j-preserved : goal.loop-j-preserved
loop-j-preserved c =
    let n = length c.args.a.now in
    let term = λ (j : ℕ). mass_at n c.args.mass.now.m c.args.i j *ℤ number_at c.args.a.now j in
    c.plus_product-sum.ensures ∙ ap₂ (λ x y. x +ℤ y *ℤ number_at c.args.a.now c.loop-j.j) c.loop-j.invariant c.mass_of.ensures
    ∙ sym (sum_to-more c.loop-j.j term)

pub returns-clause-small : goal.returns-clause-small
returns-clause-small c =
    let n = length c.args.a.now in
    row_small n (mass_at n c.args.mass.now.m c.args.i) (number_at c.args.a.now) c.requires.few c.requires.mass c.requires.numbers c.loop-j.j (omega arith) c.loop-j.sum.raw c.loop-j.invariant
