use Rattle.std.proofs.Common.{◌≡◌, pos, rules, sym, ap}
use Rattle.mj_types.specs.Duals.{wide_at}
use Rattle.mj_types.specs.Parts.{number_at, plain}
use Rattle.mj_cert.proofs.SolvedLaws.{held-fits, along-fits, slope-fits, gradient-is}
use Rattle.mj_cert.proofs.slope.slope_of.Goals as goal

pub times-held-requires : goal.times-held-requires
times-held-requires c =
    let d = c.args.dual.now in
    let x = c.args.forces.now in
    let r : wide_at d.r c.args.i ≡ c.at.result.raw = ap (λ w. w.raw) (c.at.ensures (record { raw = pos 0 })) in
    let f : number_at x.f c.args.i ≡ c.at-2.result.mid = ap (λ n. n.mid) (c.at-2.ensures (plain (pos 0))) in
    rw (← r, ← f) (held-fits d x c.args.i c.requires.solved c.requires.row)

pub plus-requires : goal.plus-requires
plus-requires c =
    let d = c.args.dual.now in
    let x = c.args.forces.now in
    let r : wide_at d.r c.args.i ≡ c.at.result.raw = ap (λ w. w.raw) (c.at.ensures (record { raw = pos 0 })) in
    let f : number_at x.f c.args.i ≡ c.at-2.result.mid = ap (λ n. n.mid) (c.at-2.ensures (plain (pos 0))) in
    let fits = along-fits d x c.args.i c.requires.solved c.requires.row in
    rw (c.row_product-along.ensures, c.times-held.ensures, ← r, ← f) (search (rules, fits))

pub plus-requires-2 : goal.plus-requires-2
plus-requires-2 c =
    let d = c.args.dual.now in
    let x = c.args.forces.now in
    let r : wide_at d.r c.args.i ≡ c.at.result.raw = ap (λ w. w.raw) (c.at.ensures (record { raw = pos 0 })) in
    let f : number_at x.f c.args.i ≡ c.at-2.result.mid = ap (λ n. n.mid) (c.at-2.ensures (plain (pos 0))) in
    let b : number_at d.b c.args.i ≡ c.at-3.result.mid = ap (λ n. n.mid) (c.at-3.ensures (plain (pos 0))) in
    let fits = slope-fits d x c.args.i c.requires.solved c.requires.row in
    rw (c.plus.ensures, c.raise.ensures, c.row_product-along.ensures, c.times-held.ensures, ← r, ← f, ← b) (search (rules, fits))

pub returns : goal.returns
returns c =
    let d = c.args.dual.now in
    let x = c.args.forces.now in
    let r : wide_at d.r c.args.i ≡ c.at.result.raw = ap (λ w. w.raw) (c.at.ensures (record { raw = pos 0 })) in
    let f : number_at x.f c.args.i ≡ c.at-2.result.mid = ap (λ n. n.mid) (c.at-2.ensures (plain (pos 0))) in
    let b : number_at d.b c.args.i ≡ c.at-3.result.mid = ap (λ n. n.mid) (c.at-3.ensures (plain (pos 0))) in
    rw (c.plus-2.ensures, c.plus.ensures, c.raise.ensures, c.row_product-along.ensures, c.times-held.ensures, ← r, ← f, ← b) (sym (gradient-is d x c.args.i c.requires.solved))
