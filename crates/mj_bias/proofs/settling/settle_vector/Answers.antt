use Rattle.std.proofs.Common.{◌≡◌, ℕ, ◌-◌, SFits, unsigned_abs, ap, ap₂, ◌∙◌, arith}
use Rattle.std.proofs.lemmas.Int.{to_z-of_z}
use mir.Syntax.{w64}
use Rattle.mj_types.specs.Ranges.{named}
use Rattle.mj_bias.specs.Measures.{measured, totals, settled_by, measure_fault}
use Rattle.mj_bias.proofs.settling.settle_vector.Goals as goal

pub returns-in-Ok-clause-value : goal.returns-in-Ok-clause-value
returns-in-Ok-clause-value g c =
    let e : g.row.P - g.row.F ≡ 32 = omega arith in
    ap₂ (λ s w. measured s w) c.in-Ok.ensures.mid c.in-Ok.ensures.rad
    ∙ ap (λ (n : ℕ). settled_by g.K.Carry.settled n (totals g.K.Carry.wide_width c.args.sum.now)) e

pub returns-in-Ok-clause-within : goal.returns-in-Ok-clause-within
returns-in-Ok-clause-within g c =
    let limit : SFits w64 c.args.limit = c.ranges.limit in
    let within = simp to_z-of_z at c.in-Ok.ensures.within in
    record { value_ = within; width_ = c.in-Ok.ensures.small }

pub returns-in-Ok-clause-first : goal.returns-in-Ok-clause-first
returns-in-Ok-clause-first g c =
    let limit : SFits w64 c.args.limit = c.ranges.limit in
    let e : g.row.P - g.row.F ≡ 32 = omega arith in
    let first = simp to_z-of_z at c.in-Ok.ensures.first in
    ap (named c.args.kind c.args.index) first
    ∙ ap (λ (n : ℕ). measure_fault c.args.kind c.args.index (unsigned_abs c.args.limit) (settled_by g.K.Carry.settled n (totals g.K.Carry.wide_width c.args.sum.now))) e

pub returns-in-Err-clause-first : goal.returns-in-Err-clause-first
returns-in-Err-clause-first g c =
    let limit : SFits w64 c.args.limit = c.ranges.limit in
    let e : g.row.P - g.row.F ≡ 32 = omega arith in
    let first = simp to_z-of_z at c.in-Err.ensures.first in
    c.fault.ensures ∙ ap (named c.args.kind c.args.index) first
    ∙ ap (λ (n : ℕ). measure_fault c.args.kind c.args.index (unsigned_abs c.args.limit) (settled_by g.K.Carry.settled n (totals g.K.Carry.wide_width c.args.sum.now))) e
