use Rattle.std.proofs.Common.{◌≡◌, ℕ, ℤ, Bool, true, cond, ap₂, ◌∙◌, sym}
use Rattle.std.proofs.lemmas.Bool.{cond-true, cond-false}
use Rattle.fx_num.specs.declared.number.Number.{Number}
use Rattle.fx_vec.specs.Views.{spatial, spatial_radii}
use Rattle.mj_types.specs.Masses.{no_near}
use Rattle.mj_types.specs.Placed.{spatial_at}
use Rattle.mj_inertia.specs.MassEntries.{joins, entry, rounded_radius}
use Rattle.mj_inertia.specs.Written.{near_entry}
use Rattle.mj_inertia.proofs.MassLaws.{entry-above, fault-above}
use Rattle.mj_inertia.proofs.matrix.earlier_entry.Goals as goal

near_is : (x : Number ℕ 40) (b : Bool) (mid : ℤ) (rad : ℕ) → b ≡ true → x.mid ≡ mid → x.rad ≡ rad → x ≡ cond b (record { mid = mid; rad = rad }) no_near
near_is x b mid rad t e f =
    ap₂ (λ (m : ℤ) (r : ℕ). let n : Number ℕ 40 = record { mid = m; rad = r } in n) e f ∙ sym (cond-true b (record { mid = mid; rad = rad }) no_near t)

pub returns-in-Ok-clause-value : goal.returns-in-Ok-clause-value
unfolding near_entry
returns-in-Ok-clause-value c =
    let m = c.args.model.now in
    let s = spatial_at c.args.column.now c.args.i in
    let h = spatial c.args.momentum.now in
    near_is c.in-Ok.x (joins m c.args.i c.args.j) (entry m s h c.args.i c.args.j) (rounded_radius s h (spatial_radii (λ (r : ℕ). r) c.args.momentum.now))
    (sym c.requires.joins ∙ c.if-joins.true)
    (c.in-Ok.ensures.mid ∙ entry-above m s h c.args.i c.args.j c.requires.order)
    c.in-Ok.ensures.rad

pub returns-in-Ok-clause-first : goal.returns-in-Ok-clause-first
returns-in-Ok-clause-first c =
    fault-above c.args.model.now (spatial_at c.args.column.now) (spatial c.args.momentum.now) c.args.j c.args.i _
    (sym c.requires.joins ∙ c.if-joins.true) c.requires.order c.in-Ok.ensures.first

pub returns-in-Err-clause-first : goal.returns-in-Err-clause-first
returns-in-Err-clause-first c =
    fault-above c.args.model.now (spatial_at c.args.column.now) (spatial c.args.momentum.now) c.args.j c.args.i _
    (sym c.requires.joins ∙ c.if-joins.true) c.requires.order c.in-Err.ensures.first

pub returns-else-joins-clause-value : goal.returns-else-joins-clause-value
unfolding near_entry
returns-else-joins-clause-value c = sym (cond-false (joins c.args.model.now c.args.i c.args.j) _ no_near (sym c.requires.joins ∙ c.if-joins.false))
