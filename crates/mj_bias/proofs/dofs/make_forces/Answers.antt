use Rattle.std.proofs.Common.{◌≡◌, ℕ, ℤ, ◌^◌, ◌<◌, Option, length, refl, sym, ap, ap₂, ◌∙◌, subst, arith}
use Rattle.std.proofs.lemmas.Result.{err_from_is_err_and}
use Rattle.fx_whole.proofs.FirstLaws.{stop_here, pass_more, pass_all}
use Rattle.fx_vec.specs.Views.{spatial}
use Rattle.mj_types.specs.declared.parts.Dof.{Dof}
use Rattle.mj_types.specs.declared.range.OutOfRange.{OutOfRange}
use Rattle.mj_types.specs.Parts.{no_dof, no_motion, body_of}
use Rattle.mj_types.specs.Placed.{spatial_at}
use Rattle.mj_bias.specs.Measures.{Measured, exact, totals, no_measure, totals_at, IsWithin}
use Rattle.mj_bias.specs.Steps.{load_there, force_there, force_radius_there, force_fault_there, Holds, AreSmall}
use Rattle.mj_bias.proofs.SeenLaws.{seen-read}
use Rattle.mj_bias.proofs.StepLaws.{exact_within}
use Rattle.mj_bias.proofs.MovingLaws.{layout_of}
use Rattle.mj_bias.proofs.PartLaws.{holds_more, small_more}
use Rattle.mj_bias.proofs.dofs.make_forces.Goals as goal

pub loop-i-init : goal.loop-i-init
loop-i-init g c = record {
  len = c.requires.c;
  values = record { value_ = λ i h d. absurd (omega arith); radius_ = λ i h d. absurd (omega arith) };
  small = record { value_ = λ i h d. absurd (omega arith); radius_ = λ i h d. absurd (omega arith) };
  passed = refl;
}

pub entry-requires-in-loop-i-2 : goal.entry-requires-in-loop-i-2
entry-requires-in-loop-i-2 g c = omega (arith, c.requires.wrench, ap (λ (x : Dof). x.body) (c.entry.ensures no_dof), (layout_of c.args.model.now).on_body c.loop-i.i (omega arith))

pub force-requires-clause-column : goal.force-requires-clause-column
force-requires-clause-column g c =
    subst (λ (s : Measured). IsWithin s (2 ^ 42) 0)
    (sym (c.exact6-column.ensures ∙ ap (λ v. exact (spatial v)) (sym (c.entry-in-loop-i.ensures no_motion))))
    (exact_within _ (2 ^ 42) (c.requires.columns c.loop-i.i (omega arith)))

pub loop-i-preserved : goal.loop-i-preserved
loop-i-preserved g c =
    let rule = g.K.Carry.settled in
    let i = c.loop-i.i in
    let m = c.args.model.now in
    let column : ℕ → Measured = λ (i : ℕ). exact (spatial_at c.args.column.now i) in
    let wrench : ℕ → Measured = λ (i : ℕ). totals_at g.K.Carry.wide_width c.args.wrench.now (body_of m.dofs i) in
    let value : ℕ → ℤ = λ (i : ℕ). force_there (column i) (load_there rule (wrench i)) in
    let radius : ℕ → ℕ = λ (i : ℕ). force_radius_there rule (column i) (load_there rule (wrench i)) in
    let fault : ℕ → Option OutOfRange = λ (i : ℕ). force_fault_there rule (column i) (wrench i) i in
    let e = ap (λ (x : Dof). x.body) (c.entry.ensures no_dof) in
    let there : c.entry.result.now.body < length c.args.wrench.now = omega (arith, c.requires.wrench, e, (layout_of m).on_body i (omega arith)) in
    let s = c.exact6-column.ensures ∙ ap (λ v. exact (spatial v)) (sym (c.entry-in-loop-i.ensures no_motion)) in
    let t = sym (ap (totals_at g.K.Carry.wide_width c.args.wrench.now) e ∙ seen-read (totals g.K.Carry.wide_width) no_measure c.args.wrench.now c.entry.result.now.body c.entry-in-loop-i-2.result.now there c.entry-in-loop-i-2.ensures) in
    record {
      len = c.put.ensures.len ∙ c.loop-i.invariant.len;
      values = holds_more g.K.Carry.width i c.loop-i.c c.put.new.self value radius c.in_ok-force.force c.put.ensures.same c.put.ensures.others c.loop-i.invariant.values
          (c.in_ok-force.ensures.value ∙ ap₂ (λ (x y : Measured). force_there x (load_there rule y)) s t)
          (c.in_ok-force.ensures.radius ∙ ap₂ (λ (x y : Measured). force_radius_there rule x (load_there rule y)) s t);
      small = small_more g.K.Carry.width i c.loop-i.c c.put.new.self c.in_ok-force.force c.put.ensures.same c.put.ensures.others c.loop-i.invariant.small c.in_ok-force.ensures.within c.in_ok-force.ensures.small;
      passed = pass_more i fault c.loop-i.invariant.passed (c.in_ok-force.ensures.first ∙ ap₂ (λ (x y : Measured). force_fault_there rule x y i) s t);
    }

pub returns-in_err-force-clause-first : goal.returns-in_err-force-clause-first
returns-in_err-force-clause-first g c =
    let rule = g.K.Carry.settled in
    let i = c.loop-i.i in
    let m = c.args.model.now in
    let fault : ℕ → Option OutOfRange = λ (i : ℕ). force_fault_there rule (exact (spatial_at c.args.column.now i)) (totals_at g.K.Carry.wide_width c.args.wrench.now (body_of m.dofs i)) i in
    let e = ap (λ (x : Dof). x.body) (c.entry.ensures no_dof) in
    let there : c.entry.result.now.body < length c.args.wrench.now = omega (arith, c.requires.wrench, e, (layout_of m).on_body i (omega arith)) in
    let s = c.exact6-column.ensures ∙ ap (λ v. exact (spatial v)) (sym (c.entry-in-loop-i.ensures no_motion)) in
    let t = sym (ap (totals_at g.K.Carry.wide_width c.args.wrench.now) e ∙ seen-read (totals g.K.Carry.wide_width) no_measure c.args.wrench.now c.entry.result.now.body c.entry-in-loop-i-2.result.now there c.entry-in-loop-i-2.ensures) in
    let r = err_from_is_err_and c.from_residual.result c.from_residual.ensures.1 in
    rw (r.1, r.2) (stop_here i m.nv fault _ (omega arith) c.loop-i.invariant.passed (c.in_err-force.ensures.first ∙ ap₂ (λ (x y : Measured). force_fault_there rule x y i) s t))

pub returns : goal.returns
returns g c =
    let m = c.args.model.now in
    let column : ℕ → Measured = λ (i : ℕ). exact (spatial_at c.args.column.now i) in
    let wrench : ℕ → Measured = λ (i : ℕ). totals_at g.K.Carry.wide_width c.args.wrench.now (body_of m.dofs i) in
    let value : ℕ → ℤ = λ (i : ℕ). force_there (column i) (load_there g.K.Carry.settled (wrench i)) in
    let radius : ℕ → ℕ = λ (i : ℕ). force_radius_there g.K.Carry.settled (column i) (load_there g.K.Carry.settled (wrench i)) in
    let e : c.loop-i.i ≡ m.nv = omega arith in
    record {
      len = c.loop-i.invariant.len ∙ sym c.requires.c;
      values = subst (λ (n : ℕ). Holds g.K.Carry.width n c.loop-i.c value radius) e c.loop-i.invariant.values;
      small = subst (λ (n : ℕ). AreSmall g.K.Carry.width n c.loop-i.c) e c.loop-i.invariant.small;
      first = pass_all c.loop-i.i m.nv (λ (i : ℕ). force_fault_there g.K.Carry.settled (column i) (wrench i) i) e c.loop-i.invariant.passed;
    }
