use Rattle.std.proofs.Common.{◌+◌, ◌^◌, ap, arith, ◌∙◌}
use Rattle.std.proofs.lemmas.Result.{err_from_is_err_and}
use Rattle.fx_whole.proofs.FirstLaws.{first_ext}
use Rattle.mj_types.specs.declared.range.Quantity.TheVariants as kind
use Rattle.mj_types.specs.Parts.{number_at}
use Rattle.mj_types.specs.Ranges.{limited}
use Rattle.mj_step.specs.Steps.{load, load_fault}
use Rattle.mj_step.proofs.PushLaws.{can_push, loads, load-whole}
use Rattle.mj_step.proofs.work.Work.push_constraints.Goals as goal

pub fill_load-requires-clause-can : goal.fill_load-requires-clause-can
fill_load-requires-clause-can c =
    let w = c.args.self.now in
    can_push c.args.model.now c.args.state.now c.args.controls.now w.rows w.dual c.requires.rows w.report.forces c.requires.in_range
    (omega (arith, c.requires.made.report.forces.f, c.requires.made.dual.place)) c.requires.forces.force c.requires.forces.small

pub returns-in_err-fill_load-clause-first : goal.returns-in_err-fill_load-clause-first
unfolding load_fault
returns-in_err-fill_load-clause-first c =
    let m = c.args.model.now in
    let s = c.args.state.now in
    let u = c.args.controls.now in
    let w = c.args.self.now in
    let r = err_from_is_err_and c.from_residual.result c.from_residual.ensures.1 in
    rw (r.1, r.2)
    (c.in_err-fill_load.ensures.first
    ∙ first_ext m.nv _ (λ i. limited kind.Load (i + 1) (2 ^ 54) (load m s u i))
    (λ i h. ap (limited kind.Load (i + 1) (2 ^ 54))
    (loads m s u w.rows w.dual c.requires.rows w.report.forces c.requires.forces.force _ (ap (λ xs. number_at xs) c.as_slice.ensures ∙ c.requires.load.value) i h)))

pub returns-clause-first : goal.returns-clause-first
unfolding load_fault
returns-clause-first c =
    let m = c.args.model.now in
    let s = c.args.state.now in
    let u = c.args.controls.now in
    let w = c.args.self.now in
    c.in_ok-fill_load.ensures.first
    ∙ first_ext m.nv _ (λ i. limited kind.Load (i + 1) (2 ^ 54) (load m s u i))
    (λ i h. ap (limited kind.Load (i + 1) (2 ^ 54))
    (loads m s u w.rows w.dual c.requires.rows w.report.forces c.requires.forces.force _ (ap (λ xs. number_at xs) c.as_slice.ensures ∙ c.requires.load.value) i h))

pub returns-clause-load : goal.returns-clause-load
returns-clause-load c =
    let m = c.args.model.now in
    let s = c.args.state.now in
    let u = c.args.controls.now in
    let w = c.args.self.now in
    record {
      value = load-whole m s u c.fill_load.new.load (omega (arith, c.fill_load.ensures.len, c.requires.made.load))
          (λ i h. c.in_ok-fill_load.ensures.value i h
          ∙ loads m s u w.rows w.dual c.requires.rows w.report.forces c.requires.forces.force _ (ap (λ xs. number_at xs) c.as_slice.ensures ∙ c.requires.load.value) i h);
      small = c.in_ok-fill_load.ensures.small;
    }

pub returns-in_err-fill_load-clause-can : goal.returns-in_err-fill_load-clause-can
returns-in_err-fill_load-clause-can c =
    let w = c.args.self.now in
    can_push c.args.model.now c.args.state.now c.args.controls.now w.rows w.dual c.requires.rows w.report.forces c.requires.in_range
    (omega (arith, c.requires.made.report.forces.f, c.requires.made.dual.place)) c.requires.forces.force c.requires.forces.small

pub returns-clause-can : goal.returns-clause-can
returns-clause-can c =
    let w = c.args.self.now in
    can_push c.args.model.now c.args.state.now c.args.controls.now w.rows w.dual c.requires.rows w.report.forces c.requires.in_range
    (omega (arith, c.requires.made.report.forces.f, c.requires.made.dual.place)) c.requires.forces.force c.requires.forces.small
