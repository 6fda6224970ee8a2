use Rattle.std.proofs.Common.{ℕ, ℤ, List, ap, sym, ◌∙◌, arith}
use Rattle.fx_whole.proofs.FirstLaws.{or_both}
use Rattle.mj_factor.specs.Factors.{factor_fault}
use Rattle.mj_types.specs.Control.{Control}
use Rattle.mj_types.specs.Parts.{number_at}
use Rattle.mj_step.specs.Steps.{mass_of, free_load, solved, solved_fault, smooth, smooth_fault, acceleration}
use Rattle.mj_step.proofs.PushLaws.{load-free}
use Rattle.mj_step.proofs.work.Work.accelerate.Goals as goal

pub returns-clause-first : goal.returns-clause-first
unfolding smooth_fault
returns-clause-first c =
    let m = c.args.model.now in
    let s = c.args.state.now in
    let u = c.args.controls.now in
    let w = c.args.self.now in
    sym
    (ap (λ (b : ℕ → ℤ). solved_fault m s b) (load-free m s u w.rows w.dual c.requires.rows (omega (arith, c.if-self-gt0.false)))
    ∙ (or_both (factor_fault m.nv (mass_of m s)) (solved_fault m s (free_load m s u)) c.requires.in_range).1)

pub returns-clause-accel : goal.returns-clause-accel
unfolding acceleration smooth
returns-clause-accel c =
    let m = c.args.model.now in
    let s = c.args.state.now in
    let u = c.args.controls.now in
    let w = c.args.self.now in
    let items = c.copy_from_slice.ensures.items ∙ c.as_slice.ensures.value in
    record {
      value =
          ap (λ (xs : List Control). number_at xs) items ∙ c.requires.smooth.value
          ∙ ap (λ (b : ℕ → ℤ). solved m s b) (sym (load-free m s u w.rows w.dual c.requires.rows (omega (arith, c.if-self-gt0.false))));
      small = λ i h. rw items (c.requires.smooth.small i h);
    }
