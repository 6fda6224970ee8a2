use Rattle.std.proofs.Common.{◌≡◌, ℕ, ap, List, ◌<◌, length, take, drop, ◌++◌, ◌∙◌}
use Rattle.std.proofs.lemmas.List.{take_at}
use Rattle.std.proofs.lemmas.Result.{err_from_is_err_and}
use Rattle.mj_types.specs.Control.{Control}
use Rattle.mj_types.specs.Parts.{number_at}
use Rattle.mj_step.specs.Steps.{load, acceleration}
use Rattle.mj_step.proofs.SolveLaws.{solved_fault-is, solved-is}
use Rattle.mj_step.proofs.work.Work.solve_load.Goals as goal

pub returns-in_err-solve-clause-first : goal.returns-in_err-solve-clause-first
returns-in_err-solve-clause-first c =
    let m = c.args.model.now in
    let s = c.args.state.now in
    let r = err_from_is_err_and c.from_residual.result c.from_residual.ensures.1 in
    rw (r.1, r.2)
    (c.in_err-solve.ensures.first
    ∙ solved_fault-is m s c.args.self.now.factor c.requires.factor (load m s c.args.controls.now) _ (ap (λ xs. number_at xs) c.as_slice.ensures ∙ c.requires.load.value))

pub returns-clause-first : goal.returns-clause-first
returns-clause-first c =
    let m = c.args.model.now in
    let s = c.args.state.now in
    c.in_ok-solve.ensures.first
    ∙ solved_fault-is m s c.args.self.now.factor c.requires.factor (load m s c.args.controls.now) _ (ap (λ xs. number_at xs) c.as_slice.ensures ∙ c.requires.load.value)

pub returns-clause-accel : goal.returns-clause-accel
unfolding acceleration
returns-clause-accel c =
    let m = c.args.model.now in
    let s = c.args.state.now in
    let out : List Control = take c.args.self.now.accel.len (c.solve.new.out ++ drop (length c.solve.new.out) c.args.self.now.accel.items) in
    let whole : out ≡ c.solve.new.out = take_at c.solve.new.out _ c.args.self.now.accel.len (c.solve.auto.out ∙ c.as_mut_slice.ensures.len) in
    let many : length c.solve.new.out ≡ m.nv = c.solve.auto.out ∙ ap (λ xs. length xs) c.as_mut_slice.ensures.value ∙ c.requires.made.accel in
    record {
      value = solved-is m s c.args.self.now.factor c.requires.factor (load m s c.args.controls.now) _ (ap (λ xs. number_at xs) c.as_slice.ensures ∙ c.requires.load.value)
          out (ap (λ xs. length xs) whole ∙ many) (λ (i : ℕ) (h : i < m.nv). ap (λ xs. number_at xs i) whole ∙ c.in_ok-solve.ensures.value i h);
      small = λ i h. rw whole (c.in_ok-solve.ensures.small i h);
    }
