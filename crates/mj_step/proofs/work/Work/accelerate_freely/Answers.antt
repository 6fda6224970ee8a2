use Rattle.std.proofs.Common.{◌≡◌, ℕ, ap, arith, List, ◌<◌, length, take, drop, ◌++◌, ◌∙◌}
use Rattle.std.proofs.lemmas.List.{take_at}
use Rattle.std.proofs.lemmas.Result.{err_from_is_err_and}
use Rattle.fx_whole.proofs.FirstLaws.{stop_first, pass_first}
use Rattle.mj_factor.proofs.ReadLaws.{factor_fault-reads, pivot-reads, lower-reads}
use Rattle.mj_types.specs.Control.{Control}
use Rattle.mj_types.specs.Parts.{number_at}
use Rattle.mj_step.specs.Steps.{mass_of, free_load, smooth, smooth_fault}
use Rattle.mj_step.specs.Workspace.{HasFactor}
use Rattle.mj_step.proofs.SolveLaws.{solved_fault-is, solved-is}
use Rattle.mj_step.proofs.work.Work.accelerate_freely.Goals as goal

pub returns-in_err-factor-clause-first : goal.returns-in_err-factor-clause-first
unfolding smooth_fault
returns-in_err-factor-clause-first c =
    let m = c.args.model.now in
    let r = err_from_is_err_and c.from_residual.result c.from_residual.ensures.1 in
    rw (r.1, r.2) (stop_first _ _ _ (c.in_err-factor.ensures.first ∙ factor_fault-reads m.nv _ (mass_of m c.args.state.now) c.requires.mass.values))

pub returns-in_err-solve-clause-first : goal.returns-in_err-solve-clause-first
unfolding smooth_fault
returns-in_err-solve-clause-first c =
    let m = c.args.model.now in
    let s = c.args.state.now in
    let same = c.requires.mass.values in
    let has : HasFactor m s c.factor.new.out = record {
      ranges = c.in_ok-factor.ensures.ranges;
      lowers = λ k i p q. c.in_ok-factor.ensures.lowers k i p q ∙ lower-reads m.nv _ (mass_of m s) same k i p (omega arith);
      pivots = λ k p. c.in_ok-factor.ensures.pivots k p ∙ pivot-reads m.nv _ (mass_of m s) same k p;
    } in
    let r = err_from_is_err_and c.from_residual-in_err-solve.result c.from_residual-in_err-solve.ensures.1 in
    rw (r.1, r.2)
    (pass_first _ _ _ (c.in_ok-factor.ensures.first ∙ factor_fault-reads m.nv _ (mass_of m s) same)
    (c.in_err-solve.ensures.first
    ∙ solved_fault-is m s c.factor.new.out has (free_load m s c.args.controls.now) _ (ap (λ xs. number_at xs) c.as_slice.ensures ∙ c.requires.load.value)))

pub returns-clause-first : goal.returns-clause-first
unfolding smooth_fault
returns-clause-first c =
    let m = c.args.model.now in
    let s = c.args.state.now in
    let same = c.requires.mass.values in
    let has : HasFactor m s c.factor.new.out = record {
      ranges = c.in_ok-factor.ensures.ranges;
      lowers = λ k i p q. c.in_ok-factor.ensures.lowers k i p q ∙ lower-reads m.nv _ (mass_of m s) same k i p (omega arith);
      pivots = λ k p. c.in_ok-factor.ensures.pivots k p ∙ pivot-reads m.nv _ (mass_of m s) same k p;
    } in
    pass_first _ _ _ (c.in_ok-factor.ensures.first ∙ factor_fault-reads m.nv _ (mass_of m s) same)
    (c.in_ok-solve.ensures.first
    ∙ solved_fault-is m s c.factor.new.out has (free_load m s c.args.controls.now) _ (ap (λ xs. number_at xs) c.as_slice.ensures ∙ c.requires.load.value))

pub returns-clause-factor : goal.returns-clause-factor
returns-clause-factor c =
    let m = c.args.model.now in
    let s = c.args.state.now in
    let same = c.requires.mass.values in
    record {
      ranges = c.in_ok-factor.ensures.ranges;
      lowers = λ k i p q. c.in_ok-factor.ensures.lowers k i p q ∙ lower-reads m.nv _ (mass_of m s) same k i p (omega arith);
      pivots = λ k p. c.in_ok-factor.ensures.pivots k p ∙ pivot-reads m.nv _ (mass_of m s) same k p;
    }

pub returns-clause-smooth : goal.returns-clause-smooth
unfolding smooth
returns-clause-smooth c =
    let m = c.args.model.now in
    let s = c.args.state.now in
    let same = c.requires.mass.values in
    let has : HasFactor m s c.factor.new.out = record {
      ranges = c.in_ok-factor.ensures.ranges;
      lowers = λ k i p q. c.in_ok-factor.ensures.lowers k i p q ∙ lower-reads m.nv _ (mass_of m s) same k i p (omega arith);
      pivots = λ k p. c.in_ok-factor.ensures.pivots k p ∙ pivot-reads m.nv _ (mass_of m s) same k p;
    } in
    let out : List Control = take c.args.self.now.smooth.len (c.solve.new.out ++ drop (length c.solve.new.out) c.args.self.now.smooth.items) in
    let whole : out ≡ c.solve.new.out = take_at c.solve.new.out _ c.args.self.now.smooth.len (c.solve.auto.out ∙ c.as_mut_slice.ensures.len) in
    let many : length c.solve.new.out ≡ m.nv = c.solve.auto.out ∙ ap (λ xs. length xs) c.as_mut_slice.ensures.value ∙ c.requires.made.smooth in
    record {
      value = solved-is m s c.factor.new.out has (free_load m s c.args.controls.now) _ (ap (λ xs. number_at xs) c.as_slice.ensures ∙ c.requires.load.value)
          out (ap (λ xs. length xs) whole ∙ many) (λ (i : ℕ) (h : i < m.nv). ap (λ xs. number_at xs i) whole ∙ c.in_ok-solve.ensures.value i h);
      small = λ i h. rw whole (c.in_ok-solve.ensures.small i h);
    }
