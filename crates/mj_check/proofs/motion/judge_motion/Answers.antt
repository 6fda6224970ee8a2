use Rattle.std.proofs.Common.{refl, inl, inr}
use Rattle.std.proofs.lemmas.Result.{err_from_is_err_and}
use Rattle.mj_types.specs.Duals.{wide_at}
use Rattle.mj_check.proofs.motion.judge_motion.Goals as goal

pub returns-in_err-find_list-clause-motion : goal.returns-in_err-find_list-clause-motion
returns-in_err-find_list-clause-motion c =
    let q = err_from_is_err_and c.from_residual-in_err-find_list.result c.from_residual-in_err-find_list.ensures.1 in
    rw (q.1, q.2) (inl (_, c.in_ok-find_step.ensures.line, inr (_, c.in_err-find_list.ensures.line, refl)))

pub returns-in_err-find_list-2-clause-motion : goal.returns-in_err-find_list-2-clause-motion
returns-in_err-find_list-2-clause-motion c =
    let q = err_from_is_err_and c.from_residual-in_err-find_list-2.result c.from_residual-in_err-find_list-2.ensures.1 in
    rw (q.1, q.2) (inl (_, c.in_ok-find_step.ensures.line, inl ((wide_at c.find_list.new.numbers, c.find_list.new.scan.rest), c.in_ok-find_list.ensures.line, inr (_, c.in_err-find_list-2.ensures.line, refl))))

pub returns-in_err-find_list-3-clause-motion : goal.returns-in_err-find_list-3-clause-motion
returns-in_err-find_list-3-clause-motion c =
    let q = err_from_is_err_and c.from_residual-in_err-find_list-3.result c.from_residual-in_err-find_list-3.ensures.1 in
    rw (q.1, q.2) (inl (_, c.in_ok-find_step.ensures.line, inl ((wide_at c.find_list.new.numbers, c.find_list.new.scan.rest), c.in_ok-find_list.ensures.line, inl ((wide_at c.find_list-2.new.numbers, c.find_list-2.new.scan.rest), c.in_ok-find_list-2.ensures.line, inr (_, c.in_err-find_list-3.ensures.line, refl)))))

pub returns-in_err-find_residual-clause-motion : goal.returns-in_err-find_residual-clause-motion
returns-in_err-find_residual-clause-motion c =
    let q = err_from_is_err_and c.from_residual-in_err-find_residual.result c.from_residual-in_err-find_residual.ensures.1 in
    rw (q.1, q.2) (inl (_, c.in_ok-find_step.ensures.line, inl ((wide_at c.find_list.new.numbers, c.find_list.new.scan.rest), c.in_ok-find_list.ensures.line, inl ((wide_at c.find_list-2.new.numbers, c.find_list-2.new.scan.rest), c.in_ok-find_list-2.ensures.line, inl ((wide_at c.find_list-3.new.numbers, c.find_list-3.new.scan.rest), c.in_ok-find_list-3.ensures.line, inr (_, c.in_err-find_residual.ensures.line, refl))))))

pub returns-in_err-find_radii-clause-motion : goal.returns-in_err-find_radii-clause-motion
returns-in_err-find_radii-clause-motion c =
    let q = err_from_is_err_and c.from_residual-in_err-find_radii.result c.from_residual-in_err-find_radii.ensures.1 in
    rw (q.1, q.2) (inl (_, c.in_ok-find_step.ensures.line, inl ((wide_at c.find_list.new.numbers, c.find_list.new.scan.rest), c.in_ok-find_list.ensures.line, inl ((wide_at c.find_list-2.new.numbers, c.find_list-2.new.scan.rest), c.in_ok-find_list-2.ensures.line, inl ((wide_at c.find_list-3.new.numbers, c.find_list-3.new.scan.rest), c.in_ok-find_list-3.ensures.line, inl (_, c.in_ok-find_residual.ensures.line, inr (_, c.in_err-find_radii.ensures.line, refl)))))))

pub returns-clause-motion : goal.returns-clause-motion
returns-clause-motion c = inl (_, c.in_ok-find_step.ensures.line, inl ((wide_at c.find_list.new.numbers, c.find_list.new.scan.rest), c.in_ok-find_list.ensures.line, inl ((wide_at c.find_list-2.new.numbers, c.find_list-2.new.scan.rest), c.in_ok-find_list-2.ensures.line, inl ((wide_at c.find_list-3.new.numbers, c.find_list-3.new.scan.rest), c.in_ok-find_list-3.ensures.line, inl (_, c.in_ok-find_residual.ensures.line, inl (_, c.in_ok-find_radii.ensures.line, refl))))))
