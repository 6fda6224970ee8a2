use Rattle.std.proofs.Common.{Some, None}
use Rattle.std.proofs.lemmas.Result.{err_from_is_err_and}
use Rattle.mj_force.proofs.EnclosureLaws.{AreLeft, bound-is, cost-is, enclosed, fault-first, fault-then, force-is, high-is, low-is, stop-is}
use Rattle.mj_force.proofs.OwnLaws.{own-holds_zero, own-regular}
use Rattle.mj_types.specs.StepValues.{dual_values}
use Rattle.mj_force.proofs.solving.enclose.Goals as goal

-- the solver refuses; it doesn't, and the certificate refuses; neither does
pub returns-in_err-stop-clause-first : goal.returns-in_err-stop-clause-first
returns-in_err-stop-clause-first c =
    let q = err_from_is_err_and c.from_residual.result c.from_residual.ensures.1 in
    rw (q.1, q.2) (fault-first c.args.dual.now c.args.tolerance.mid c.args.iterations c.in_err-stop.field-0.0 c.in_err-stop.ensures.answer)

pub returns-in_err-certify-clause-first : goal.returns-in_err-certify-clause-first
returns-in_err-certify-clause-first c =
    let left : AreLeft c.args.dual.now c.args.tolerance.mid c.args.iterations c.solve.new.out c.in_ok-stop.stop = record { answers = c.in_ok-stop.ensures.answer; stops = c.in_ok-stop.ensures.stop; swept = c.in_ok-stop.ensures.forces } in
    let q = err_from_is_err_and c.from_residual-in_err-certify.result c.from_residual-in_err-certify.ensures.1 in
    rw (q.1, q.2) (fault-then c.args.dual.now c.args.tolerance.mid c.args.iterations c.solve.new.out c.in_ok-stop.stop (Some c.in_err-certify.field-0.0) left c.in_err-certify.ensures.first)

pub returns-clause-first : goal.returns-clause-first
returns-clause-first c =
    let left : AreLeft c.args.dual.now c.args.tolerance.mid c.args.iterations c.solve.new.out c.in_ok-stop.stop = record { answers = c.in_ok-stop.ensures.answer; stops = c.in_ok-stop.ensures.stop; swept = c.in_ok-stop.ensures.forces } in
    fault-then c.args.dual.now c.args.tolerance.mid c.args.iterations c.solve.new.out c.in_ok-stop.stop None left c.in_ok-certify.ensures.first

-- the numbers
pub returns-clause-stop : goal.returns-clause-stop
returns-clause-stop c = stop-is c.args.dual.now c.args.tolerance.mid c.args.iterations c.in_ok-stop.stop c.in_ok-stop.ensures.stop

pub returns-clause-forces : goal.returns-clause-forces
returns-clause-forces c =
    let left : AreLeft c.args.dual.now c.args.tolerance.mid c.args.iterations c.solve.new.out c.in_ok-stop.stop = record { answers = c.in_ok-stop.ensures.answer; stops = c.in_ok-stop.ensures.stop; swept = c.in_ok-stop.ensures.forces } in
    force-is c.args.dual.now c.args.tolerance.mid c.args.iterations c.solve.new.out c.in_ok-stop.stop left

pub returns-clause-cost : goal.returns-clause-cost
returns-clause-cost c =
    let left : AreLeft c.args.dual.now c.args.tolerance.mid c.args.iterations c.solve.new.out c.in_ok-stop.stop = record { answers = c.in_ok-stop.ensures.answer; stops = c.in_ok-stop.ensures.stop; swept = c.in_ok-stop.ensures.forces } in
    cost-is c.args.dual.now c.args.tolerance.mid c.args.iterations c.solve.new.out c.in_ok-stop.stop c.certify.new.out left c.in_ok-certify.ensures.numbers

pub returns-clause-bound : goal.returns-clause-bound
returns-clause-bound c =
    let left : AreLeft c.args.dual.now c.args.tolerance.mid c.args.iterations c.solve.new.out c.in_ok-stop.stop = record { answers = c.in_ok-stop.ensures.answer; stops = c.in_ok-stop.ensures.stop; swept = c.in_ok-stop.ensures.forces } in
    bound-is c.args.dual.now c.args.tolerance.mid c.args.iterations c.solve.new.out c.in_ok-stop.stop c.certify.new.out left c.in_ok-certify.ensures.numbers

pub returns-clause-low : goal.returns-clause-low
returns-clause-low c =
    let left : AreLeft c.args.dual.now c.args.tolerance.mid c.args.iterations c.solve.new.out c.in_ok-stop.stop = record { answers = c.in_ok-stop.ensures.answer; stops = c.in_ok-stop.ensures.stop; swept = c.in_ok-stop.ensures.forces } in
    low-is c.args.dual.now c.args.tolerance.mid c.args.iterations c.solve.new.out c.in_ok-stop.stop c.certify.new.out left c.in_ok-certify.ensures.numbers

pub returns-clause-high : goal.returns-clause-high
returns-clause-high c =
    let left : AreLeft c.args.dual.now c.args.tolerance.mid c.args.iterations c.solve.new.out c.in_ok-stop.stop = record { answers = c.in_ok-stop.ensures.answer; stops = c.in_ok-stop.ensures.stop; swept = c.in_ok-stop.ensures.forces } in
    high-is c.args.dual.now c.args.tolerance.mid c.args.iterations c.solve.new.out c.in_ok-stop.stop c.certify.new.out left c.in_ok-certify.ensures.numbers

pub returns-clause-enclosed : goal.returns-clause-enclosed
returns-clause-enclosed c = enclosed (dual_values c.args.dual.now).problem c.args.tolerance.mid c.args.iterations (own-regular c.args.dual.now) (own-holds_zero c.args.dual.now c.requires.solvable)
