use Rattle.std.proofs.Common.{◌≡◌, ◌≢◌, ℕ, arith, refl}
use Rattle.std.proofs.lemmas.Result.{err_from_is_err_and}
use Rattle.mj_pgs.proofs.RunLaws.{IsRound, costs-nothing, forces-none, next-swept, run-none, run-more, run-without_rows, run-stops, run-refused, run-limit, solved-none}
use Rattle.mj_pgs.proofs.solver.run.Goals as goal

pub returns-then-dual-eq0-clause-answer : goal.returns-then-dual-eq0-clause-answer
returns-then-dual-eq0-clause-answer c = run-without_rows c.args.dual.now c.args.tolerance.mid c.args.iterations (omega arith)

pub returns-then-dual-eq0-clause-forces : goal.returns-then-dual-eq0-clause-forces
returns-then-dual-eq0-clause-forces c = forces-none c.args.dual.now c.start.new.out c.start.ensures.forces

pub returns-then-dual-eq0-clause-solved : goal.returns-then-dual-eq0-clause-solved
returns-then-dual-eq0-clause-solved c = solved-none c.args.dual.now c.start.new.out c.start.ensures.held c.start.ensures.forces

pub loop-s-init : goal.loop-s-init
loop-s-init c = run-none c.args.dual.now c.args.tolerance.mid c.args.out.now c.start.new.out c.start.ensures.places c.start.ensures.held c.start.ensures.forces

pub round-requires-clause-cost : goal.round-requires-clause-cost
round-requires-clause-cost c = costs-nothing c.args.dual.now _ c.loop-s.s c.requires.solvable c.loop-s.invariant.swept

pub returns-in_err-fall-clause-answer : goal.returns-in_err-fall-clause-answer
returns-in_err-fall-clause-answer c =
    let q = err_from_is_err_and c.from_residual.result c.from_residual.ensures.1 in
    let some : c.args.dual.now.m ≢ 0 = λ e. absurd (omega arith) in
    rw (q.1, q.2) (run-refused c.args.dual.now c.args.tolerance.mid c.args.out.now c.loop-s.out c.loop-s.s c.args.iterations c.in_err-fall.field-0.0 some c.loop-s-test.true c.loop-s.invariant c.in_err-fall.ensures.first)

pub returns-then-is_within-clause-answer : goal.returns-then-is_within-clause-answer
returns-then-is_within-clause-answer c =
    let some : c.args.dual.now.m ≢ 0 = λ e. absurd (omega arith) in
    let e = c.in_ok-fall.ensures in
    let r : IsRound c.args.dual.now c.args.tolerance.mid c.args.out.now c.loop-s.out c.round.new.out c.loop-s.s c.in_ok-fall.fall.raw = record { so = c.loop-s.invariant; swept = e.forces; none = e.first; falls = e.fall } in
    run-stops c.args.dual.now c.args.tolerance.mid c.args.out.now c.loop-s.out c.round.new.out c.loop-s.s c.args.iterations c.in_ok-fall.fall.raw some c.loop-s-test.true r (c.if-is_within.ensures.0 refl)

pub returns-then-is_within-clause-forces : goal.returns-then-is_within-clause-forces
returns-then-is_within-clause-forces c = next-swept c.args.dual.now c.args.tolerance.mid c.args.out.now c.loop-s.out c.round.new.out c.loop-s.s c.loop-s.invariant c.in_ok-fall.ensures.forces

pub loop-s-preserved : goal.loop-s-preserved
loop-s-preserved c =
    let e = c.in_ok-fall.ensures in
    let r : IsRound c.args.dual.now c.args.tolerance.mid c.args.out.now c.loop-s.out c.round.new.out c.loop-s.s c.in_ok-fall.fall.raw = record { so = c.loop-s.invariant; swept = e.forces; none = e.first; falls = e.fall } in
    run-more c.args.dual.now c.args.tolerance.mid c.args.out.now c.loop-s.out c.round.new.out c.loop-s.s c.in_ok-fall.fall.raw r e.places e.held e.solved c.if-is_within.ensures.1

pub returns-clause-answer : goal.returns-clause-answer
returns-clause-answer c =
    let some : c.args.dual.now.m ≢ 0 = λ e. absurd (omega arith) in
    let e : c.loop-s.s ≡ c.args.iterations = omega arith in
    run-limit c.args.dual.now c.args.tolerance.mid c.args.out.now c.loop-s.out c.loop-s.s c.args.iterations some e c.loop-s.invariant
