use Rattle.std.proofs.Common.{◌≡◌, ◌<◌, ◌≤ℤ◌, ℕ, suc, pos}
use Rattle.mj_optimum.specs.Cost.{cost}
use Rattle.mj_optimum.specs.Stop.{sweeps_of}
use Rattle.mj_optimum.specs.Sweep.{iterate}
use Rattle.mj_optimum.specs.declared.stop.Stop.{Stop}
use Rattle.mj_optimum.proofs.SweepLaws.{sweep_lowers_cost}
use Rattle.mj_types.specs.Problems.{problem, forces, place}
use Rattle.mj_pgs.proofs.RunLaws.{costs-nothing, if_ok_each, if_ok_map, stop-is}
use Rattle.mj_pgs.proofs.SweepLaws.{holds_zero}
use Rattle.mj_pgs.proofs.solver.solve.Goals as goal

pub returns-clause-stop : goal.returns-clause-stop
returns-clause-stop c = stop-is (problem c.args.dual.now) (place c.args.dual.now) c.args.tolerance.mid c.args.iterations c.run.result c.run.ensures.answer

pub returns-clause-falls : goal.returns-clause-falls
returns-clause-falls c =
    let p = problem c.args.dual.now in
    if_ok_each c.run.result (λ (stop : Stop). (s : ℕ) → s < sweeps_of stop → cost p (iterate p (suc s)) (pos 1) ≤ℤ cost p (iterate p s) (pos 1)) (λ stop s h. sweep_lowers_cost p s (holds_zero c.args.dual.now c.requires.solvable))

pub returns-clause-cost : goal.returns-clause-cost
returns-clause-cost c =
    let p = problem c.args.dual.now in
    let f = forces c.run.new.out in
    if_ok_map c.run.result (λ (stop : Stop). f ≡ iterate p (sweeps_of stop)) (λ stop. cost p f (pos 1) ≤ℤ pos 0) (λ stop e. costs-nothing c.args.dual.now f (sweeps_of stop) c.requires.solvable e) c.run.ensures.forces
