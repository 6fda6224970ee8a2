use Rattle.std.proofs.Common.{◌≡◌, pos, option_map, rules}
use Rattle.mj_optimum.specs.Cost.{gradient}
use Rattle.mj_optimum.specs.Shortfall.{shortfall, room}
use Rattle.mj_types.specs.Duals.{wide_at, bound, bound_at}
use Rattle.mj_types.specs.Parts.{number_at}
use Rattle.mj_types.specs.Problems.{problem, forces}
use Rattle.mj_cert.proofs.SolvedLaws.{gradient-size}
use Rattle.mj_cert.proofs.fall.shortfall_of.Goals as goal

pub fall_within-requires-clause-g : goal.fall_within-requires-clause-g
fall_within-requires-clause-g c = rw c.requires.slope (gradient-size c.args.dual.now c.args.forces.now c.args.i c.requires.solved c.requires.row)

pub returns : goal.returns
unfolding shortfall
returns c =
    let d = c.args.dual.now in
    let x = c.args.forces.now in
    let i = c.args.i in
    let r : c.at-3.result.raw ≡ wide_at d.r i = search rules in
    let f : c.at-f.result.mid ≡ number_at x.f i = search rules in
    let low : bound c.at.result ≡ bound_at d.low i = search rules in
    let high : bound c.at-2.result ≡ bound_at d.high i = search rules in
    let g = c.requires.slope in
    let room_is : option_map pos c.room_of-room.result ≡ room (bound_at d.low i) (bound_at d.high i) (number_at x.f i) (gradient (problem d) (forces x) i) = rw (low, high, f, g) at c.room_of-room.ensures.value in
    rw (room_is, r, g) at c.fall_within.ensures
