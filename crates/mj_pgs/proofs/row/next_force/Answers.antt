use Rattle.std.proofs.Common.{◌∙◌, sym, refl}
use Rattle.mj_optimum.specs.Sweep.{next_force}
use Rattle.mj_optimum.proofs.SweepLaws.{next_force_rests}
use Rattle.mj_types.specs.Duals.{bound}
use Rattle.mj_pgs.proofs.BoundLaws.{low_below_high}
use Rattle.mj_pgs.proofs.row.next_force.Goals as goal

pub returns-then-rests : goal.returns-then-rests
returns-then-rests c =
    let l = c.if-rests.ensures.low refl in
    rw l (c.widened.ensures ∙ sym (next_force_rests (bound c.args.high) c.args.by.now.d c.args.f.mid c.args.slope.raw (low_below_high c.args.f.mid (bound c.args.high) (rw l at c.requires.low) c.requires.high) (c.if-rests.ensures.slope refl)))

pub returns : goal.returns
unfolding next_force
returns c = rw (c.at_most.ensures, c.at_least.ensures, c.stepped.ensures) refl
