use Rattle.mj_pgs.proofs.ShiftLaws.{small-moved}
use Rattle.mj_pgs.proofs.shift.moved_small.Goals as goal

pub returns : goal.returns
returns c = small-moved c.args.u.mid c.args.g.mid c.args.step.mid c.requires.u c.requires.g c.requires.step
