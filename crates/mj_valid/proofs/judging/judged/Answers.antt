use Rattle.mj_valid.proofs.SoundLaws.{sound}
use Rattle.mj_valid.proofs.judging.judged.Goals as goal

pub finish-requires : goal.finish-requires
finish-requires c = sound c.args.raw _ c.in_ok-w.ensures
