use Rattle.std.proofs.Common.{rules}
use Rattle.mj_imp.proofs.ShareLaws.{between_both}
use Rattle.mj_imp.proofs.solimp.between.Goals as goal

pub returns-clause-between : goal.returns-clause-between
returns-clause-between c =
    between_both c.args.a.now.mid c.args.b.now.mid c.args.y.now.mid c.from_raw.result.mid c.requires.low c.requires.high (search rules)
