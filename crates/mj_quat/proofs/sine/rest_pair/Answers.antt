use Rattle.std.proofs.Common.{rules}
use Rattle.mj_quat.proofs.SineLaws.{rest_sine-below, rest_cosine-below}
use Rattle.mj_quat.proofs.sine.rest_pair.Goals as goal

pub returns-then-rest-lt0-clause-sine : goal.returns-then-rest-lt0-clause-sine
returns-then-rest-lt0-clause-sine c =
    let e = rest_sine-below c.args.rest.now c.size_pair-pair.result.sine c.unsigned_abs.result (search rules) (search rules) c.size_pair-pair.ensures.sine in
    search rules

pub returns-then-rest-lt0-clause-cosine : goal.returns-then-rest-lt0-clause-cosine
returns-then-rest-lt0-clause-cosine c =
    let e = rest_cosine-below c.args.rest.now c.size_pair-pair.result.cosine c.unsigned_abs.result (search rules) (search rules) c.size_pair-pair.ensures.cosine in
    search rules
