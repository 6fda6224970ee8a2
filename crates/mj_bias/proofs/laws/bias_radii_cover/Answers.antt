use Rattle.mj_bias.specs.Movement.{movement_of}
use Rattle.mj_bias.proofs.CoverLaws.{bias_is_covered}
use Rattle.mj_bias.proofs.laws.bias_radii_cover.Goals as goal

pub returns : goal.returns
returns c = λ model placing speed i. bias_is_covered (movement_of model placing speed) i
