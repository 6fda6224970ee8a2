use Rattle.std.proofs.Common.{◌^◌}
use Rattle.mj_quat.proofs.turning.advance.Goals as goal

pub turn-requires-clause-bound : goal.turn-requires-clause-bound
turn-requires-clause-bound c = c.vector_length-length.ensures.bound (2 ^ 44) c.rotation_vector-by.ensures.size
