use Rattle.mj_trace.proofs.Joining.{sent-as}
use Rattle.mj_trace.specs.Block.{stop_text}
use Rattle.std.proofs.Common.{ap}
use Rattle.mj_trace.proofs.blocks.send_stop.Goals as goal

pub returns-in-Tolerance : goal.returns-in-Tolerance
returns-in-Tolerance g c = sent-as (ap stop_text c.in-Tolerance.is) c.send_label_line.ensures
