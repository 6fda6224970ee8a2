use Rattle.std.proofs.Common.{ap, sym, ◌++◌, decimal}
use Rattle.mj_trace.proofs.Joining.{sent-as}
use Rattle.mj_trace.proofs.lines.send_label.Goals as goal

pub returns : goal.returns
returns g c = sent-as (ap (λ n. c.args.label.now ++ decimal n) (sym c.from.ensures)) c.send_sum.ensures
