use Rattle.std.proofs.Common.{ap, sym, length}
use Rattle.mj_types.specs.Parts.{number_at}
use Rattle.mj_trace.specs.Lines.{line, numbers_text}
use Rattle.mj_trace.proofs.Joining.{sent-as}
use Rattle.mj_trace.proofs.lines.send_list_line.Goals as goal

pub returns : goal.returns
returns g c = sent-as (ap (λ xs. line c.args.label.now (numbers_text (length xs) (number_at xs))) (sym c.as_slice.ensures)) c.send_numbers_line.ensures
