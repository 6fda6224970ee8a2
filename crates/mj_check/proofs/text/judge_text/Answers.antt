use Rattle.std.proofs.Common.{ap, Err}
use Rattle.mj_check.proofs.TextLaws.{judged-header, judged-behind}
use Rattle.mj_check.proofs.text.judge_text.Goals as goal

pub returns-in-Ok : goal.returns-in-Ok
returns-in-Ok c = judged-behind c.args.bytes.now c.new-scan.result.rest c.in-Ok.header c.find_header.new.scan.rest c.verdict_behind.result (ap (λ a. a.rest) c.new-scan.ensures) c.in-Ok.ensures.line c.verdict_behind.ensures

pub returns-in-Err : goal.returns-in-Err
returns-in-Err c = (Err c.in-Err.e, judged-header c.args.bytes.now c.new-scan.result.rest c.in-Err.e (ap (λ a. a.rest) c.new-scan.ensures) c.in-Err.ensures.line, c.verdict_of.ensures)
