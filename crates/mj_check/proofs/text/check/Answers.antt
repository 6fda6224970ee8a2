use Rattle.std.proofs.Common.{arith}
use Rattle.std.proofs.lemmas.Result.{IfOk-weaker}
use Rattle.mj_check.specs.Verdict.{IsVerdict, VerdictHolds}
use Rattle.mj_check.proofs.TextLaws.{judged-small}
use Rattle.mj_check.proofs.VerdictLaws.{verdict-holds}
use Rattle.mj_check.proofs.text.check.Goals as goal

pub returns : goal.returns
returns c =
    let is = judged-small c.args.bytes.now c.judge_text.result (omega arith) c.judge_text.ensures in
    record {
      verdict = is;
      holds = IfOk-weaker c.judge_text.result (IsVerdict c.args.bytes.now) (VerdictHolds c.args.bytes.now) (verdict-holds c.args.bytes.now) is;
    }
