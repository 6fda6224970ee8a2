use Rattle.std.proofs.Common.{rules}
use Rattle.mj_cert.proofs.CurveLaws.{seen_past, seen_before}
use Rattle.mj_cert.proofs.curve.Curve.has_risen.Goals as goal

pub returns-then-slope-ge0 : goal.returns-then-slope-ge0
returns-then-slope-ge0 c =
    let s = c.args.self.now in
    seen_past s.g s.r s.height _ c.args.k c.reaches.result s.regular (search rules) (search rules) c.reaches.ensures

pub returns-else-slope-ge0 : goal.returns-else-slope-ge0
returns-else-slope-ge0 c =
    let s = c.args.self.now in
    seen_before s.g s.r s.height c.args.k _ s.regular (search rules) (search rules)
