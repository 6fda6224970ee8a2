use Rattle.std.proofs.Common.{pos, rules}
use Rattle.std.proofs.lemmas.Result.{err_from_is_err_and}
use Rattle.fx_whole.proofs.EntryLaws.{put-more}
use Rattle.fx_whole.proofs.FirstLaws.{stop_here, pass_more}
use Rattle.mj_optimum.specs.Box.{lo, hi}
use Rattle.mj_types.specs.Parts.{plain}
use Rattle.mj_types.specs.Problems.{problem, forces}
use Rattle.mj_cert.specs.Certificate.{box_out}
use Rattle.mj_cert.proofs.ends.fill_box.Goals as goal

pub returns-in_err-ends-clause-first : goal.returns-in_err-ends-clause-first
returns-in_err-ends-clause-first c =
    let q = err_from_is_err_and c.from_residual.result c.from_residual.ensures.1 in
    rw (q.1, q.2) (stop_here c.loop-i.i c.args.dual.now.m (box_out c.args.dual.now c.args.forces.now) c.in_err-ends.field-0.0 c.loop-i-test.true c.loop-i.invariant.passed c.in_err-ends.ensures.first)

pub loop-i-preserved : goal.loop-i-preserved
loop-i-preserved c =
    let d = c.args.dual.now in
    let x = c.args.forces.now in
    let so_far = c.loop-i.invariant in
    record {
      low_len = search rules;
      high_len = search rules;
      passed = pass_more c.loop-i.i (box_out d x) so_far.passed c.in_ok-ends.ensures.first;
      lows = put-more (λ n. n.mid) (plain (pos 0)) (lo (problem d) (forces x)) c.loop-i.lo c.put.new.self c.loop-i.i c.in_ok-ends.ends.low (c.put.ensures.same (plain (pos 0))) (c.put.ensures.others (plain (pos 0))) c.in_ok-ends.ensures.low so_far.lows;
      highs = put-more (λ n. n.mid) (plain (pos 0)) (hi (problem d) (forces x)) c.loop-i.hi c.put-in-loop-i.new.self c.loop-i.i c.in_ok-ends.ends.high (c.put-in-loop-i.ensures.same (plain (pos 0))) (c.put-in-loop-i.ensures.others (plain (pos 0))) c.in_ok-ends.ensures.high so_far.highs;
    }
