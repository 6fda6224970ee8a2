use Rattle.std.proofs.Common.{ℕ, arith}
use Rattle.std.proofs.lemmas.Result.{err_from_is_err_and}
use Rattle.fx_whole.proofs.FirstLaws.{stop_here, pass_more}
use Rattle.mj_types.specs.declared.range.Quantity.TheVariants as kind
use Rattle.mj_types.specs.Placed.{placing_of}
use Rattle.mj_types.specs.Ranges.{unless}
use Rattle.mj_rows.specs.Constraint.{is_near}
use Rattle.mj_rows.specs.Edges.{lever_of}
use Rattle.mj_rows.proofs.EdgeLaws.{slopes_more}
use Rattle.mj_rows.proofs.slopes.contact_slopes.Goals as goal

pub returns-in_err-out-clause-first : goal.returns-in_err-out-clause-first
returns-in_err-out-clause-first c =
    let m = c.args.model.now in
    let r = err_from_is_err_and c.from_residual.result c.from_residual.ensures.1 in
    rw (r.1, r.2)
    (stop_here c.loop-d.d m.nv (λ (d : ℕ). unless (is_near (lever_of m (placing_of c.args.frames.now) c.args.contact.now d)) kind.Jacobian c.args.number) _ (omega arith)
    c.loop-d.invariant.passed c.in_err-out.ensures.first)

pub loop-d-preserved : goal.loop-d-preserved
loop-d-preserved c =
    let m = c.args.model.now in
    record {
      slopes = slopes_more m (placing_of c.args.frames.now) c.args.contact.now c.loop-d.d c.loop-d.out c.in_ok-out.field-0 (omega (arith, m.of_joints.few)) c.loop-d.invariant.slopes c.in_ok-out.ensures.slope;
      passed = pass_more c.loop-d.d (λ (d : ℕ). unless (is_near (lever_of m (placing_of c.args.frames.now) c.args.contact.now d)) kind.Jacobian c.args.number) c.loop-d.invariant.passed c.in_ok-out.ensures.first;
    }
