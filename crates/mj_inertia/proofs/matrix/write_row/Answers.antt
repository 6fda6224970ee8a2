use Rattle.std.proofs.Common.{◌≡◌, ℕ, ◌+◌, Option, None, arith, sym, subst}
use Rattle.std.proofs.lemmas.Result.{err_from_is_err_and}
use Rattle.fx_whole.specs.First.{first_to}
use Rattle.fx_whole.proofs.FirstLaws.{stop_here, pass_more}
use Rattle.fx_vec.specs.Views.{spatial, spatial_radii}
use Rattle.mj_types.specs.Placed.{spatial_at}
use Rattle.mj_types.specs.declared.range.OutOfRange.{OutOfRange}
use Rattle.mj_inertia.specs.MassEntries.{entry_fault}
use Rattle.mj_inertia.specs.Written.{WritesTo, near_entry}
use Rattle.mj_inertia.proofs.WritingLaws.{writes_more}
use Rattle.mj_inertia.proofs.matrix.write_row.Goals as goal

pub loop-i-preserved : goal.loop-i-preserved
loop-i-preserved c =
    let m = c.args.model.now in
    let column = spatial_at c.args.column.now in
    let h = spatial c.args.momentum.now in
    let r = spatial_radii (λ (n : ℕ). n) c.args.momentum.now in
    record {
      room = record { m_ = c.put_both.ensures.room };
      writes = writes_more m.nv c.args.j c.loop-i.i (λ (i : ℕ). near_entry m (column i) h r i c.args.j) c.in_ok-x.x c.args.out.now.m c.loop-i.out.m c.put_both.new.out
          c.loop-i.invariant.writes c.in_ok-x.ensures.value c.put_both.ensures.writes;
      passed = pass_more c.loop-i.i (entry_fault m column h c.args.j) c.loop-i.invariant.passed c.in_ok-x.ensures.first;
    }

pub returns-in_err-x-clause-first : goal.returns-in_err-x-clause-first
returns-in_err-x-clause-first c =
    let r = err_from_is_err_and c.from_residual.result c.from_residual.ensures.1 in
    rw (r.1, r.2)
    (stop_here c.loop-i.i (c.args.j + 1) (entry_fault c.args.model.now (spatial_at c.args.column.now) (spatial c.args.momentum.now) c.args.j) _ (omega arith) c.loop-i.invariant.passed
    c.in_err-x.ensures.first)

-- no fault before the last row of the column
passed_all : (f : ℕ → Option OutOfRange) (j i : ℕ) → j ≡ i → first_to i f ≡ None → first_to j f ≡ None
passed_all f j i e h = subst (λ (n : ℕ). first_to n f ≡ None) (sym e) h

pub returns-in_err-own-clause-first : goal.returns-in_err-own-clause-first
returns-in_err-own-clause-first c =
    let whole : c.args.j ≡ c.loop-i.i = omega arith in
    let f = entry_fault c.args.model.now (spatial_at c.args.column.now) (spatial c.args.momentum.now) c.args.j in
    let r = err_from_is_err_and c.from_residual-in_err-own.result c.from_residual-in_err-own.ensures.1 in
    rw (r.1, r.2)
    (stop_here c.args.j (c.args.j + 1) f _ (omega arith) (passed_all f c.args.j c.loop-i.i whole c.loop-i.invariant.passed) c.in_err-own.ensures.first)

pub returns-clause-writes : goal.returns-clause-writes
returns-clause-writes c =
    let whole : c.args.j ≡ c.loop-i.i = omega arith in
    let m = c.args.model.now in
    let column = spatial_at c.args.column.now in
    let h = spatial c.args.momentum.now in
    let r = spatial_radii (λ (n : ℕ). n) c.args.momentum.now in
    let f = λ (i : ℕ). near_entry m (column i) h r i c.args.j in
    writes_more m.nv c.args.j c.args.j f c.in_ok-own.own c.args.out.now.m c.loop-i.out.m c.put_both-2.new.out
    (subst (λ (n : ℕ). WritesTo m.nv c.args.j n f c.args.out.now.m c.loop-i.out.m) (sym whole) c.loop-i.invariant.writes)
    c.in_ok-own.ensures.value c.put_both-2.ensures.writes

pub returns-clause-first : goal.returns-clause-first
returns-clause-first c =
    let whole : c.args.j ≡ c.loop-i.i = omega arith in
    let f = entry_fault c.args.model.now (spatial_at c.args.column.now) (spatial c.args.momentum.now) c.args.j in
    sym (pass_more c.args.j f (passed_all f c.args.j c.loop-i.i whole c.loop-i.invariant.passed) c.in_ok-own.ensures.first)
