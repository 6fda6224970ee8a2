use Rattle.std.proofs.Common.{◌≡◌, ℕ, arith, sym, ◌∙◌, subst, None}
use Rattle.std.proofs.lemmas.Result.{err_from_is_err_and}
use Rattle.fx_whole.specs.First.{first_to}
use Rattle.fx_whole.proofs.FirstLaws.{stop_here, pass_more}
use Rattle.mj_types.specs.Placed.{spatial_at}
use Rattle.mj_inertia.specs.MassEntries.{dof_fault}
use Rattle.mj_inertia.specs.Written.{HasEntries, near_from, joint_momentum}
use Rattle.mj_inertia.proofs.WritingLaws.{entries_more}
use Rattle.mj_inertia.proofs.MassLaws.{faults-are, masses-are, mass_radii-are, covered, is_mass, radii-within}
use Rattle.mj_inertia.proofs.matrix.mass_matrix.Goals as goal

pub loop-j-preserved : goal.loop-j-preserved
loop-j-preserved c =
    let m = c.args.model.now in
    let column = spatial_at c.args.column.now in
    let sums = joint_momentum m column c.args.composite.now in
    record {
      room = c.write_dof.ensures.room;
      entries = entries_more m.nv c.loop-j.j (near_from m column sums) c.loop-j.out.m c.write_dof.new.out.m c.loop-j.invariant.entries c.in_ok-write_dof.ensures.writes;
      passed = pass_more c.loop-j.j (dof_fault m column sums) c.loop-j.invariant.passed c.in_ok-write_dof.ensures.first;
    }

pub returns-in_err-write_dof-clause-first : goal.returns-in_err-write_dof-clause-first
returns-in_err-write_dof-clause-first c inertia is =
    let m = c.args.model.now in
    let column = spatial_at c.args.column.now in
    let r = err_from_is_err_and c.from_residual.result c.from_residual.ensures.1 in
    rw (r.1, r.2)
    (stop_here c.loop-j.j m.nv (dof_fault m column (joint_momentum m column c.args.composite.now)) _ (omega arith) c.loop-j.invariant.passed c.in_err-write_dof.ensures.first
    ∙ faults-are m column inertia c.args.composite.now is)

whole : (c : goal.After-loop-j) → (c.args.model.now.nv ≡ c.loop-j.j)
whole c = omega arith

passed : (c : goal.After-loop-j) → first_to c.args.model.now.nv (dof_fault c.args.model.now (spatial_at c.args.column.now) (joint_momentum c.args.model.now (spatial_at c.args.column.now) c.args.composite.now)) ≡ None
passed c =
    subst (λ (n : ℕ). first_to n (dof_fault c.args.model.now (spatial_at c.args.column.now) (joint_momentum c.args.model.now (spatial_at c.args.column.now) c.args.composite.now)) ≡ None)
    (sym (whole c)) c.loop-j.invariant.passed

entries : (c : goal.After-loop-j)
    → HasEntries c.args.model.now.nv c.args.model.now.nv (near_from c.args.model.now (spatial_at c.args.column.now) (joint_momentum c.args.model.now (spatial_at c.args.column.now) c.args.composite.now)) c.loop-j.out.m
entries c =
    subst (λ (n : ℕ). HasEntries c.args.model.now.nv n (near_from c.args.model.now (spatial_at c.args.column.now) (joint_momentum c.args.model.now (spatial_at c.args.column.now) c.args.composite.now)) c.loop-j.out.m)
    (sym (whole c)) c.loop-j.invariant.entries

pub returns-clause-first : goal.returns-clause-first
returns-clause-first c inertia is = sym (passed c) ∙ faults-are c.args.model.now (spatial_at c.args.column.now) inertia c.args.composite.now is

pub returns-clause-values : goal.returns-clause-values
returns-clause-values c inertia is = masses-are c.args.model.now (spatial_at c.args.column.now) inertia c.args.composite.now c.loop-j.out.m is (entries c)

pub returns-clause-radii : goal.returns-clause-radii
returns-clause-radii c inertia is = mass_radii-are c.args.model.now (spatial_at c.args.column.now) inertia c.args.composite.now c.loop-j.out.m is (entries c)

pub returns-clause-covers : goal.returns-clause-covers
returns-clause-covers c inertia is = covered c.args.model.now (spatial_at c.args.column.now) inertia c.args.composite.now c.loop-j.out.m is (entries c)

pub returns-clause-ranges : goal.returns-clause-ranges
returns-clause-ranges c =
    is_mass c.args.model.now (spatial_at c.args.column.now) (joint_momentum c.args.model.now (spatial_at c.args.column.now) c.args.composite.now) c.loop-j.out c.loop-j.invariant.room (entries c) (passed c)

pub returns-clause-small_radii : goal.returns-clause-small_radii
returns-clause-small_radii c =
    radii-within c.args.model.now (spatial_at c.args.column.now) (joint_momentum c.args.model.now (spatial_at c.args.column.now) c.args.composite.now) c.loop-j.out.m (entries c) c.requires.columns.small
