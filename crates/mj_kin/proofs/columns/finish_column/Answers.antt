use Rattle.std.proofs.Common.{◌≡◌, ℕ, ℤ, ◌-◌, ◌<◌, List, ap, sym, ◌∙◌, arith}
use Rattle.std.proofs.lemmas.Result.{err_from_is_err_and}
use Rattle.fx_vec.specs.Vectors.{Triple}
use Rattle.fx_vec.specs.Spatial.{Spatial}
use Rattle.fx_vec.specs.Views.{mids, spatial}
use Rattle.fx_vec.specs.declared.vector.Vector6.{Vector6}
use Rattle.mj_types.specs.declared.model.Model.{Model}
use Rattle.mj_types.specs.declared.state.State.{State}
use Rattle.mj_types.specs.declared.parts.Joint.{Joint}
use Rattle.mj_types.specs.Parts.{no_joint, no_motion, joint, dof}
use Rattle.mj_types.specs.Placed.{spatial_at}
use Rattle.mj_kin.specs.Columns.{column, column_at, column_fault, dof_arm}
use Rattle.mj_kin.specs.Working.{AreColumns}
use Rattle.mj_kin.proofs.PlaceLaws.{columns_more}
use Rattle.mj_kin.proofs.columns.finish_column.Goals as goal

-- the column that is made is the dof's
is_column : (m : Model) (s : State) (d : ℕ) (jt : Joint) (arm : Triple ℤ) (v : Vector6 (Unit {0}) 32) (cs : List (Vector6 (Unit {0}) 32)) (r : Spatial ℤ)
    → r ≡ column_at jt.kind arm (spatial v) → joint m.joints ((dof m.dofs d).joint - 1) ≡ jt → arm ≡ dof_arm m s d → spatial_at cs d ≡ spatial v
    → AreColumns m s cs d → d < m.nv → r ≡ column m s d
is_column m s d jt arm v cs r e f g h old l =
    e ∙ ap (λ (j : Joint). column_at j.kind arm (spatial v)) (sym f)
    ∙ ap (λ (a : Triple ℤ). column_at (joint m.joints ((dof m.dofs d).joint - 1)).kind a (spatial v)) g
    ∙ ap (λ (a : Spatial ℤ). column_at (joint m.joints ((dof m.dofs d).joint - 1)).kind (dof_arm m s d) a) (sym h ∙ old.directed d (omega arith) l)

pub returns-in_err-judge_column-clause-first : goal.returns-in_err-judge_column-clause-first
returns-in_err-judge_column-clause-first c =
    let m = c.args.model.now in
    let p = err_from_is_err_and c.from_residual.result c.from_residual.ensures.1 in
    rw (p.1, p.2)
    (c.in_err-judge_column.ensures.first
    ∙ ap (λ (x : Spatial ℤ). column_fault c.args.d x)
    (is_column m c.args.state.now c.args.d c.entry-joint.result.now (mids c.arm_of-arm.result) c.entry.result.now c.args.columns.now (spatial c.column_at-column.result)
    c.column_at-column.ensures (ap (joint m.joints) (sym c.joint_of.ensures.value) ∙ c.entry-joint.ensures no_joint) c.arm_of-arm.ensures.value (ap (λ (v : Vector6 (Unit {0}) 32). spatial v) (c.entry.ensures no_motion)) c.requires.columns c.requires.dof))

pub returns-clause-first : goal.returns-clause-first
returns-clause-first c =
    let m = c.args.model.now in
    c.in_ok-judge_column.ensures.first
    ∙ ap (λ (x : Spatial ℤ). column_fault c.args.d x)
    (is_column m c.args.state.now c.args.d c.entry-joint.result.now (mids c.arm_of-arm.result) c.entry.result.now c.args.columns.now (spatial c.column_at-column.result)
    c.column_at-column.ensures (ap (joint m.joints) (sym c.joint_of.ensures.value) ∙ c.entry-joint.ensures no_joint) c.arm_of-arm.ensures.value (ap (λ (v : Vector6 (Unit {0}) 32). spatial v) (c.entry.ensures no_motion)) c.requires.columns c.requires.dof)

pub returns-clause-columns : goal.returns-clause-columns
returns-clause-columns c =
    let m = c.args.model.now in
    columns_more m c.args.state.now c.args.d (spatial c.column_at-column.result) c.args.columns.now c.put.new.self
    (ap (λ (v : Vector6 (Unit {0}) 32). spatial v) (c.put.ensures.same no_motion)) (λ k n. ap (λ (v : Vector6 (Unit {0}) 32). spatial v) (c.put.ensures.others no_motion k n))
    (is_column m c.args.state.now c.args.d c.entry-joint.result.now (mids c.arm_of-arm.result) c.entry.result.now c.args.columns.now (spatial c.column_at-column.result)
    c.column_at-column.ensures (ap (joint m.joints) (sym c.joint_of.ensures.value) ∙ c.entry-joint.ensures no_joint) c.arm_of-arm.ensures.value (ap (λ (v : Vector6 (Unit {0}) 32). spatial v) (c.entry.ensures no_motion)) c.requires.columns c.requires.dof)
    c.in_ok-judge_column.ensures.within c.requires.columns
