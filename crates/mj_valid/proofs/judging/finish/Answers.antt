use Rattle.std.proofs.Common.{List, sym, subst}
use Rattle.mj_types.specs.declared.parts.Joint.{Joint}
use Rattle.mj_types.specs.Lawful.{AreTendons, AreMotors, AreEqualities, ArePositions, AreVelocities}
use Rattle.mj_valid.specs.Start.{Fix}
use Rattle.mj_valid.proofs.ModelLaws.{laid-out, few-qadr}
use Rattle.mj_valid.proofs.StartLaws.{are_positions, are_velocities, start-qpos, start-qvel}
use Rattle.mj_valid.proofs.judging.finish.Goals as goal

pub judge_start-requires : goal.judge_start-requires
judge_start-requires c = few-qadr _ _ (laid-out _ _ _ c.requires.parts c.requires.world c.requires.few_geoms c.in_ok-l.ensures)

pub first_positions-requires-clause-some : goal.first_positions-requires-clause-some
first_positions-requires-clause-some c = (laid-out _ _ _ c.requires.parts c.requires.world c.requires.few_geoms c.in_ok-l.ensures).joints_.not_world

pub first_positions-requires-clause-on_body : goal.first_positions-requires-clause-on_body
first_positions-requires-clause-on_body c = (laid-out _ _ _ c.requires.parts c.requires.world c.requires.few_geoms c.in_ok-l.ensures).joints_.on_body

pub first_positions-requires-clause-small : goal.first_positions-requires-clause-small
first_positions-requires-clause-small c = few-qadr _ _ (laid-out _ _ _ c.requires.parts c.requires.world c.requires.few_geoms c.in_ok-l.ensures)

pub invariant_of-result : goal.invariant_of-result
invariant_of-result c =
    let h = laid-out _ _ _ c.requires.parts c.requires.world c.requires.few_geoms c.in_ok-l.ensures in
    let T : List Joint → Type 0 = λ js. AreTendons js c.args.w.naming.tendons in
    let M : List Joint → Type 0 = λ js. AreMotors js c.args.w.naming.tendons c.args.w.naming.motors in
    let E : List Joint → Type 0 = λ js. AreEqualities js c.args.w.naming.equalities in
    let Q : List (Fix 32) → Type 0 = λ q. ArePositions c.in_ok-l.l.joints c.in_ok-l.l.nq q in
    let V : List (Fix 32) → Type 0 = λ v. AreVelocities c.in_ok-l.l.nv v in
    record {
      of_options = c.requires.options;
      of_bodies = h.bodies_;
      of_joints = h.joints_;
      of_dofs = h.dofs_;
      of_geoms = h.geoms_;
      of_tendons = subst T (sym h.same) c.requires.tendons;
      of_motors = subst M (sym h.same) c.requires.motors;
      of_equalities = subst E (sym h.same) c.requires.equalities;
      start = subst Q (sym c.in_ok-qpos0.ensures) (are_positions c.in_ok-l.l.bodies c.in_ok-l.l.joints c.in_ok-l.l.nq c.in_ok-l.l.nv h.bodies_ h.joints_ _ (start-qpos c.in_ok-l.l.joints c.in_ok-l.l.nq c.in_ok-l.l.nv c.args.w.keyframe _ c.in_ok-judge_start.ensures));
      start_velocities = subst V (sym c.in_ok-qvel0.ensures) (are_velocities c.in_ok-l.l.nv _ (start-qvel c.in_ok-l.l.joints c.in_ok-l.l.nq c.in_ok-l.l.nv c.args.w.keyframe _ c.in_ok-judge_start.ensures));
    }
