-- The pose of a body is made from its parent's, joint by joint.
use Rattle.std.proofs.Common.{◌≡◌, ℕ, ◌+◌, ◌-◌, ◌<◌, ◌≤◌, length, refl, ap, ◌∙◌, arith, add-one}
use Rattle.fx_whole.proofs.TableLaws.{value-zero, value-next}
use Rattle.mj_types.specs.declared.model.Model.{Model}
use Rattle.mj_types.specs.declared.state.State.{State}
use Rattle.mj_types.specs.Parts.{body, number_at}
use Rattle.mj_kin.specs.Poses.{Pose, world, pose, after, moved, own_joint, body_pose, parent_pose, pose_after, before_joint, offset}

pub pose-zero : (m : Model) (s : State) → pose m s 0 ≡ world
unfolding pose
pose-zero m s = value-zero world (λ b earlier. body_pose m s b (earlier (body m.bodies b).parent))

pub pose-next : (m : Model) (s : State) (b : ℕ) → (body m.bodies b).parent ≤ b → pose m s (b + 1) ≡ body_pose m s b (parent_pose m s b)
unfolding pose
pose-next m s b h =
    value-next world (λ (b : ℕ) (earlier : ℕ → Pose). body_pose m s b (earlier (body m.bodies b).parent)) b
    (λ f g same. ap (body_pose m s b) (same (body m.bodies b).parent h))

pub after-zero : (m : Model) (s : State) (b : ℕ) (p : Pose) → after m s b p 0 ≡ p
unfolding after
after-zero m s b p = refl

pub after-more : (m : Model) (s : State) (b i : ℕ) (p : Pose) → after m s b p (i + 1) ≡ moved (own_joint m b i).kind (own_joint m b i) (number_at s.q) (after m s b p i)
unfolding after
after-more m s b i p = ap (λ (n : ℕ). after m s b p n) (add-one i)

-- joint i of a body finds the pose that the joints before it left
pub before-own : (m : Model) (s : State) (b i : ℕ) → b < length m.bodies → i < (body m.bodies b).jntnum → before_joint m s ((body m.bodies b).jntadr + i) ≡ pose_after m s b i
before-own m s b i h k =
    let on : (own_joint m b i).body - 1 ≡ b = omega (arith, m.of_joints.owned b i h k) in
    ap (λ (a : ℕ). pose_after m s a ((body m.bodies b).jntadr + i - (body m.bodies a).jntadr)) on
    ∙ ap (λ (n : ℕ). pose_after m s b n) (omega arith)

pub pose_after-more : (m : Model) (s : State) (b i : ℕ) → pose_after m s b (i + 1) ≡ moved (own_joint m b i).kind (own_joint m b i) (number_at s.q) (pose_after m s b i)
pose_after-more m s b i = after-more m s b i (offset (body m.bodies b) (parent_pose m s b))
