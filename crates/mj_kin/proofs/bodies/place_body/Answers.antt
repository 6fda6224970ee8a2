use Rattle.std.proofs.Common.{◌≡◌, ℤ, ◌+◌, None, ap, ◌∙◌}
use Rattle.std.proofs.lemmas.Result.{err_from_is_err_and}
use Rattle.fx_whole.proofs.FirstLaws.{pass_first}
use Rattle.fx_vec.specs.Vectors.{Triple, minus}
use Rattle.fx_vec.specs.Views.{mids, inertia}
use Rattle.mj_types.specs.declared.parts.Body.{Body}
use Rattle.mj_types.specs.Parts.{body}
use Rattle.mj_kin.specs.Poses.{Pose, pose, pose_fault, carried}
use Rattle.mj_kin.specs.Bodies.{standing_fault, reference, inertia_of}
use Rattle.mj_kin.specs.Working.{pose_of}
use Rattle.mj_kin.proofs.PlaceLaws.{point-is, placed_more}
use Rattle.mj_kin.proofs.bodies.place_body.Goals as goal

-- the same body, pose and point
same : {A : Type 0} → (f : Body → Pose → Triple ℤ → A) (x y : Body) (p q : Pose) (r t : Triple ℤ) → x ≡ y → p ≡ q → r ≡ t → f x p r ≡ f y q t
same f x y p q r t e g h = ap (λ (z : Body). f z p r) e ∙ ap (λ (z : Pose). f y z r) g ∙ ap (λ (z : Triple ℤ). f y q z) h

pub returns-in_err-standing-clause-first : goal.returns-in_err-standing-clause-first
returns-in_err-standing-clause-first c =
    let m = c.args.model.now in
    let s = c.args.state.now in
    let b = c.args.b in
    let p = pose_of c.in_ok-frame.frame in
    let e = err_from_is_err_and c.from_residual-in_err-standing.result c.from_residual-in_err-standing.ensures.1 in
    let point = c.reference-point.ensures ∙ point-is m s b p c.pose_body.new.out.pos c.pose_body.new.out.quat c.requires.body c.in_ok-frame.ensures.posed c.in_ok-frame.ensures.pose in
    rw (e.1, e.2)
    (pass_first (pose_fault m s b) (standing_fault (b + 1) (body m.bodies b) (pose m s (b + 1)) (reference m s b)) _ c.in_ok-frame.ensures.first
    (c.in_err-standing.ensures.first
    ∙ same (standing_fault (b + 1)) c.body_at.result.now (body m.bodies b) p (pose m s (b + 1)) (mids c.reference-point.result) (reference m s b) c.body_at.ensures.value c.in_ok-frame.ensures.pose point))

pub returns-clause-first : goal.returns-clause-first
returns-clause-first c =
    let m = c.args.model.now in
    let s = c.args.state.now in
    let b = c.args.b in
    let p = pose_of c.in_ok-frame.frame in
    let point = c.reference-point.ensures ∙ point-is m s b p c.pose_body.new.out.pos c.pose_body.new.out.quat c.requires.body c.in_ok-frame.ensures.posed c.in_ok-frame.ensures.pose in
    pass_first (pose_fault m s b) (standing_fault (b + 1) (body m.bodies b) (pose m s (b + 1)) (reference m s b)) None c.in_ok-frame.ensures.first
    (c.in_ok-standing.ensures.first
    ∙ same (standing_fault (b + 1)) c.body_at.result.now (body m.bodies b) p (pose m s (b + 1)) (mids c.reference-point.result) (reference m s b) c.body_at.ensures.value c.in_ok-frame.ensures.pose point)

pub returns-clause-placed : goal.returns-clause-placed
returns-clause-placed c =
    let m = c.args.model.now in
    let s = c.args.state.now in
    let b = c.args.b in
    let f = c.in_ok-frame.frame in
    let p = pose_of f in
    let old = c.pose_body.new.out in
    let x = c.body_at.result.now in
    let point = c.reference-point.ensures ∙ point-is m s b p old.pos old.quat c.requires.body c.in_ok-frame.ensures.posed c.in_ok-frame.ensures.pose in
    placed_more m s b p (mids c.in_ok-standing.standing.com) (inertia c.in_ok-standing.standing.inertia) old c.write_body.new.out c.write_body.ensures.body
    c.in_ok-frame.ensures.pose
    (c.in_ok-standing.ensures.center
    ∙ same (λ (y : Body) (q : Pose) (_ : Triple ℤ). carried q (mids y.ipos)) x (body m.bodies b) p (pose m s (b + 1)) (mids c.reference-point.result) (reference m s b) c.body_at.ensures.value c.in_ok-frame.ensures.pose point)
    (c.in_ok-standing.ensures.inertia
    ∙ same (λ (y : Body) (q : Pose) (r : Triple ℤ). inertia_of y q.orientation (minus (carried q (mids y.ipos)) r)) x (body m.bodies b) p (pose m s (b + 1)) (mids c.reference-point.result) (reference m s b) c.body_at.ensures.value c.in_ok-frame.ensures.pose point)
    c.in_ok-standing.ensures.near f.small c.in_ok-frame.ensures.posed c.in_ok-frame.ensures.massed c.in_ok-frame.ensures.marked
