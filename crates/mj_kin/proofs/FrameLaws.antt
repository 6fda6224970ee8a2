-- What the carriers hold when all is placed: the placing of the state, and its ranges.
use Rattle.std.proofs.Common.{◌≡◌, ℕ, ◌+◌, ◌^◌, ◌<◌, ◌≤◌, Bool, true, false, ◌&&◌, List, length, ℤ, unsigned_abs, None, refl, ap, ◌∙◌, arith}
use Rattle.std.proofs.lemmas.Bool.Decides.{nat_tests}
use Rattle.std.proofs.lemmas.Int.{ints}
use Rattle.fx_whole.specs.First.{first_to}
use Rattle.fx_whole.proofs.EntryLaws.{below-is}
use Rattle.fx_whole.proofs.FirstLaws.{first_none, first_ext}
use Rattle.fx_vec.specs.Vectors.{Triple}
use Rattle.fx_vec.specs.Spatial.{Inertia, Spatial}
use Rattle.fx_vec.specs.Sizes.{Within}
use Rattle.fx_vec.specs.Quaternions.{Quaternion, quaternion}
use Rattle.fx_vec.specs.Views.{mids, spatial, inertia}
use Rattle.fx_vec.specs.declared.inertia.Inertia10.{Inertia10}
use Rattle.mj_types.specs.declared.model.Model.{Model}
use Rattle.mj_types.specs.declared.state.State.{State}
use Rattle.mj_types.specs.declared.carriers.Frames.{Frames}
use Rattle.mj_types.specs.declared.parts.Body.{Body}
use Rattle.mj_types.specs.declared.range.Quantity.{Quantity}
use Rattle.mj_types.specs.Parts.{body, no_vector, no_quaternion, no_inertia, no_motion}
use Rattle.mj_types.specs.Placed.{Placing, placing_of, AreFrames, WithinInertia, inertia_at}
use Rattle.mj_types.specs.Ranges.{unless}
use Rattle.mj_types.specs.Rooms.{FramesRoom}
use Rattle.mj_types.proofs.RangeLaws.{no_fault}
use Rattle.mj_kin.specs.Poses.{Pose, pose}
use Rattle.mj_kin.specs.Bodies.{center, body_inertia, inertia_of, inertia_from, is_near, is_light, light_fault, inertia_fault}
use Rattle.mj_kin.specs.Columns.{column}
use Rattle.mj_kin.specs.Placings.{geom_pose, placing}
use Rattle.mj_kin.specs.Working.{ArePosed, AreMassed, AreSet, AreColumns}

made : (ℕ → Triple ℤ) → (ℕ → Quaternion) → (ℕ → Triple ℤ) → (ℕ → Inertia) → (ℕ → Spatial ℤ) → (ℕ → Triple ℤ) → (ℕ → Quaternion) → Placing
made p o c i s g t = record { position = p; orientation = o; center = c; inertia = i; column = s; geom_position = g; geom_orientation = t }

pub placing-is : (m : Model) (s : State) (f : Frames) → FramesRoom m f → ArePosed m s f.pos f.quat (length m.bodies) → AreMassed m s f.com f.inertia (length m.bodies)
    → AreSet m s f.gpos f.gquat (length m.geoms) → AreColumns m s f.column m.nv → placing_of f ≡ placing m s
unfolding made
placing-is m s f room posed massed set columns =
    let n = length m.bodies in
    let k = length m.geoms in
    let p = below-is mids (no_vector {F = 32}) f.pos n (λ b. (pose m s (b + 1)).position) room.pos_ (λ b h. ap (λ (x : Pose). x.position) (posed.poses b h)) in
    let o = below-is quaternion no_quaternion f.quat n (λ b. (pose m s (b + 1)).orientation) room.quat (λ b h. ap (λ (x : Pose). x.orientation) (posed.poses b h)) in
    let c = below-is mids (no_vector {F = 32}) f.com n (center m s) room.com_ massed.centers_ in
    let i = below-is inertia no_inertia f.inertia n (body_inertia m s) room.inertia massed.inertias_ in
    let t = below-is spatial (no_motion {F = 32}) f.column m.nv (column m s) room.column columns.made in
    let g = below-is mids (no_vector {F = 32}) f.gpos k (λ b. (geom_pose m s b).position) room.gpos (λ b h. ap (λ (x : Pose). x.position) (set.poses b h)) in
    let r = below-is quaternion no_quaternion f.gquat k (λ b. (geom_pose m s b).orientation) room.gquat (λ b h. ap (λ (x : Pose). x.orientation) (set.poses b h)) in
    let old = placing_of f in
    let new = placing m s in
    ap (λ x. made x old.orientation old.center old.inertia old.column old.geom_position old.geom_orientation) p
    ∙ ap (λ x. made new.position x old.center old.inertia old.column old.geom_position old.geom_orientation) o
    ∙ ap (λ x. made new.position new.orientation x old.inertia old.column old.geom_position old.geom_orientation) c
    ∙ ap (λ x. made new.position new.orientation new.center x old.column old.geom_position old.geom_orientation) i
    ∙ ap (λ x. made new.position new.orientation new.center new.inertia x old.geom_position old.geom_orientation) t
    ∙ ap (λ x. made new.position new.orientation new.center new.inertia new.column x old.geom_orientation) g
    ∙ ap (λ x. made new.position new.orientation new.center new.inertia new.column new.geom_position x) r

near_within : (limit : ℕ) (v : Triple ℤ) → is_near limit v ≡ true → Within v limit
near_within limit v h = record { x = grind (arith, nat_tests); y = grind (arith, nat_tests); z = grind (arith, nat_tests) }

pub both : (a b : Bool) → (a && b) ≡ true → (a ≡ true) × (b ≡ true)
both true b h = (refl, h)
both false b h = cc

light_within : (i : Inertia) → is_light i ≡ true → unsigned_abs i.mass ≤ 2 ^ 62 → WithinInertia i (2 ^ 62)
light_within i h k =
    let a = both (is_near (2 ^ 62) i.moment) _ h in
    let b = both (is_near (2 ^ 62) i.row_x) _ a.1 in
    let c = both (is_near (2 ^ 62) i.row_y) _ b.1 in
    record { row_x = near_within (2 ^ 62) i.row_x b.0; row_y = near_within (2 ^ 62) i.row_y c.0; row_z = near_within (2 ^ 62) i.row_z c.1; moment = near_within (2 ^ 62) i.moment a.0; mass = k }

mass-of : (b : Body) (turn : Quaternion) (r : Triple ℤ) → (inertia_of b turn r).mass ≡ b.mass.mid
unfolding inertia_of inertia_from
mass-of b turn r = refl

pub within-all : (m : Model) (s : State) (f : Frames) → FramesRoom m f → ArePosed m s f.pos f.quat (length m.bodies) → AreMassed m s f.com f.inertia (length m.bodies)
    → AreSet m s f.gpos f.gquat (length m.geoms) → AreColumns m s f.column m.nv → first_to (length f.inertia) (λ b. light_fault b (inertia_at f.inertia b)) ≡ None
    → AreFrames m f
within-all m s f room posed massed set columns light = record {
  room = room;
  position = posed.near.near;
  inertia = λ b h. light_within (inertia_at f.inertia b) (no_fault (is_light (inertia_at f.inertia b)) _ _ ((first_none (length f.inertia) (λ (b : ℕ). light_fault b (inertia_at f.inertia b))).0 light b (omega (arith, room.inertia))))
      (heavy b h);
  column = columns.within;
  geom_position = set.near;
}
  where
    heavy : (b : ℕ) → b < length m.bodies → unsigned_abs (inertia_at f.inertia b).mass ≤ 2 ^ 62
    heavy b h =
        let e : (inertia_at f.inertia b).mass ≡ (body m.bodies b).mass.mid = ap (λ (i : Inertia). i.mass) (massed.inertias_ b h) ∙ mass-of (body m.bodies b) _ _ in
        let up = (m.of_bodies.each b h).mass in
        omega (arith, ints, ap unsigned_abs e, up.least, up.most)

-- the inertias in the list are the bodies'
pub light-is : (m : Model) (s : State) (is : List Inertia10) → length is ≡ length m.bodies → ((b : ℕ) → b < length m.bodies → inertia_at is b ≡ body_inertia m s b)
    → first_to (length is) (λ b. light_fault b (inertia_at is b)) ≡ first_to (length m.bodies) (inertia_fault m s)
light-is m s is e h =
    ap (λ (n : ℕ). first_to n (λ b. light_fault b (inertia_at is b))) e
    ∙ first_ext (length m.bodies) (λ b. light_fault b (inertia_at is b)) (inertia_fault m s) (λ b l. ap (light_fault b) (h b l))
