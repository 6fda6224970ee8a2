-- The lists that are laid out are a model's.
use Rattle.std.proofs.Common.{◌≡◌, ℕ, suc, ◌+◌, ◌-◌, ◌*◌, ◌<◌, ◌≤◌, ◌==◌, IsTrue, cond, List, ◌++◌, length, length-append, refl, sym, ap, subst, ◌∙◌, arith, inl, inr}
use Rattle.std.proofs.lemmas.Bool.{cases_lt, false≢true}
use Rattle.std.proofs.lemmas.List.{get_or_append_left, get_or-append-add}
use Rattle.fx_whole.specs.Sums.{sum_ℕ_to}
use Rattle.fx_whole.specs.Joined.{joined}
use Rattle.fx_whole.proofs.JoinedLaws.{joined-length}
use Rattle.fx_whole.proofs.SumLaws.{sum_ℕ_to-le, sum_ℕ_to-ext, sum_ℕ_to-mono, sum_ℕ_to-scale_left}
use Rattle.mj_types.specs.declared.parts.Body.{Body}
use Rattle.mj_types.specs.declared.parts.Joint.{Joint}
use Rattle.mj_types.specs.declared.parts.JointKind.{JointKind}
use Rattle.mj_types.specs.declared.parts.JointKind.TheVariants as joint_kind
use Rattle.mj_types.specs.declared.parts.Dof.{Dof}
use Rattle.mj_types.specs.declared.parts.Geom.{Geom}
use Rattle.mj_types.specs.Parts.{body, no_body, joint, no_joint, dof, no_dof, geom, no_geom, position_count, velocity_count, first_part}
use Rattle.mj_types.specs.Lawful.{AreBodies, IsBody, AreJoints, IsJoint, AreDofs, IsDof, AreGeoms, IsGeom, is_free, is_plane, positions_before, velocities_before}
use Rattle.mj_layout.specs.declared.layout.BodyParts.{BodyParts}
use Rattle.mj_layout.specs.Layout.{part, joints_on, placed, root, placed_body, first_joint, bodies_of, dof_of, dofs_on, dofs_of, geoms_of}
use Rattle.mj_layout.specs.Parted.{IsParted, AreParted, AreWorldly}
use Rattle.mj_layout.proofs.PlaceLaws.{before, joined-at, Place, place_of, place-at, place-before, place-after, listed-length, listed-at}
use Rattle.mj_layout.proofs.RootLaws.{root-next, root-made}
use Rattle.mj_layout.proofs.PlacedLaws.{length-placed, placed-at, placed-velocities, placed-positions}

-- the joints of the body at a place
abbrev pub own : List BodyParts → ℕ → List Joint
own parts b = (part parts b).joints

-- a joint of a body, as it stands in the list of all
abbrev placed_own : Joint → List Joint → ℕ → Joint
placed_own x js j = record x { qadr = positions_before js j; dadr = velocities_before js j }

twice_velocities : (kind : JointKind) → position_count kind ≤ 2 * velocity_count kind
twice_velocities joint_kind.Free = omega arith
twice_velocities joint_kind.Ball = omega arith
twice_velocities joint_kind.Hinge = omega arith
twice_velocities joint_kind.Slide = omega arith

pub few_positions : (js : List Joint) (n : ℕ) → positions_before js n ≤ 2 * velocities_before js n
few_positions js n =
    omega (arith, sum_ℕ_to-mono n (λ i. position_count (joint js i).kind) (λ i. 2 * velocity_count (joint js i).kind) (λ k p. twice_velocities (joint js k).kind), sum_ℕ_to-scale_left n 2 (λ i. velocity_count (joint js i).kind))

is_joint : (x : Joint) (q d : ℕ) → IsJoint x → IsJoint (record x { qadr = q; dadr = d })
is_joint x q d h = record { pos_ = h.pos_; axis = h.axis; range = h.range; margin = h.margin; stiffness = h.stiffness; springref = h.springref; damping = h.damping; armature = h.armature; frictionloss = h.frictionloss; soft = h.soft; soft_friction = h.soft_friction }

module _ (parts : List BodyParts) where
  -- a joint is one of a body's
  at_place : (j : ℕ) → j < length (joints_on parts) → (p : Place (length parts) (own parts) j)
      → joint (placed (joints_on parts)) j ≡ placed_own (joint (own parts p.part) p.rest) (joints_on parts) j
  at_place j h p =
      placed-at (joints_on parts) j h ∙ ap (λ x. placed_own x (joints_on parts) j) (place-at (length parts) (own parts) j no_joint p)

  -- and each joint of a body stands behind those of the bodies before
  at_own : (b i : ℕ) → b < length parts → i < length (own parts b)
      → joint (placed (joints_on parts)) (first_joint parts b + i) ≡ placed_own (joint (own parts b) i) (joints_on parts) (first_joint parts b + i)
  at_own b i h l =
      let there : first_joint parts b + i < length (joints_on parts) =
      omega (arith, joined-length (length parts) (own parts), sum_ℕ_to-le (suc b) (length parts) (λ k. length (own parts k)) h, l) in
      placed-at (joints_on parts) (first_joint parts b + i) there
      ∙ ap (λ x. placed_own x (joints_on parts) (first_joint parts b + i)) (joined-at (length parts) (own parts) b i no_joint h l)

  pub length-bodies : (ps : List Joint) → length (bodies_of parts ps) ≡ length parts
  unfolding bodies_of
  length-bodies ps = listed-length (length parts) (placed_body parts ps)

  pub bodies-at : (ps : List Joint) (b : ℕ) → b < length parts → body (bodies_of parts ps) b ≡ placed_body parts ps b
  unfolding bodies_of
  bodies-at ps b h = listed-at (length parts) (placed_body parts ps) b no_body h

  -- where joints stand, by the body before which or behind which they stand
  body_at : (each : (b : ℕ) → b < length parts → IsParted b (part parts b)) (j : ℕ) → j < length (joints_on parts)
      → (p : Place (length parts) (own parts) j) → (joint (placed (joints_on parts)) j).body ≡ suc p.part
  body_at each j h p = ap (λ (x : Joint). x.body) (at_place j h p) ∙ (each p.part p.below).owned p.rest p.inside

  body_own : (each : (b : ℕ) → b < length parts → IsParted b (part parts b)) (b i : ℕ) → b < length parts → i < length (own parts b)
      → (joint (placed (joints_on parts)) (first_joint parts b + i)).body ≡ suc b
  body_own each b i h l = ap (λ (x : Joint). x.body) (at_own b i h l) ∙ (each b h).owned i l

  abbrev n : ℕ
  n = length parts

  abbrev f : ℕ → List Joint
  f b = own parts b

  abbrev js : List Joint
  js = joints_on parts

  abbrev ps : List Joint
  ps = placed js

  abbrev bs : List Body
  bs = bodies_of parts ps

  there : (j : ℕ) → j < length ps → j < length js
  there j l = omega (arith, l, length-placed js)

  inside : (b : ℕ) → b < length bs → b < n
  inside b l = omega (arith, l, length-bodies ps)

  counts : (m : ℕ) → m ≤ n → sum_ℕ_to m (λ a. (body bs a).jntnum) ≡ first_joint parts m
  counts m h = sum_ℕ_to-ext m (λ a. (body bs a).jntnum) (λ a. length (own parts a)) (λ a p. ap (λ (x : Body). x.jntnum) (bodies-at ps a (omega (arith, p, h))))

  among : (b j : ℕ) → b < n → j < first_joint parts b → j < length js
  among b j h l = omega (arith, l, joined-length n f, sum_ℕ_to-le b n (λ k. length (own parts k)) (omega arith))

  free_own : (b i : ℕ) → b < n → i < length (f b) → IsTrue (is_free (joint ps (first_joint parts b + i)).kind) → IsTrue (is_free (joint (f b) i).kind)
  free_own b i h l free = let same : is_free (joint ps (first_joint parts b + i)).kind ≡ is_free (joint (f b) i).kind = ap (λ (x : Joint). is_free x.kind) (at_own b i h l) in sym same ∙ free

  pub are_joints : AreParted parts
      → AreJoints (bodies_of parts (placed (joints_on parts))) (placed (joints_on parts))
      (positions_before (joints_on parts) (length (joints_on parts))) (velocities_before (joints_on parts) (length (joints_on parts)))
  are_joints h = record {
    each = λ j l. (let p = place_of n f j (there j l) in let P : Joint → Type 0 = λ x. IsJoint x in
        subst P (sym (at_place j (there j l) p)) (is_joint (joint (f p.part) p.rest) (positions_before js j) (velocities_before js j) ((h.each p.part p.below).joint_ p.rest p.inside)));
    not_world = λ j l. (let p = place_of n f j (there j l) in omega (arith, body_at h.each j (there j l) p));
    on_body = λ j l. (let p = place_of n f j (there j l) in omega (arith, body_at h.each j (there j l) p, p.below, length-bodies ps));
    qadr = λ j l. ap (λ (x : Joint). x.qadr) (placed-at js j (there j l)) ∙ sym (placed-positions js j (omega (arith, there j l)));
    dadr = λ j l. ap (λ (x : Joint). x.dadr) (placed-at js j (there j l)) ∙ sym (placed-velocities js j (omega (arith, there j l)));
    positions = sym (ap (positions_before ps) (length-placed js) ∙ placed-positions js (length js) (omega arith));
    velocities = sym (ap (velocities_before ps) (length-placed js) ∙ placed-velocities js (length js) (omega arith));
    some = h.some_dof;
    few = h.few_dofs;
    few_positions = omega (arith, few_positions js (length js), h.few_dofs);
    jntadr = λ b l. (let P : Body → Type 0 = λ x. x.jntadr ≡ sum_ℕ_to b (λ a. (body bs a).jntnum) in
        subst P (sym (bodies-at ps b (inside b l))) (sym (counts b (omega (arith, inside b l)))));
    whole = length-placed js ∙ joined-length n f ∙ sym (ap (λ (m : ℕ). sum_ℕ_to m (λ a. (body bs a).jntnum)) (length-bodies ps) ∙ counts n (omega arith));
    earlier = λ b j l m. (let first : (body bs b).jntadr ≡ first_joint parts b = ap (λ (x : Body). x.jntadr) (bodies-at ps b (inside b l)) in
        let p = place_of n f j (among b j (inside b l) (omega (arith, m, first))) in
        omega (arith, body_at h.each j (among b j (inside b l) (omega (arith, m, first))) p, place-before n f j b p (omega (arith, m, first))));
    later = λ b j l m k. (let first : (body bs b).jntadr ≡ first_joint parts b = ap (λ (x : Body). x.jntadr) (bodies-at ps b (inside b l)) in
        let p = place_of n f j (there j k) in
        omega (arith, body_at h.each j (there j k) p, place-after n f j b p (omega (arith, m, first))));
    owned = λ b i l. (let P : Body → Type 0 = λ x. i < x.jntnum → (joint ps (x.jntadr + i)).body ≡ suc b in
        subst P (sym (bodies-at ps b (inside b l))) (λ m. body_own h.each b i (inside b l) m));
    dofadr = λ b l. (let P : Body → Type 0 = λ x. x.dofadr ≡ velocities_before ps x.jntadr in
        subst P (sym (bodies-at ps b (inside b l))) refl);
    dofend = λ b l. (let P : Body → Type 0 = λ x. x.dofadr + x.dofnum ≡ velocities_before ps (x.jntadr + x.jntnum) in
        subst P (sym (bodies-at ps b (inside b l))) (omega (arith, sum_ℕ_to-le (first_joint parts b) (first_joint parts b + length (f b)) (λ i. velocity_count (joint ps i).kind) (omega arith))));
    alone = λ b i l. (let P : Body → Type 0 = λ x. i < x.jntnum → IsTrue (is_free (joint ps (x.jntadr + i)).kind) → x.jntnum ≡ 1 in
        subst P (sym (bodies-at ps b (inside b l))) (λ m free. (h.each b (inside b l)).alone i m (free_own b i (inside b l) m free)));
    rooted = λ b i l. (let P : Body → Type 0 = λ x. i < x.jntnum → IsTrue (is_free (joint ps (x.jntadr + i)).kind) → x.parent ≡ 0 in
        subst P (sym (bodies-at ps b (inside b l))) (λ m free. (h.each b (inside b l)).rooted i m (free_own b i (inside b l) m free)));
  }

-- ---- dofs
module _ (qs : List Joint) where
  abbrev each_dofs : ℕ → List Dof
  each_dofs j = dofs_on (suc j) (joint qs j)

  dofs_before : (j : ℕ) → before each_dofs j ≡ velocities_before qs j
  dofs_before j = sum_ℕ_to-ext j (λ k. length (each_dofs k)) (λ i. velocity_count (joint qs i).kind) (λ k p. listed-length (velocity_count (joint qs k).kind) (dof_of (suc k) (joint qs k)))

  own_dof : (j i : ℕ) → i < velocity_count (joint qs j).kind → dof (each_dofs j) i ≡ dof_of (suc j) (joint qs j) i
  own_dof j i l = listed-at (velocity_count (joint qs j).kind) (dof_of (suc j) (joint qs j)) i no_dof l

  length-dofs : length (dofs_of qs) ≡ velocities_before qs (length qs)
  unfolding dofs_of
  length-dofs = joined-length (length qs) each_dofs ∙ dofs_before (length qs)

  -- the dof of part i of joint j
  dof-own : (j i : ℕ) → j < length qs → i < velocity_count (joint qs j).kind → dof (dofs_of qs) (velocities_before qs j + i) ≡ dof_of (suc j) (joint qs j) i
  unfolding dofs_of
  dof-own j i h l =
      ap (λ (k : ℕ). dof (joined (length qs) each_dofs) (k + i)) (sym (dofs_before j))
      ∙ joined-at (length qs) each_dofs j i no_dof h (omega (arith, l, listed-length (velocity_count (joint qs j).kind) (dof_of (suc j) (joint qs j))))
      ∙ own_dof j i l

  dof_place : (d : ℕ) → d < length (dofs_of qs) → Place (length qs) each_dofs d
  unfolding dofs_of
  dof_place d h = place_of (length qs) each_dofs d h

  is_dof : (j i d : ℕ) (x : Dof) → j < length qs → i < velocity_count (joint qs j).kind → (joint qs j).dadr ≡ velocities_before qs j
      → d ≡ velocities_before qs j + i → x ≡ dof_of (suc j) (joint qs j) i → IsDof qs d x
  is_dof j i d x h l places at e =
      let q : suc j - 1 ≡ j = omega arith in
      let P : ℕ → Type 0 = λ k. i < velocity_count (joint qs k).kind in
      let Q : Dof → Type 0 = λ y. IsDof qs d y in
      subst Q (sym e) (record {
        some = omega arith;
        joint_ = omega (arith, h);
        part = subst P (sym q) l;
        place = omega (arith, at, places, ap (λ (k : ℕ). (joint qs k).dadr) q);
        body_ = sym (ap (λ (k : ℕ). (joint qs k).body) q);
        base = sym (ap (λ (k : ℕ). (joint qs k).dadr + first_part (joint qs k).kind i) q);
      })

  pub are_dofs : ((j : ℕ) → j < length qs → (joint qs j).dadr ≡ velocities_before qs j) → AreDofs qs (dofs_of qs) (velocities_before qs (length qs))
  are_dofs places = record {
    many = length-dofs;
    each = λ d h. each d h (dof_place d (omega (arith, h, length-dofs)));
    joints_ = λ j i h l. ap (λ (k : ℕ). (dof (dofs_of qs) (k + i)).joint) (places j h) ∙ ap (λ (x : Dof). x.joint) (dof-own j i h l);
    parts = λ j i h l. ap (λ (k : ℕ). (dof (dofs_of qs) (k + i)).part) (places j h) ∙ ap (λ (x : Dof). x.part) (dof-own j i h l);
  }
    where
      each : (d : ℕ) → d < velocities_before qs (length qs) → Place (length qs) each_dofs d → IsDof qs d (dof (dofs_of qs) d)
      each d h p =
          let l : p.rest < velocity_count (joint qs p.part).kind = omega (arith, p.inside, listed-length (velocity_count (joint qs p.part).kind) (dof_of (suc p.part) (joint qs p.part))) in
          let at : d ≡ velocities_before qs p.part + p.rest = omega (arith, p.is, dofs_before p.part) in
          is_dof p.part p.rest d (dof (dofs_of qs) d) p.below l (places p.part p.below) at
          (ap (λ (k : ℕ). dof (dofs_of qs) k) at ∙ dof-own p.part p.rest p.below l)

-- ---- bodies
is_body : (x : Body) (r a b c d : ℕ) → IsBody x → IsBody (record x { root = r; jntadr = a; jntnum = b; dofadr = c; dofnum = d })
is_body x r a b c d h = record { pos_ = h.pos_; quat = h.quat; mass = h.mass; ipos = h.ipos; iquat = h.iquat; ixx = h.ixx; iyy = h.iyy; izz = h.izz }

module _ (parts : List BodyParts) (ps : List Joint) where
  at_body : (b : ℕ) → b < length (bodies_of parts ps) → body (bodies_of parts ps) b ≡ placed_body parts ps b
  at_body b l = bodies-at parts ps b (omega (arith, l, length-bodies parts ps))

  pub are_bodies : AreParted parts → AreBodies (bodies_of parts ps)
  are_bodies h = record {
    few = omega (arith, h.few, length-bodies parts ps);
    each = λ b l. (let P : Body → Type 0 = λ x. IsBody x in
        subst P (sym (at_body b l)) (is_body (part parts b).body (root parts (suc b)) (first_joint parts b) (length (own parts b)) _ _ (each b l).body_));
    parents = λ b l. (let P : Body → Type 0 = λ x. x.parent ≤ b in subst P (sym (at_body b l)) (each b l).parent);
    roots = λ b l. (let P : Body → Type 0 = λ x. x.root ≡ cond (x.parent == 0) (suc b) (body (bodies_of parts ps) (x.parent - 1)).root in
        subst P (sym (at_body b l)) (root-next parts b (each b l).parent
        ∙ sym (root-made parts (bodies_of parts ps) b (part parts b).body.parent (λ k m. ap (λ (x : Body). x.root) (at_body k (omega (arith, m, l)))) (each b l).parent)));
  }
    where
      each : (b : ℕ) → b < length (bodies_of parts ps) → IsParted b (part parts b)
      each b l = h.each b (omega (arith, l, length-bodies parts ps))

-- ---- geoms
module _ (world : List Geom) (parts : List BodyParts) where
  abbrev worn : ℕ → List Geom
  worn b = (part parts b).geoms

  -- a geom of the world, or of a body
  pub record Side (g : ℕ) : Type 0 where
    pub owner : ℕ
    pub here : owner ≤ length parts
    pub good : IsGeom (geom (geoms_of world parts) g)
    pub owned : (geom (geoms_of world parts) g).body ≡ owner
    pub flat : IsTrue (is_plane (geom (geoms_of world parts) g).kind) → owner ≡ 0
    pub past : length world ≤ g → (1 ≤ owner) × (before worn (owner - 1) ≤ g - length world) × (g - length world < before worn owner)
    pub near : g < length world → owner ≡ 0

  on_world : (g : ℕ) → AreWorldly world → g < length world → Side g
  unfolding geoms_of
  on_world g w l =
      let e : geom (world ++ joined (length parts) worn) g ≡ geom world g = get_or_append_left world (joined (length parts) worn) no_geom g l in
      let P : Geom → Type 0 = λ x. IsGeom x in
      record { owner = 0; here = omega arith; good = subst P (sym e) (w.each g l); owned = ap (λ (x : Geom). x.body) e ∙ w.worn g l; flat = λ _. refl; past = λ q. absurd (omega (arith, q, l)); near = λ _. refl }

  on_body : (each : (b : ℕ) → b < length parts → IsParted b (part parts b)) (g : ℕ) → length world ≤ g → (p : Place (length parts) worn (g - length world)) → Side g
  unfolding geoms_of
  on_body each g l p =
      let q : length world + (g - length world) ≡ g = omega arith in
      let e : geom (world ++ joined (length parts) worn) g ≡ geom (worn p.part) p.rest =
      ap (λ (k : ℕ). geom (world ++ joined (length parts) worn) k) (sym q)
      ∙ get_or-append-add world (joined (length parts) worn) (g - length world) no_geom
      ∙ place-at (length parts) worn (g - length world) no_geom p in
      let P : Geom → Type 0 = λ x. IsGeom x in
      let h = each p.part p.below in
      let less : suc p.part - 1 ≡ p.part = omega arith in
      record {
        owner = suc p.part;
        here = p.below;
        good = subst P (sym e) (h.geom_ p.rest p.inside);
        owned = ap (λ (x : Geom). x.body) e ∙ h.worn p.rest p.inside;
        flat = λ flat. absurd (false≢true (sym (h.no_plane p.rest p.inside) ∙ (ap (λ (x : Geom). is_plane x.kind) (sym e) ∙ flat)));
        past = λ _. (omega arith, omega (arith, p.is, ap (before worn) less), omega (arith, p.is, p.inside));
        near = λ k. absurd (omega (arith, k, l));
      }

  side : AreWorldly world → ((b : ℕ) → b < length parts → IsParted b (part parts b)) → (g : ℕ) → g < length (geoms_of world parts) → Side g
  unfolding geoms_of
  side w each g l =
      elim (cases_lt g (length world)) [
        | inl h ↦ on_world g w h
        | inr h ↦ on_body each g h (place_of (length parts) worn (g - length world) (omega (arith, h, l, length-append world (joined (length parts) worn))))
      ]

  pub are_geoms : AreWorldly world → AreParted parts → (bodies : List Body) → length bodies ≡ length parts → length (geoms_of world parts) ≤ 128 → AreGeoms bodies (geoms_of world parts)
  are_geoms w h bodies same few = record {
    few = few;
    each = λ g l. (side w h.each g l).good;
    on_body = λ g l. (let s = side w h.each g l in omega (arith, s.owned, s.here, same));
    ordered = λ g l. order g (side w h.each g (omega arith)) (side w h.each (g + 1) l);
    planes = λ g l flat. (let s = side w h.each g l in s.owned ∙ s.flat flat);
  }
    where
      order : (g : ℕ) → Side g → Side (g + 1) → (geom (geoms_of world parts) g).body ≤ (geom (geoms_of world parts) (g + 1)).body
      order g a b =
          elim (cases_lt g (length world)) [
            | inl l ↦ omega (arith, a.owned, a.near l)
            | inr l ↦ (let x = a.past l in let y = b.past (omega arith) in
                elim (cases_lt b.owner a.owner) [
                  | inl back ↦ absurd (omega (arith, x.0, x.1, y.2, sum_ℕ_to-le b.owner (a.owner - 1) (λ k. length (worn k)) (omega (arith, back))))
                  | inr on ↦ omega (arith, a.owned, b.owned, on)
                ])
          ]
