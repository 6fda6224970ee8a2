-- The tables of an accepted model are sound.
use Rattle.std.proofs.Common.{◌≡◌, ◌≢◌, ℕ, zero, suc, ◌+◌, ◌-◌, ◌^◌, ◌<◌, ◌≤◌, ◌==◌, ◌++◌, Bool, true, false, not, IsTrue, List, [], ◌∷◌, length, get_or, map, take, drop, codes, Option, Some, None, Ok, refl, sym, ap, ap₂, subst, ◌∙◌, arith, add-one, length-append, append-nil, append_assoc}
use Rattle.std.specs.Prelude.{nat_eq, nat_le, nat_lt, bytes_eq, sum, sum_by}
use Rattle.std.specs.List.{flat_map}
use Rattle.std.proofs.lemmas.Bool.{false≢true}
use Rattle.std.proofs.lemmas.Bool.Decides.{nat_tests}
use Rattle.std.proofs.lemmas.List.{get_or-take, length-take, length-take-le, map-append, length-map}
use Rattle.std.proofs.lemmas.List.Concat.{flat_map-cons}
use Rattle.std.proofs.lemmas.List.Sums.{sum-map, sum_by-append, sum_by-cons}
use Rattle.fx_whole.specs.Sums.{sum_ℕ_to}
use Rattle.fx_whole.specs.Joined.{joined}
use Rattle.fx_whole.proofs.JoinedLaws.{joined-length, joined-none}
use Rattle.fx_whole.proofs.SumLaws.{sum_ℕ_to-mono, sum_ℕ_to-const}
use Rattle.mj_types.specs.declared.parts.Joint.{Joint}
use Rattle.mj_types.specs.declared.parts.JointKind.{JointKind}
use Rattle.mj_types.specs.declared.parts.JointKind.TheVariants as joint_kind
use Rattle.mj_types.specs.declared.parts.Geom.{Geom}
use Rattle.mj_types.specs.declared.parts.Term.{Term}
use Rattle.mj_types.specs.declared.parts.Tendon.{Tendon}
use Rattle.mj_types.specs.declared.parts.Motor.{Motor}
use Rattle.mj_types.specs.declared.parts.Equality.{Equality}
use Rattle.mj_types.specs.declared.status.ModelCode.TheVariants as code
use Rattle.mj_types.specs.Parts.{joint, no_joint, geom, no_geom, term, no_term, tendon, no_tendon, motor, no_motor, equality, no_equality, velocity_count}
use Rattle.mj_types.specs.Lawful.{IsSmall, IsJoint, IsGeom, is_plane, IsScalar, AreTendons, AreMotors, AreEqualities, is_free, velocities_before}
use Rattle.mj_form.specs.Reading.{Read, ◌>>=◌, at_key, under}
use Rattle.mj_read.specs.declared.bodies.RawBody.{RawBody}
use Rattle.mj_read.specs.declared.joints.RawJoint.{RawJoint}
use Rattle.mj_read.specs.declared.tendons.RawTerm.{RawTerm}
use Rattle.mj_read.specs.declared.document.RawModel.{RawModel}
use Rattle.mj_judge.specs.Judged.{unless}
use Rattle.mj_judge.specs.Choices.{joint_type, format}
use Rattle.mj_layout.specs.declared.layout.BodyParts.{BodyParts}
use Rattle.mj_layout.specs.Layout.{part, no_parts, joints_on, placed, geoms_of}
use Rattle.mj_layout.specs.Parted.{IsParted, AreParted, AreWorldly}
use Rattle.mj_layout.proofs.PlacedLaws.{length-placed, placed-kind}
use Rattle.mj_walk.specs.Names.{scalar_number}
use Rattle.mj_walk.specs.Counts as count
use Rattle.mj_walk.specs.Tables as walk
use Rattle.mj_walk.specs.Walks.{each}
use Rattle.mj_valid.specs.declared.walked.First.{First}
use Rattle.mj_valid.specs.declared.walked.Naming.{Naming}
use Rattle.mj_valid.specs.declared.walked.Walked.{Walked}
use Rattle.mj_valid.specs.Judging.{all_joints, first, naming, walked}
use Rattle.mj_valid.specs.Sound.{IsSound}
use Rattle.mj_valid.proofs.Chains.{chain, ok-same, at_key-ok, under-ok, unless-good}
use Rattle.mj_valid.proofs.KeyLaws.{first-of, second-of, at-most, format-is, joint_type-is, joint_free-may, no_plane}
use Rattle.mj_valid.proofs.TableLaws.{joint-is, geom-is, option-is, body-is, term-is, tendon-is, motor-is, equality-is, IsJudgedBody, IsJudgedTerm, IsJudgedMotor}
use Rattle.mj_valid.proofs.EachIs.{each-length, each-is, each-some, item-ok}
use Rattle.mj_valid.proofs.NameLaws.{some_item, is-scalar, same-text, optional-is, drive-is, second-is, any-false, term-fresh, parent-before, map-at}
use Rattle.mj_valid.proofs.Holes.{few_apart}

equal : (a b : ℕ) → (a == b) ≡ true → a ≡ b
equal a b h = grind (arith, nat_tests)

-- ---- counts
pub record IsCounted (raw : RawModel) : Type 0 where
  pub bodies : length raw.body ≤ 128
  pub geoms : count.geom_count raw ≤ 128
  pub tendons : length raw.tendon ≤ 64
  pub motors : length raw.motor ≤ 64
  pub equalities : length raw.equality ≤ 64
  pub dofs : count.dof_count raw.body ≤ 64
  pub some : 1 ≤ count.dof_count raw.body

few-is : (key : List ℕ) (n most : ℕ) (u : Unit {0}) → count.few key n most ≡ Ok u → n ≤ most
few-is key n most u h = at-most n most (unless-good (nat_le n most) code.LimitPassed u (at_key-ok key (unless (nat_le n most) code.LimitPassed) u h))

some-is : (n : ℕ) (u : Unit {0}) → count.some_dof n ≡ Ok u → 1 ≤ n
some-is n u h = let good : nat_lt 0 n ≡ true = unless-good (nat_lt 0 n) code.EmptyModel u (at_key-ok [] (unless (nat_lt 0 n) code.EmptyModel) u h) in grind (arith, nat_tests)

counted : (raw : RawModel) (u : Unit {0}) → count.counts raw ≡ Ok u → IsCounted raw
unfolding count.counts
counted raw u h0 =
    chain (count.few (codes "body") (length raw.body) 128) _ u h0 (λ u1 e1 h1.
    chain (count.few (codes "geom") (count.geom_count raw) 128) _ u h1 (λ u2 e2 h2.
    chain (count.few (codes "tendon") (length raw.tendon) 64) _ u h2 (λ u3 e3 h3.
    chain (count.few (codes "motor") (length raw.motor) 64) _ u h3 (λ u4 e4 h4.
    chain (count.few (codes "equality") (length raw.equality) 64) _ u h4 (λ u5 e5 h5.
    chain (count.few (codes "dof") (count.dof_count raw.body) 64) _ u h5 (λ u6 e6 h6.
    record {
      bodies = few-is (codes "body") (length raw.body) 128 u1 e1;
      geoms = few-is (codes "geom") (count.geom_count raw) 128 u2 e2;
      tendons = few-is (codes "tendon") (length raw.tendon) 64 u3 e3;
      motors = few-is (codes "motor") (length raw.motor) 64 u4 e4;
      equalities = few-is (codes "equality") (length raw.equality) 64 u5 e5;
      dofs = few-is (codes "dof") (count.dof_count raw.body) 64 u6 e6;
      some = some-is (count.dof_count raw.body) u h6;
    }))))))

-- ---- lists that are judged together
each-map : {A B C : Type 0} (f : ℕ → A → Read B) (g : A → C) (g' : B → C) → ((k : ℕ) (x : A) (y : B) → f k x ≡ Ok y → g x ≡ g' y)
    → (i : ℕ) (xs : List A) (ys : List B) → each f i xs ≡ Ok ys → map g xs ≡ map g' ys
each-map f g g' s i [] ys h = ap (map g') (ok-same [] ys h)
each-map f g g' s i (x ∷ xs) ys h =
    chain (f i x) (λ y. each f (suc i) xs >>= (λ zs. Ok (y ∷ zs))) ys h (λ y y-is h1.
    chain (each f (suc i) xs) (λ zs. Ok (y ∷ zs)) ys h1 (λ zs zs-is h2.
    ap₂ (λ c cs. c ∷ cs) (s i x y y-is) (each-map f g g' s (suc i) xs zs zs-is) ∙ ap (map g') (ok-same (y ∷ zs) ys h2)))

each-flat : {A B X Y C : Type 0} (f : ℕ → A → Read B) (g : A → List X) (g' : B → List Y) (m : X → C) (m' : Y → C)
    → ((k : ℕ) (x : A) (y : B) → f k x ≡ Ok y → map m (g x) ≡ map m' (g' y))
    → (i : ℕ) (xs : List A) (ys : List B) → each f i xs ≡ Ok ys → map m (flat_map g xs) ≡ map m' (flat_map g' ys)
each-flat f g g' m m' s i [] ys h = ap (λ zs. map m' (flat_map g' zs)) (ok-same [] ys h)
each-flat f g g' m m' s i (x ∷ xs) ys h =
    chain (f i x) (λ y. each f (suc i) xs >>= (λ zs. Ok (y ∷ zs))) ys h (λ y y-is h1.
    chain (each f (suc i) xs) (λ zs. Ok (y ∷ zs)) ys h1 (λ zs zs-is h2.
    ap (map m) (flat_map-cons g x xs) ∙ map-append m (g x) (flat_map g xs)
    ∙ ap₂ (λ c cs. c ++ cs) (s i x y y-is) (each-flat f g g' m m' s (suc i) xs zs zs-is)
    ∙ sym (ap (map m') (flat_map-cons g' y zs) ∙ map-append m' (g' y) (flat_map g' zs))
    ∙ ap (λ ws. map m' (flat_map g' ws)) (ok-same (y ∷ zs) ys h2)))

-- joined over an index, or over the list
joined-front : {A : Type 0} (n : ℕ) (f : ℕ → List A) → joined (suc n) f ≡ f 0 ++ joined n (λ k. f (suc k))
unfolding joined
joined-front zero f = sym (append-nil (f 0))
joined-front (suc n) f = ap (λ xs. xs ++ f (suc n)) (joined-front n f) ∙ append_assoc (f 0) (joined n (λ k. f (suc k))) (f (suc n))

joined-flat : {A B : Type 0} (g : A → List B) (xs : List A) (d : A) → joined (length xs) (λ b. g (get_or xs b d)) ≡ flat_map g xs
joined-flat g [] d = joined-none (λ b. g d)
joined-flat g (x ∷ xs) d = joined-front (length xs) (λ b. g (get_or (x ∷ xs) b d)) ∙ ap (λ ys. g x ++ ys) (joined-flat g xs d) ∙ sym (flat_map-cons g x xs)

sum-front : (n : ℕ) (f : ℕ → ℕ) → sum_ℕ_to (suc n) f ≡ f 0 + sum_ℕ_to n (λ k. f (suc k))
sum-front zero f = omega arith
sum-front (suc n) f = omega (arith, sum-front n f)

sum-list : {A : Type 0} (g : A → ℕ) (xs : List A) (d : A) → sum_ℕ_to (length xs) (λ k. g (get_or xs k d)) ≡ sum_by g xs
sum-list g [] d = refl
sum-list g (x ∷ xs) d = sum-front (length xs) (λ k. g (get_or (x ∷ xs) k d)) ∙ ap (λ (n : ℕ). g x + n) (sum-list g xs d) ∙ sym (sum_by-cons g x xs)

sum-flat : {A B : Type 0} (g : B → ℕ) (h : A → List B) (xs : List A) → sum_by g (flat_map h xs) ≡ sum_by (λ x. sum_by g (h x)) xs
sum-flat g h [] = refl
sum-flat g h (x ∷ xs) = ap (sum_by g) (flat_map-cons h x xs) ∙ sum_by-append g (h x) (flat_map h xs) ∙ ap (λ (n : ℕ). sum_by g (h x) + n) (sum-flat g h xs) ∙ sym (sum_by-cons (λ y. sum_by g (h y)) x xs)

-- the numbers of items, by the lists that they come from
sum-same : {A B : Type 0} (g : A → ℕ) (g' : B → ℕ) (xs : List A) (ys : List B) → map g xs ≡ map g' ys → sum_by g xs ≡ sum_by g' ys
sum-same g g' xs ys e = sym (sum-map g xs) ∙ ap sum e ∙ sum-map g' ys

sum-mapped : {A B : Type 0} (t : B → ℕ) (m : A → B) (xs : List A) → sum_by (λ x. t (m x)) xs ≡ sum_by t (map m xs)
sum-mapped t m [] = refl
sum-mapped t m (x ∷ xs) = sum_by-cons (λ x. t (m x)) x xs ∙ ap (λ (n : ℕ). t (m x) + n) (sum-mapped t m xs) ∙ sym (sum_by-cons t (m x) (map m xs))

-- ---- types
abbrev raw_type : RawJoint → Option JointKind
raw_type j = joint_type j.kind

abbrev made_type : Joint → Option JointKind
made_type x = Some x.kind

own_types : (before : List RawBody) (number : ℕ) (may : Bool) (own : List RawJoint) (xs : List Joint) → walk.joints before number may own ≡ Ok xs → map raw_type own ≡ map made_type xs
own_types before number may own xs h =
    each-map (walk.joint_item before own number may) raw_type made_type
    (λ k j x e. joint_type-is may j.kind x.kind (joint-is before (take k own) number may j x (item-ok (codes "joint") k (walk.joint before (take k own) number may j) x e)).kind_)
    0 own xs h

some_velocity : (kind : JointKind) → 1 ≤ velocity_count kind
some_velocity joint_kind.Free = omega arith
some_velocity joint_kind.Ball = omega arith
some_velocity joint_kind.Hinge = omega arith
some_velocity joint_kind.Slide = omega arith

-- a joint of the body at place b
record IsJointOf (b parent : ℕ) (own : List RawJoint) (x : Joint) : Type 0 where
  pub joint_ : IsJoint x
  pub owned : x.body ≡ suc b
  pub alone : IsTrue (is_free x.kind) → length own ≡ 1
  pub rooted : IsTrue (is_free x.kind) → parent ≡ 0

record IsGeomOf (b : ℕ) (x : Geom) : Type 0 where
  pub geom_ : IsGeom x
  pub worn : x.body ≡ suc b
  pub no_plane_ : is_plane x.kind ≡ false

not_none : (n : ℕ) → not (nat_eq n 0) ≡ true → 1 ≤ n
not_none n h = grind (arith, nat_tests)

record WorldGeom (x : Geom) : Type 0 where
  pub geom_ : IsGeom x
  pub worn : x.body ≡ 0

module _ (raw : RawModel) (parts : List BodyParts) (h : walk.bodies raw.body ≡ Ok parts) where
  abbrev raws : List RawJoint
  raws = all_joints raw.body

  abbrev js : List Joint
  js = joints_on parts

  judged_body : (k : ℕ) (b : RawBody) (p : BodyParts) → walk.body_item raw.body k b ≡ Ok p → IsJudgedBody (take k raw.body) (drop k raw.body) (k + 1) b p
  judged_body k b p e = body-is (take k raw.body) (drop k raw.body) (k + 1) b p (item-ok (codes "body") k (walk.body (take k raw.body) (drop k raw.body) (k + 1) b) p e)

  flat_js : js ≡ flat_map (λ p. p.joints) parts
  flat_js = joined-flat (λ p. p.joints) parts no_parts

  types : map raw_type raws ≡ map made_type js
  types =
      each-flat (walk.body_item raw.body) (λ b. b.joint) (λ p. p.joints) raw_type made_type
      (λ k b p e. (let q = judged_body k b p e in own_types (take k raw.body) (k + 1) (walk.may_be_free p.body.parent b.joint) b.joint p.joints q.joints_))
      0 raw.body parts h
      ∙ ap (map made_type) (sym flat_js)

  many : length raws ≡ length js
  many = sym (length-map raws raw_type) ∙ ap length types ∙ length-map js made_type

  dofs : velocities_before js (length js) ≡ count.dof_count raw.body
  dofs =
      sum-list (λ x. velocity_count x.kind) js no_joint
      ∙ sum-mapped count.type_velocities made_type js
      ∙ ap (sum_by count.type_velocities) (sym types)
      ∙ sym (sum-mapped count.type_velocities raw_type raws)
      ∙ sum-flat (λ j. count.type_velocities (raw_type j)) (λ b. b.joint) raw.body

  few_joints : length js ≤ velocities_before js (length js)
  few_joints = omega (arith, sum_ℕ_to-const (length js) 1, sum_ℕ_to-mono (length js) (λ i. 1) (λ i. velocity_count (joint js i).kind) (λ k l. some_velocity (joint js k).kind))

  geom_sum : sum_ℕ_to (length parts) (λ b. length (part parts b).geoms) ≡ sum_by (λ b. length b.geom) raw.body
  geom_sum =
      sum-list (λ p. length p.geoms) parts no_parts
      ∙ sym (sum-same (λ b. length b.geom) (λ p. length p.geoms) raw.body parts
      (each-map (walk.body_item raw.body) (λ b. length b.geom) (λ p. length p.geoms)
      (λ k b p e. (let q = judged_body k b p e in sym (each-length (walk.geom_item (take k raw.body) b.geom (k + 1) false) 0 b.geom p.geoms q.geoms_)))
      0 raw.body parts h))

  -- ---- each body
  parted_joint : (b : ℕ) (r : RawBody) (p : BodyParts) → IsJudgedBody (take b raw.body) (drop b raw.body) (b + 1) r p → (i : ℕ) → i < length p.joints
      → IsJointOf b p.body.parent r.joint (joint p.joints i)
  parted_joint b r p q i l =
      let may = walk.may_be_free p.body.parent r.joint in
      let c = each-some (walk.joint_item (take b raw.body) r.joint (b + 1) may) r.joint p.joints q.joints_ i no_joint l in
      let x = joint p.joints i in
      let t = joint-is (take b raw.body) (take i r.joint) (b + 1) may c.from x (item-ok (codes "joint") i (walk.joint (take b raw.body) (take i r.joint) (b + 1) may c.from) x c.is) in
      record {
        joint_ = t.joint_;
        owned = t.owned ∙ add-one b;
        alone = λ f. equal (length r.joint) 1 (second-of (p.body.parent == 0) (length r.joint == 1) (joint_free-may may c.from.kind x.kind t.kind_ f));
        rooted = λ f. equal p.body.parent 0 (first-of (p.body.parent == 0) (length r.joint == 1) (joint_free-may may c.from.kind x.kind t.kind_ f));
      }

  parted_geom : (b : ℕ) (r : RawBody) (p : BodyParts) → IsJudgedBody (take b raw.body) (drop b raw.body) (b + 1) r p → (i : ℕ) → i < length p.geoms
      → IsGeomOf b (geom p.geoms i)
  parted_geom b r p q i l =
      let c = each-some (walk.geom_item (take b raw.body) r.geom (b + 1) false) r.geom p.geoms q.geoms_ i no_geom l in
      let x = geom p.geoms i in
      let t = geom-is (take b raw.body) (take i r.geom) (b + 1) false c.from x (item-ok (codes "geom") i (walk.geom (take b raw.body) (take i r.geom) (b + 1) false c.from) x c.is) in
      record { geom_ = t.geom_; worn = t.worn ∙ add-one b; no_plane_ = no_plane c.from.kind x.kind t.kind_ }

  parted : (b : ℕ) → b < length parts → IsParted b (part parts b)
  parted b l =
      let c = each-some (walk.body_item raw.body) raw.body parts h b no_parts l in
      let p = part parts b in
      let q = judged_body b c.from p c.is in
      let same = each-length (walk.joint_item (take b raw.body) c.from.joint (b + 1) (walk.may_be_free p.body.parent c.from.joint)) 0 c.from.joint p.joints q.joints_ in
      record {
        body_ = q.body_;
        parent = omega (arith, parent-before (take b raw.body) (drop b raw.body) c.from.parent p.body.parent q.parent, length-take b raw.body);
        joint_ = λ i m. (parted_joint b c.from p q i m).joint_;
        owned = λ i m. (parted_joint b c.from p q i m).owned;
        alone = λ i m f. same ∙ (parted_joint b c.from p q i m).alone f;
        rooted = λ i m f. (parted_joint b c.from p q i m).rooted f;
        geom_ = λ i m. (parted_geom b c.from p q i m).geom_;
        worn = λ i m. (parted_geom b c.from p q i m).worn;
        no_plane = λ i m. (parted_geom b c.from p q i m).no_plane_;
      }

  are_parted : IsCounted raw → AreParted parts
  are_parted n = record {
    few = omega (arith, n.bodies, each-length (walk.body_item raw.body) 0 raw.body parts h);
    each = parted;
    some_dof = omega (arith, dofs, n.some);
    few_dofs = omega (arith, dofs, n.dofs);
  }

  -- ---- what names joints
  placed_types : (k : ℕ) (d : RawJoint) → k < length raws → joint_type (get_or raws k d).kind ≡ Some (joint (placed js) k).kind
  placed_types k d l =
      sym (map-at raw_type raws k d None l)
      ∙ ap (λ ts. get_or ts k None) types
      ∙ map-at made_type js k no_joint None (omega (arith, l, many))
      ∙ ap (λ z. Some z) (sym (placed-kind js k (omega (arith, l, many))))

  placed_many : length raws ≡ length (placed js)
  placed_many = many ∙ sym (length-placed js)

  scalar_ok : (text : List ℕ) (n : ℕ) → scalar_number raws text ≡ Ok n → IsScalar (placed js) n
  scalar_ok text n e = is-scalar raws (placed js) placed_types placed_many text n e

  module _ (all : List RawTerm) (xs : List Term) (t : walk.terms raws all ≡ Ok xs) where
    judged_term : (k : ℕ) (d : RawTerm) → k < length all → IsJudgedTerm raws (take k all) (get_or all k d) (term xs k)
    judged_term k d l =
        let from_zero : k ≡ 0 + k = omega arith in
        term-is raws (take k all) (get_or all k d) (term xs k)
        (item-ok (codes "joint") k (walk.term raws (take k all) (get_or all k d)) (term xs k) (ap (λ (m : ℕ). walk.term_item raws all m (get_or all k d)) from_zero ∙ each-is (walk.term_item raws all) 0 all xs t k d no_term l))

    term_count : length xs ≡ length all
    term_count = each-length (walk.term_item raws all) 0 all xs t

    term_scalar : (k : ℕ) → k < length xs → IsScalar (placed js) (term xs k).joint
    term_scalar k l =
        let m : k < length all = omega (arith, l, term_count) in
        let d = some_item all k m in
        let q = judged_term k d m in
        scalar_ok (get_or all k d).joint (term xs k).joint (term-fresh raws (take k all) (get_or all k d).joint (term xs k).joint q.number).0

    term_once : (i k : ℕ) → i < k → k < length xs → (term xs i).joint ≢ (term xs k).joint
    term_once i k l m e =
        let mk : k < length all = omega (arith, m, term_count) in
        let mi : i < length all = omega (arith, l, mk) in
        let d = some_item all k mk in
        let a = (get_or all i d).joint in
        let b = (get_or all k d).joint in
        let fi = term-fresh raws (take i all) a (term xs i).joint (judged_term i d mi).number in
        let fk = term-fresh raws (take k all) b (term xs k).joint (judged_term k d mk).number in
        let P : ℕ → Type 0 = λ n. scalar_number raws a ≡ Ok n in
        let yes : bytes_eq a b ≡ true = same-text raws (placed js) placed_types placed_many a b (term xs k).joint (subst P e fi.0) fk.0 in
        let inside : i < length (take k all) = omega (arith, l, mk, length-take-le k all (omega (arith, mk))) in
        let no : bytes_eq (get_or (take k all) i d).joint b ≡ false = any-false (λ t. bytes_eq t.joint b) (take k all) fk.1 i d inside in
        let back : bytes_eq (get_or (take k all) i d).joint b ≡ bytes_eq a b = ap (λ (t : RawTerm). bytes_eq t.joint b) (get_or-take k all i d l) in
        false≢true (sym no ∙ back ∙ yes)

    few_terms : IsCounted raw → length xs ≤ 64
    few_terms n =
        omega (
          arith,
          few_joints,
          dofs,
          n.dofs,
          length-placed js,
          few_apart (length xs) (length (placed js)) (λ i. (term xs i).joint - 1)
              (λ i l. omega (arith, (term_scalar i l).some, (term_scalar i l).there))
              (λ i k l m e. term_once i k l m (omega (arith, e, (term_scalar i (omega (arith, l, m))).some, (term_scalar k m).some))),
        )

    term_coef : (k : ℕ) → k < length xs → IsSmall (term xs k).coef (2 ^ 42)
    term_coef k l = let m : k < length all = omega (arith, l, term_count) in (judged_term k (some_item all k m) m).coef

  are_tendons : IsCounted raw → (xs : List Tendon) → walk.tendons raws raw.tendon ≡ Ok xs → AreTendons (placed js) xs
  are_tendons n xs t = record {
    few = omega (arith, n.tendons, each-length (walk.tendon_item raws raw.tendon) 0 raw.tendon xs t);
    each = λ k l. (let c = each-some (walk.tendon_item raws raw.tendon) raw.tendon xs t k no_tendon l in
        let x = tendon xs k in
        let q = tendon-is raws (take k raw.tendon) c.from x (item-ok (codes "tendon") k (walk.tendon raws (take k raw.tendon) c.from) x c.is) in
        record {
          some = omega (arith, term_count c.from.joint x.terms q.terms_, not_none (length c.from.joint) q.some);
          few = few_terms c.from.joint x.terms q.terms_ n;
          scalar = term_scalar c.from.joint x.terms q.terms_;
          coef = term_coef c.from.joint x.terms q.terms_;
          once = term_once c.from.joint x.terms q.terms_;
          range = q.range_;
          margin = q.margin;
          stiffness = q.stiffness;
          damping = q.damping;
          springlength = q.springlength;
          soft = q.soft;
        });
  }

  are_motors : IsCounted raw → (ts : List Tendon) → walk.tendons raws raw.tendon ≡ Ok ts → (xs : List Motor) → walk.motors raws raw.tendon raw.motor ≡ Ok xs → AreMotors (placed js) ts xs
  are_motors n ts t xs m = record {
    few = omega (arith, n.motors, each-length (walk.motor_item raws raw.tendon raw.motor) 0 raw.motor xs m);
    drive_ = λ k l. (let q = judged k l in drive-is raws (placed js) placed_types placed_many raw.tendon ts (each-length (walk.tendon_item raws raw.tendon) 0 raw.tendon ts t) q.joint_
        (λ i e. optional-is raws (placed js) placed_types placed_many q.text q.joint_ q.scalar i e) q.other (motor xs k).drive q.drive_);
    gear = λ k l. (judged k l).gear;
    ctrlrange = λ k l. (judged k l).ctrlrange;
  }
    where
      judged : (k : ℕ) → k < length xs → IsJudgedMotor raws raw.tendon (motor xs k)
      judged k l =
          let c = each-some (walk.motor_item raws raw.tendon raw.motor) raw.motor xs m k no_motor l in
          motor-is raws raw.tendon (take k raw.motor) c.from (motor xs k) (item-ok (codes "motor") k (walk.motor raws raw.tendon (take k raw.motor) c.from) (motor xs k) c.is)

  are_equalities : IsCounted raw → (xs : List Equality) → walk.equalities raws raw.equality ≡ Ok xs → AreEqualities (placed js) xs
  are_equalities n xs t = record {
    few = omega (arith, n.equalities, each-length (walk.equality_item raws raw.equality) 0 raw.equality xs t);
    each = λ k l. (let c = each-some (walk.equality_item raws raw.equality) raw.equality xs t k no_equality l in
        let x = equality xs k in
        let q = equality-is raws (take k raw.equality) c.from x (item-ok (codes "equality") k (walk.equality raws (take k raw.equality) c.from) x c.is) in
        record {
          joint1 = scalar_ok c.from.joint1 x.joint1 q.joint1;
          joint2 = second-is raws (placed js) placed_types placed_many x.joint1 c.from.joint2 x.joint2 q.joint2;
          c0 = q.c0;
          c1 = q.c1;
          soft = q.soft;
        });
  }

  -- ---- the world's geoms
  are_worldly : (world : List Geom) → walk.geoms raw.body 0 true raw.geom ≡ Ok world → AreWorldly world
  are_worldly world t = record {
    each = λ k l. (judged k l).geom_;
    worn = λ k l. (judged k l).worn;
  }
    where
      judged : (k : ℕ) → k < length world → WorldGeom (geom world k)
      judged k l =
          let c = each-some (walk.geom_item raw.body raw.geom 0 true) raw.geom world t k no_geom l in
          let q = geom-is raw.body (take k raw.geom) 0 true c.from (geom world k) (item-ok (codes "geom") k (walk.geom raw.body (take k raw.geom) 0 true c.from) (geom world k) c.is) in
          record { geom_ = q.geom_; worn = q.worn }

  few_geoms : IsCounted raw → (world : List Geom) → walk.geoms raw.body 0 true raw.geom ≡ Ok world → length (geoms_of world parts) ≤ 128
  unfolding geoms_of
  few_geoms n world t =
      omega (
        arith,
        n.geoms,
        geom_sum,
        each-length (walk.geom_item raw.body raw.geom 0 true) 0 raw.geom world t,
        length-append world (joined (length parts) (λ b. (part parts b).geoms)),
        joined-length (length parts) (λ b. (part parts b).geoms),
      )

-- ---- the whole
sound_of : (raw : RawModel) (f : First) (s : Naming) (w : Walked) → first raw ≡ Ok f → naming (all_joints raw.body) raw.tendon raw.motor raw.equality ≡ Ok s → record { first = f; naming = s; keyframe = raw.keyframe } ≡ w → IsSound w
unfolding first naming
sound_of raw f s w f-is s-is e =
    chain (count.counts raw) _ f f-is (λ u u-is h1.
    chain (at_key (codes "format") (format raw.format)) _ f h1 (λ number number-is h2.
    chain (under (codes "option" ++ codes ".") (walk.option raw.option)) _ f h2 (λ settings settings-is h3.
    chain (walk.bodies raw.body) _ f h3 (λ parts parts-is h4.
    chain (walk.geoms raw.body 0 true raw.geom) _ f h4 (λ world world-is h5.
    chain (walk.tendons (all_joints raw.body) raw.tendon) _ s s-is (λ ts ts-is h6.
    chain (walk.motors (all_joints raw.body) raw.tendon raw.motor) _ s h6 (λ ms ms-is h7.
    chain (walk.equalities (all_joints raw.body) raw.equality) _ s h7 (λ es es-is h8.
    (let n = counted raw u u-is in
    let k = format-is raw.format number (at_key-ok (codes "format") (format raw.format) number number-is) in
    let o = option-is number raw.option settings (under-ok (codes "option" ++ codes ".") (walk.option raw.option) settings settings-is) in
    let p = are_parted raw parts parts-is n in
    let ef = ok-same _ f h5 in
    let es_ = ok-same _ s h8 in
    let whole = ap₂ (λ (x : First) (y : Naming). record { first = x; naming = y; keyframe = raw.keyframe }) ef es_ ∙ e in
    subst IsSound whole (record {
      options = o.of k.0 k.1;
      parts = p;
      world = are_worldly raw parts parts-is world world-is;
      few_geoms = few_geoms raw parts parts-is n world world-is;
      few_joints = omega (arith, few_joints raw parts parts-is, p.few_dofs);
      tendons = are_tendons raw parts parts-is n ts ts-is;
      motors = are_motors raw parts parts-is n ts ts-is ms ms-is;
      equalities = are_equalities raw parts parts-is n es es-is;
    }))))))))))

pub sound : (raw : RawModel) (w : Walked) → walked raw ≡ Ok w → IsSound w
unfolding walked
sound raw w h =
    chain (first raw) _ w h (λ f f-is h1.
    chain (naming (all_joints raw.body) raw.tendon raw.motor raw.equality) _ w h1 (λ s s-is h2.
    sound_of raw f s w f-is s-is (ok-same _ w h2)))
