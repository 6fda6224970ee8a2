-- The limits that an accepted key keeps.
use Rattle.std.proofs.Common.{◌≡◌, ℕ, ◌^◌, ◌<◌, ◌≤◌, ◌==◌, ◌%◌, Bool, true, false, cond, IsTrue, ◌&&◌, ◌||◌, List, length, Option, Some, None, Ok, Err, ℤ, pos, ◌≤ℤ◌, ◌<ℤ◌, unsigned_abs, refl, sym, ap, subst, ◌∙◌, arith, inl, inr}
use Rattle.std.specs.Prelude.{int_le, int_lt, nat_le}
use Rattle.std.specs.Ordering.{int_eq}
use Rattle.std.proofs.lemmas.Int.{ints}
use Rattle.std.proofs.lemmas.Bool.{cases_Bool}
use Rattle.std.proofs.lemmas.Bool.Decides.{nat_tests}
use Rattle.std.specs.Int.Signed.{le_z_yes}
use Rattle.fx_vec.specs.Sizes.{Within}
use Rattle.fx_vec.specs.Views.{mids}
use Rattle.fx_vec.specs.Quaternions.{Quaternion, quaternion, WithinQuaternion}
use Rattle.fx_vec.specs.Vectors.{Triple}
use Rattle.fx_vec.specs.declared.vector.Vector3.{Vector3}
use Rattle.fx_vec.specs.declared.vector.Q4.{Q4}
use Rattle.mj_quat.specs.Rotation.{quaternion_length, vector_length, unit_quaternion, unit_vector}
use Rattle.fx_num.proofs.RatioLaws.{over-le}
use Rattle.mj_quat.proofs.LengthLaws.{quaternion_covered, vector_covered}
use Rattle.mj_types.specs.declared.parts.Range.{Range}
use Rattle.mj_types.specs.declared.parts.Soft.{Soft}
use Rattle.mj_types.specs.declared.parts.JointKind.{JointKind}
use Rattle.mj_types.specs.declared.parts.JointKind.TheVariants as joint_kind
use Rattle.mj_types.specs.declared.parts.GeomKind.{GeomKind}
use Rattle.mj_types.specs.declared.parts.GeomKind.TheVariants as geom_kind
use Rattle.mj_types.specs.declared.status.ModelCode.TheVariants as code
use Rattle.mj_types.specs.Parts.{plain}
use Rattle.mj_types.specs.Lawful.{IsUpTo, IsSmall, IsRange, HasRange, IsImpedance, IsSoft, is_free, is_plane}
use Rattle.mj_form.specs.Reading.{at_key}
use Rattle.mj_judge.specs.Judged.{unless}
use Rattle.mj_judge.specs.Numbers.{Fix, entry, is_between, is_small, between, small, whole}
use Rattle.mj_judge.specs.Vectors.{vector_of, three, are_small, vector, turned, is_long, rotation, direction, axis, are_between, diagonal}
use Rattle.mj_judge.specs.Softness.{reference, reference_of, is_positive, is_direct, impedance, impedance_of, is_width, is_power, power_of, clamped, soft, soft_at}
use Rattle.mj_judge.specs.declared.softness.Solref.{Solref}
use Rattle.mj_judge.specs.declared.softness.Solimp.{Solimp}
use Rattle.mj_judge.specs.Choices.{range, range_of, condim, joint_type, joint_kind_of, alone, known_joint, geom_kind_of, geom_type, known_geom, grounded, size, sized, given, are_sizes, is_size_at, used, extent_of, format}
use Rattle.mj_judge.specs.declared.choices.Extent.{Extent}
use Rattle.mj_valid.proofs.Chains.{chain, at_key-ok, limited-good, limited-is, unless-good}

-- ---- numbers
pub first-of : (a b : Bool) → (a && b) ≡ true → a ≡ true
first-of true b h = refl
first-of false b h = absurd cc

pub second-of : (a b : Bool) → (a && b) ≡ true → b ≡ true
second-of true b h = h
second-of false b h = absurd cc

pub at-least : (a b : ℤ) → int_le a b ≡ true → a ≤ℤ b
at-least a b h = grind (arith, ints)

pub at-most : (a b : ℕ) → nat_le a b ≡ true → a ≤ b
at-most a b h = grind arith

pub between-is : {F : ℕ} → (least most : ℤ) (n x : Fix F) → between least most n ≡ Ok x → (least ≤ℤ x.mid) × (x.mid ≤ℤ most)
unfolding between
between-is {F} least most n x h =
    let good = limited-good (is_between least most n.mid) n x h in
    let P : Fix F → Type 0 = λ y. (least ≤ℤ y.mid) × (y.mid ≤ℤ most) in
    subst P (limited-is (is_between least most n.mid) n x h)
    (at-least least n.mid (first-of (int_le least n.mid) (int_le n.mid most) good), at-least n.mid most (second-of (int_le least n.mid) (int_le n.mid most) good))

pub up_to : {F : ℕ} → (key : List ℕ) (limit : ℕ) (n x : Fix F) → at_key key (between (pos 0) (pos limit) n) ≡ Ok x → IsUpTo x limit
up_to key limit n x h = let b = between-is (pos 0) (pos limit) n x (at_key-ok key _ x h) in record { least = b.0; most = b.1 }

pub small-is : {F : ℕ} → (limit : ℕ) (n x : Fix F) → small limit n ≡ Ok x → IsSmall x limit
unfolding small
small-is {F} limit n x h =
    let P : Fix F → Type 0 = λ y. IsSmall y limit in
    subst P (limited-is (is_small limit n.mid) n x h) (at-most (unsigned_abs n.mid) limit (limited-good (is_small limit n.mid) n x h))

pub up_to_size : {F : ℕ} → (key : List ℕ) (limit : ℕ) (n x : Fix F) → at_key key (small limit n) ≡ Ok x → IsSmall x limit
up_to_size key limit n x h = small-is limit n x (at_key-ok key _ x h)

pub whole-is : (least most : ℕ) (n : ℤ) (x : ℕ) → whole least most n ≡ Ok x → (least ≤ x) × (x ≤ most)
unfolding whole
whole-is least most n x h =
    let good = limited-good (is_between (pos least) (pos most) n) (unsigned_abs n) x h in
    let low = at-least (pos least) n (first-of (int_le (pos least) n) (int_le n (pos most)) good) in
    let high = at-least n (pos most) (second-of (int_le (pos least) n) (int_le n (pos most)) good) in
    let e : unsigned_abs n ≡ x = limited-is (is_between (pos least) (pos most) n) (unsigned_abs n) x h in
    (omega (arith, ints, low, high, e), omega (arith, ints, low, high, e))

-- ---- vectors
within : {F : ℕ} → (limit : ℕ) (v : Vector3 (Unit {0}) F) → are_small limit v ≡ true → Within (mids v) limit
within limit v h =
    let rest = second-of (is_small limit v.x.mid) (is_small limit v.y.mid && is_small limit v.z.mid) h in
    record {
      x = at-most (unsigned_abs v.x.mid) limit (first-of (is_small limit v.x.mid) (is_small limit v.y.mid && is_small limit v.z.mid) h);
      y = at-most (unsigned_abs v.y.mid) limit (first-of (is_small limit v.y.mid) (is_small limit v.z.mid) rest);
      z = at-most (unsigned_abs v.z.mid) limit (second-of (is_small limit v.y.mid) (is_small limit v.z.mid) rest);
    }

pub vector-is : (limit : ℕ) (xs : List (Fix 32)) (v : Vector3 (Unit {0}) 32) → vector limit xs ≡ Ok v → Within (mids v) limit
unfolding vector
vector-is limit xs v h =
    let P : Vector3 (Unit {0}) 32 → Type 0 = λ u. Within (mids u) limit in
    subst P (limited-is (are_small limit (three xs)) (three xs) v h) (within limit (three xs) (limited-good (are_small limit (three xs)) (three xs) v h))

pub vector-at : (key : List ℕ) (limit : ℕ) (xs : List (Fix 32)) (v : Vector3 (Unit {0}) 32) → at_key key (vector limit xs) ≡ Ok v → Within (mids v) limit
vector-at key limit xs v h = vector-is limit xs v (at_key-ok key _ v h)

unit_quaternion-size : (q : Quaternion) → WithinQuaternion (unit_quaternion q) (2 ^ 32)
unit_quaternion-size q =
    let c = quaternion_covered q in
    record { w = over-le q.w (quaternion_length q) c.w; x = over-le q.x (quaternion_length q) c.x; y = over-le q.y (quaternion_length q) c.y; z = over-le q.z (quaternion_length q) c.z }

unit_vector-size : (v : Triple ℤ) → Within (unit_vector v) (2 ^ 32)
unit_vector-size v =
    let c = vector_covered v in
    record { x = over-le v.x (vector_length v) c.x; y = over-le v.y (vector_length v) c.y; z = over-le v.z (vector_length v) c.z }

chosen : {A E : Type 0} (good : Bool) (n x : A) (e : E) → (cond good (Ok n) (Err e)) ≡ Ok x → n ≡ x
chosen true n x e h = cc
chosen false n x e h = absurd cc

taken : {A E : Type 0} (good : Bool) (n x : A) (e : E) → (cond good (Ok n) (Err e)) ≡ Ok x → good ≡ true
taken true n x e h = refl
taken false n x e h = absurd cc

pub turned-is : (p q : Q4) → turned p ≡ Ok q → WithinQuaternion (quaternion q) (2 ^ 32)
unfolding turned
turned-is p q h =
    let P : Q4 → Type 0 = λ r. WithinQuaternion (quaternion r) (2 ^ 32) in
    subst P (chosen (is_long p) _ q _ h) (unit_quaternion-size (quaternion p))

pub rotation-at : (key : List ℕ) (xs : List (Fix 32)) (q : Q4) → at_key key (rotation xs) ≡ Ok q → WithinQuaternion (quaternion q) (2 ^ 32)
unfolding rotation
rotation-at key xs q h = chain _ _ q (at_key-ok key _ q h) (λ p _ t. turned-is p q t)

unit_is : (u v : Vector3 (Unit {0}) 32) → direction u ≡ Ok v → Within (mids v) (2 ^ 32)
unfolding direction
unit_is u v t =
    let P : Vector3 (Unit {0}) 32 → Type 0 = λ w. Within (mids w) (2 ^ 32) in
    subst P (chosen (int_le (pos (2 ^ 22)) (vector_length (mids u))) (vector_of (unit_vector (mids u))) v code.NotUnit t) (unit_vector-size (mids u))

pub axis-at : (key : List ℕ) (xs : List (Fix 32)) (v : Vector3 (Unit {0}) 32) → at_key key (axis xs) ≡ Ok v → Within (mids v) (2 ^ 32)
unfolding axis
axis-at key xs v h = chain (vector (2 ^ 42) xs) direction v (at_key-ok key (axis xs) v h) (λ u _ t. unit_is u v t)

pub record IsDiagonal (v : Vector3 (Unit {0}) 40) : Type 0 where
  pub x : IsUpTo v.x (2 ^ 53)
  pub y : IsUpTo v.y (2 ^ 53)
  pub z : IsUpTo v.z (2 ^ 53)

between-up : {F : ℕ} → (limit : ℕ) (x : Fix F) → is_between (pos 0) (pos limit) x.mid ≡ true → IsUpTo x limit
between-up limit x h = record { least = at-least (pos 0) x.mid (first-of (int_le (pos 0) x.mid) (int_le x.mid (pos limit)) h); most = at-least x.mid (pos limit) (second-of (int_le (pos 0) x.mid) (int_le x.mid (pos limit)) h) }

pub diagonal-at : (key : List ℕ) (xs : List (Fix 40)) (v : Vector3 (Unit {0}) 40) → at_key key (diagonal xs) ≡ Ok v → IsDiagonal v
unfolding diagonal
diagonal-at key xs v h =
    let k = at_key-ok key _ v h in
    let u : Vector3 (Unit {0}) 40 = three xs in
    let B : Fix 40 → Bool = λ x. is_between (pos 0) (pos (2 ^ 53)) x.mid in
    let good : (B u.x && (B u.y && B u.z)) ≡ true = limited-good (are_between (pos 0) (pos (2 ^ 53)) u) u v k in
    let rest = second-of (B u.x) (B u.y && B u.z) good in
    subst IsDiagonal (limited-is (are_between (pos 0) (pos (2 ^ 53)) u) u v k)
    (record { x = between-up (2 ^ 53) u.x (first-of (B u.x) (B u.y && B u.z) good); y = between-up (2 ^ 53) u.y (first-of (B u.y) (B u.z) rest); z = between-up (2 ^ 53) u.z (second-of (B u.y) (B u.z) rest) })

-- ---- ranges
pub range-at : (key : List ℕ) (limit : ℕ) (o : Option (List (Fix 32))) (r : Option Range) → at_key key (range limit o) ≡ Ok r → HasRange limit r
unfolding range
range-at key limit o r h = by_cases o (at_key-ok key _ r h)
  where
    ordered : (q : Range) (x : Unit {0}) → (is_small limit q.least.mid && is_small limit q.greatest.mid) ≡ true
        → (cond (int_lt q.least.mid q.greatest.mid) (Ok (Some q)) (Err code.BadRange)) ≡ Ok r → HasRange limit r
    ordered q x good t =
        let p : IsRange limit q = record {
          low = at-most (unsigned_abs q.least.mid) limit (first-of (is_small limit q.least.mid) (is_small limit q.greatest.mid) good);
          high = at-most (unsigned_abs q.greatest.mid) limit (second-of (is_small limit q.least.mid) (is_small limit q.greatest.mid) good);
          order = below q t;
        } in
        let e : Some q ≡ r = chosen (int_lt q.least.mid q.greatest.mid) (Some q) r code.BadRange t in
        record { within = λ s f. (let g : q ≡ s = cc in subst (IsRange limit) g p) }
      where
        below : (q : Range) → (cond (int_lt q.least.mid q.greatest.mid) (Ok (Some q)) (Err code.BadRange)) ≡ Ok r → q.least.mid <ℤ q.greatest.mid
        below q t = elim (cases_Bool (int_lt q.least.mid q.greatest.mid)) [
          | inl less ↦ grind (arith, ints)
          | inr more ↦ (let u : Err code.BadRange ≡ Ok r = sym (rw more refl) ∙ t in absurd cc)
        ]

    by_cases : (o : Option (List (Fix 32))) → range limit o ≡ Ok r → HasRange limit r
    by_cases None t = record { within = λ s f. absurd cc }
    by_cases (Some xs) t = chain _ _ r t (λ x good u. ordered (range_of xs) x (unless-good _ code.LimitPassed x good) u)

-- ---- softness
pub reference-is : (xs : List (Fix 32)) (r : Solref) → reference xs ≡ Ok r → (is_positive r || is_direct r) ≡ true
unfolding reference
reference-is xs r h =
    let P : Solref → Type 0 = λ s. (is_positive s || is_direct s) ≡ true in
    let good = taken (is_positive (reference_of xs) || is_direct (reference_of xs)) (reference_of xs) r code.BadSolref h in
    subst P (chosen (is_positive (reference_of xs) || is_direct (reference_of xs)) (reference_of xs) r code.BadSolref h) good

clamped-is : (x : Fix 32) → IsImpedance (clamped x)
clamped-is x =
    elim (cases_Bool (int_lt x.mid (pos 429497))) [
      | inl less ↦ rw less (record { least = le_z_yes tt; most = le_z_yes tt })
      | inr more ↦ elim (cases_Bool (int_lt (pos 4294537799) x.mid)) [
        | inl past ↦ rw (more, past) (record { least = le_z_yes tt; most = le_z_yes tt })
        | inr near ↦ rw (more, near) (record { least = grind (arith, ints); most = grind (arith, ints) })
      ]
    ]

pub record IsSolimp (i : Solimp) : Type 0 where
  pub dmin : IsImpedance i.dmin
  pub dmax : IsImpedance i.dmax
  pub midpoint : IsImpedance i.mid
  pub some_width : pos 1 ≤ℤ i.width.mid
  pub width : i.width.mid ≤ℤ pos (2 ^ 42)
  pub some_power : 1 ≤ i.power
  pub power : i.power ≤ 5

pub impedance-is : (xs : List (Fix 32)) (i : Solimp) → impedance xs ≡ Ok i → IsSolimp i
unfolding impedance
impedance-is xs i h =
    let n = (entry xs 4).mid in
    let w = (entry xs 2).mid in
    let good = taken (is_width w && is_power n) (impedance_of xs) i code.BadSolimp h in
    let wide = first-of (is_width w) (is_power n) good in
    let powered = second-of (is_width w) (is_power n) good in
    let whole_ = second-of (int_le (pos 0) n) (unsigned_abs n % 2 ^ 32 == 0 && (nat_le 1 (power_of n) && nat_le (power_of n) 5)) powered in
    let few = second-of (unsigned_abs n % 2 ^ 32 == 0) (nat_le 1 (power_of n) && nat_le (power_of n) 5) whole_ in
    subst IsSolimp (chosen (is_width w && is_power n) (impedance_of xs) i code.BadSolimp h) (record {
      dmin = clamped-is (entry xs 0);
      dmax = clamped-is (entry xs 1);
      midpoint = clamped-is (entry xs 3);
      some_width = at-least (pos 1) w (first-of (int_le (pos 1) w) (int_le w (pos (2 ^ 42))) wide);
      width = at-least w (pos (2 ^ 42)) (second-of (int_le (pos 1) w) (int_le w (pos (2 ^ 42))) wide);
      some_power = at-most 1 (power_of n) (first-of (nat_le 1 (power_of n)) (nat_le (power_of n) 5) few);
      power = at-most (power_of n) 5 (second-of (nat_le 1 (power_of n)) (nat_le (power_of n) 5) few);
    })

pub soft-at : (first second : List ℕ) (xs ys : List (Fix 32)) (s : Soft) → soft_at first xs second ys ≡ Ok s → IsSoft s
unfolding soft_at
soft-at first second xs ys s h =
    chain (at_key first (reference xs)) _ s h (λ r r-is h1.
    chain (at_key second (impedance ys)) _ s h1 (λ i i-is h2.
    (let p = impedance-is ys i (at_key-ok second (impedance ys) i i-is) in
    let q = reference-is xs r (at_key-ok first (reference xs) r r-is) in
    let e : soft r i ≡ s = cc in
    subst IsSoft e (record { reference = q; dmin = p.dmin; dmax = p.dmax; midpoint = p.midpoint; some_width = p.some_width; width = p.width; some_power = p.some_power; power = p.power }))))

-- ---- choices
pub condim-is : (n : ℤ) (x : ℕ) → condim n ≡ Ok x → IsTrue (x == 1 || x == 3)
unfolding condim
condim-is n x h =
    let good = taken (int_eq n (pos 1) || int_eq n (pos 3)) (unsigned_abs n) x code.BadRange h in
    let e : unsigned_abs n ≡ x = chosen (int_eq n (pos 1) || int_eq n (pos 3)) (unsigned_abs n) x code.BadRange h in
    grind (arith, ints, nat_tests)

pub format-is : (n : ℤ) (x : ℕ) → format n ≡ Ok x → (1 ≤ x) × (x ≤ 2)
unfolding format
format-is n x h =
    let good = taken (is_between (pos 1) (pos 2) n) (unsigned_abs n) x code.BadRange h in
    let e : unsigned_abs n ≡ x = chosen (is_between (pos 1) (pos 2) n) (unsigned_abs n) x code.BadRange h in
    let low = at-least (pos 1) n (first-of (int_le (pos 1) n) (int_le n (pos 2)) good) in
    let high = at-least n (pos 2) (second-of (int_le (pos 1) n) (int_le n (pos 2)) good) in
    (omega (arith, ints, low, high, e), omega (arith, ints, low, high, e))

pub alone-is : (may : Bool) (k kind : JointKind) → alone may k ≡ Ok kind → k ≡ kind
alone-is true joint_kind.Free kind h = cc
alone-is false joint_kind.Free kind h = absurd cc
alone-is may joint_kind.Ball kind h = cc
alone-is may joint_kind.Hinge kind h = cc
alone-is may joint_kind.Slide kind h = cc

alone-free : (may : Bool) (k : JointKind) → alone may k ≡ Ok k → IsTrue (is_free k) → may ≡ true
alone-free true joint_kind.Free h f = refl
alone-free false joint_kind.Free h f = absurd cc
alone-free may joint_kind.Ball h f = absurd cc
alone-free may joint_kind.Hinge h f = absurd cc
alone-free may joint_kind.Slide h f = absurd cc

-- a joint's type is its text's
pub joint_type-is : (may : Bool) (text : List ℕ) (kind : JointKind) → joint_kind_of may text ≡ Ok kind → joint_type text ≡ Some kind
unfolding joint_kind_of
joint_type-is may text kind h = known (joint_type text) h
  where
    known : (o : Option JointKind) → known_joint may o ≡ Ok kind → o ≡ Some kind
    known None t = absurd cc
    known (Some k) t = ap (λ z. Some z) (alone-is may k kind t)

pub joint_free-may : (may : Bool) (text : List ℕ) (kind : JointKind) → joint_kind_of may text ≡ Ok kind → IsTrue (is_free kind) → may ≡ true
unfolding joint_kind_of
joint_free-may may text kind h f = known (joint_type text) h
  where
    known : (o : Option JointKind) → known_joint may o ≡ Ok kind → may ≡ true
    known None t = absurd cc
    known (Some k) t = (let e = alone-is may k kind t in let P : JointKind → Type 0 = λ z. alone may z ≡ Ok kind in alone-free may kind (subst P e t) f)

grounded-is : (k kind : GeomKind) → grounded false k ≡ Ok kind → is_plane kind ≡ false
grounded-is geom_kind.Plane kind h = absurd cc
grounded-is geom_kind.Sphere kind h = let e : geom_kind.Sphere ≡ kind = cc in ap is_plane (sym e)
grounded-is geom_kind.Capsule kind h = let e : geom_kind.Capsule ≡ kind = cc in ap is_plane (sym e)

pub no_plane : (text : List ℕ) (kind : GeomKind) → geom_kind_of false text ≡ Ok kind → is_plane kind ≡ false
unfolding geom_kind_of
no_plane text kind h = known (geom_type text) h
  where
    known : (o : Option GeomKind) → known_geom false o ≡ Ok kind → is_plane kind ≡ false
    known None t = absurd cc
    known (Some k) t = grounded-is k kind t

-- ---- sizes of geoms
pub record IsExtent (x : Extent) : Type 0 where
  pub radius : IsUpTo x.radius (2 ^ 42)
  pub half : IsUpTo x.half (2 ^ 42)

size_up : (xs : List (Fix 32)) (i : ℕ) → is_size_at xs i ≡ true → i < length xs → IsUpTo (entry xs i) (2 ^ 42)
size_up xs i h l =
    let n = (entry xs i).mid in
    let there : nat_le (length xs) i ≡ false = grind (arith, nat_tests) in
    let good : is_between (pos 1) (pos (2 ^ 42)) n ≡ true = rw there at h in
    let low = at-least (pos 1) n (first-of (int_le (pos 1) n) (int_le n (pos (2 ^ 42))) good) in
    record { least = grind (arith, ints); most = at-least n (pos (2 ^ 42)) (second-of (int_le (pos 1) n) (int_le n (pos (2 ^ 42))) good) }

none_up : IsUpTo {F = 32} (plain (pos 0)) (2 ^ 42)
none_up = record { least = le_z_yes tt; most = le_z_yes tt }

extent_is : (kind : GeomKind) (xs : List (Fix 32)) → are_sizes kind xs ≡ true → used kind ≤ length xs → IsExtent (extent_of kind xs)
extent_is geom_kind.Plane xs h l = record { radius = none_up; half = none_up }
extent_is geom_kind.Sphere xs h l = record { radius = size_up xs 0 h (omega arith); half = none_up }
extent_is geom_kind.Capsule xs h l = record { radius = size_up xs 0 (first-of (is_size_at xs 0) (is_size_at xs 1) h) (omega arith); half = size_up xs 1 (second-of (is_size_at xs 0) (is_size_at xs 1) h) (omega arith) }

pub size-is : (kind : GeomKind) (o : Option (List (Fix 32))) (x : Extent) → size kind o ≡ Ok x → IsExtent x
unfolding size sized
size-is kind o x h =
    let xs = given o in
    chain (unless (are_sizes kind xs) code.LimitPassed) _ x h (λ u good t.
    subst IsExtent (chosen (nat_le (used kind) (length xs)) (extent_of kind xs) x code.BadRange t)
    (extent_is kind xs (unless-good (are_sizes kind xs) code.LimitPassed u good) (at-most (used kind) (length xs) (taken (nat_le (used kind) (length xs)) (extent_of kind xs) x code.BadRange t))))
