-- A state whose velocities, lengths, angles and quaternions are the new ones is the new state, and fits its model.
use Rattle.std.proofs.Common.{◌≡◌, ◌⊎◌, inl, inr, ℕ, zero, suc, ◌+◌, ◌-◌, ◌^◌, ◌<◌, ◌≤◌, nat_lt, Bool, true, false, cond, ℤ, pos, List, [], ◌∷◌, ◌++◌, length, slice_index_or, refl, sym, ap, ap₂, ◌∙◌, subst, arith, unsigned_abs}
use Rattle.std.proofs.lemmas.Bool.{cases_lt, cond-true, cond-false, lt-ltb, le-ltb}
use Rattle.std.proofs.lemmas.List.{ext_get_or, get_or_append_left, get_or-append_right}
use Rattle.fx_whole.specs.Joined.{joined}
use Rattle.fx_whole.specs.Sums.{sum_ℕ_to}
use Rattle.fx_whole.proofs.JoinedLaws.{joined-none, joined-more, joined-length}
use Rattle.fx_whole.specs.Entries.{below}
use Rattle.fx_whole.proofs.EntryLaws.{below-is}
use Rattle.fx_whole.proofs.SumLaws.{sum_ℕ_to-more, sum_ℕ_to-le, sum_ℕ_to-const, sum_ℕ_to-ext}
use Rattle.fx_num.specs.declared.number.Number.{Number}
use Rattle.fx_vec.specs.Quaternions.{Quaternion, WithinQuaternion}
use Rattle.mj_types.specs.declared.model.Model.{Model}
use Rattle.mj_types.specs.declared.parts.Joint.{Joint}
use Rattle.mj_types.specs.declared.parts.JointKind.{JointKind}
use Rattle.mj_types.specs.declared.parts.JointKind.TheVariants as joint_kind
use Rattle.mj_types.specs.declared.state.State.{State}
use Rattle.mj_types.specs.Lawful.{AreJoints, ArePositions, AreVelocities, position_limit}
use Rattle.mj_types.specs.Parts.{plain, joint, number_at, position_count}
use Rattle.mj_types.specs.States.{Fits}
use Rattle.mj_euler.specs.Advance.{after, velocity, velocities, place_count, has_quaternion, quaternion_from, part_of, turned, position, numbers, next_positions, next_state}
use Rattle.mj_euler.specs.Written.{AreMoved, IsTurned, AreAllMoved, AreAllTurned, StateRoom}
use Rattle.mj_euler.proofs.Places.{counts, whole, turning_limit, has_rest}

-- ---- lists
-- a list that holds each part of joined lists at its place, after the lengths of the parts before it
reads-joined : {A : Type 0} (d : A) (n : ℕ) (f : ℕ → List A) (xs : List A)
    → ((j i : ℕ) → j < n → i < length (f j) → slice_index_or xs (sum_ℕ_to j (λ k. length (f k)) + i) d ≡ slice_index_or (f j) i d)
    → (p : ℕ) → p < sum_ℕ_to n (λ k. length (f k)) → slice_index_or xs p d ≡ slice_index_or (joined n f) p d
reads-joined d zero f xs h p l = absurd (omega arith)
reads-joined d (suc n) f xs h p l = elim (cases_lt p (sum_ℕ_to n (λ k. length (f k)))) [
  | inl q ↦ reads-joined d n f xs (λ j i a b. h j i (omega arith) b) p q
      ∙ sym (get_or_append_left (joined n f) (f n) d p (omega (arith, joined-length n f)))
      ∙ sym (ap (λ ys. slice_index_or ys p d) (more n f))
  | inr q ↦ ap (λ k. slice_index_or xs k d) (there n p f q)
      ∙ h n (p - sum_ℕ_to n (λ k. length (f k))) (omega arith) (omega arith)
      ∙ sym (get_or-append_right (joined n f) (f n) (sum_ℕ_to n (λ k. length (f k))) p d (joined-length n f) q)
      ∙ sym (ap (λ ys. slice_index_or ys p d) (more n f))
]
  where
    more : {A : Type 0} (n : ℕ) (f : ℕ → List A) → joined (suc n) f ≡ joined n f ++ f n
    more n f = ap (λ k. joined k f) (omega arith) ∙ joined-more n f

    there : {A : Type 0} (n p : ℕ) (f : ℕ → List A) → sum_ℕ_to n (λ k. length (f k)) ≤ p → p ≡ sum_ℕ_to n (λ k. length (f k)) + (p - sum_ℕ_to n (λ k. length (f k)))
    there n p f q = omega arith

-- ---- numbers as a list
abbrev pub N : Type 0
N = Number (Unit {0}) 32

number-is : (x : N) (n : ℤ) → x.mid ≡ n → x ≡ plain n
number-is x n e = ap (λ (k : ℤ). plain {F = 32} k) e

abbrev pub part : (ℕ → ℤ) → ℕ → List N
part f i = plain (f i) ∷ []

numbers-before : (j : ℕ) (f : ℕ → ℤ) → sum_ℕ_to j (λ k. length (part f k)) ≡ j
numbers-before j f = sum_ℕ_to-const j 1 ∙ omega arith

numbers-length : (n : ℕ) (f : ℕ → ℤ) → length (numbers {F = 32} n f) ≡ n
numbers-length n f = joined-length n (part f) ∙ numbers-before n f

-- a list that holds f below its length
pub numbers-are : (n : ℕ) (f : ℕ → ℤ) (xs : List N) → length xs ≡ n → ((i : ℕ) → i < n → number_at xs i ≡ f i) → xs ≡ numbers n f
numbers-are n f xs many each =
    ext_get_or (plain (pos 0)) xs (numbers n f) (many ∙ sym (numbers-length n f))
    (λ i h. reads-joined (plain (pos 0)) n (part f) xs read i (omega (arith, many, numbers-before n f)))
  where
    read : (j i : ℕ) → j < n → i < length (part f j) → slice_index_or xs (sum_ℕ_to j (λ k. length (part f k)) + i) (plain (pos 0)) ≡ slice_index_or (part f j) i (plain (pos 0))
    read j zero h l = ap (λ (k : ℕ). slice_index_or xs k (plain (pos 0))) (omega (arith, numbers-before j f)) ∙ number-is (slice_index_or xs j (plain (pos 0))) (f j) (each j h)
    read j (suc i) h l = absurd (omega arith)

-- what a list of numbers holds
pub numbers-at : (n : ℕ) (f : ℕ → ℤ) (i : ℕ) → i < n → number_at (numbers {F = 32} n f) i ≡ f i
numbers-at zero f i h = absurd (omega arith)
numbers-at (suc n) f i h = elim (cases_lt i n) [
  | inl p ↦ ap (λ (xs : List N). number_at xs i) (more n f) ∙ ap (λ (x : N). x.mid) (get_or_append_left (numbers n f) (part f n) (plain (pos 0)) i (omega (arith, numbers-length n f))) ∙ numbers-at n f i p
  | inr p ↦ ap (λ (xs : List N). number_at xs i) (more n f) ∙ ap (λ (x : N). x.mid) (get_or-append_right (numbers n f) (part f n) n i (plain (pos 0)) (numbers-length n f) p)
      ∙ ap (λ (k : ℕ). number_at (part f n) k) (rest i n p h) ∙ ap f (same i n p h)
]
  where
    more : (n : ℕ) (f : ℕ → ℤ) → numbers {F = 32} (suc n) f ≡ numbers n f ++ part f n
    more n f = ap (λ (k : ℕ). numbers {F = 32} k f) (omega arith) ∙ joined-more n (part f)

    rest : (i n : ℕ) → n ≤ i → i < suc n → i - n ≡ 0
    rest i n p h = omega arith

    same : (i n : ℕ) → n ≤ i → i < suc n → n ≡ i
    same i n p h = omega arith

-- ---- the new state
part-of : (q : List N) (p t : ℕ) → t < 4 → number_at q (p + t) ≡ part_of (quaternion_from q p) t
part-of q p zero h = ap (number_at q) (omega arith)
part-of q p (suc zero) h = refl
part-of q p (suc (suc zero)) h = refl
part-of q p (suc (suc (suc zero))) h = refl
part-of q p (suc (suc (suc (suc t)))) h = absurd (omega arith)

part-small : (x : Quaternion) (t limit : ℕ) → WithinQuaternion x limit → unsigned_abs (part_of x t) ≤ limit
part-small x zero limit h = h.w
part-small x (suc zero) limit h = h.x
part-small x (suc (suc zero)) limit h = h.y
part-small x (suc (suc (suc t))) limit h = h.z

module _ (m : Model) (s : State) (v : ℕ → ℤ) (q : List N) (moved : AreAllMoved m s v (length m.joints) q) (turns : AreAllTurned m s v (length m.joints) q) where
  abbrev at : ℕ → Joint
  at j = joint m.joints j

  -- a position of a quaternion
  in-quaternion : (j i : ℕ) → j < length m.joints → place_count (at j).kind ≤ i → i < position_count (at j).kind
      → number_at q ((at j).qadr + i) ≡ part_of (turned m s v (at j)) (i - place_count (at j).kind)
  in-quaternion j i h l r =
      let k = has_rest (at j).kind i l r in
      ap (number_at q) (omega arith)
      ∙ part-of q ((at j).qadr + place_count (at j).kind) (i - place_count (at j).kind) (omega (arith, (whole (at j).kind k).0))
      ∙ ap (λ (x : Quaternion). part_of x (i - place_count (at j).kind)) ((turns.each j h).value k)

  is-position : (j i : ℕ) → j < length m.joints → i < position_count (at j).kind → number_at q ((at j).qadr + i) ≡ position m s v (at j) i
  is-position j i h l = elim (cases_lt i (place_count (at j).kind)) [
    | inl p ↦ (moved.each j h).value i p ∙ sym (cond-true (nat_lt i (place_count (at j).kind)) _ _ (lt-ltb i (place_count (at j).kind) p))
    | inr p ↦ in-quaternion j i h p l ∙ sym (cond-false (nat_lt i (place_count (at j).kind)) _ _ (le-ltb i (place_count (at j).kind) p))
  ]

  is-small : (j i : ℕ) → j < length m.joints → i < position_count (at j).kind → unsigned_abs (number_at q ((at j).qadr + i)) ≤ position_limit (at j).kind i
  is-small j i h l = elim (cases_lt i (place_count (at j).kind)) [
    | inl p ↦ (moved.each j h).small i p
    | inr p ↦ (
        let k = has_rest (at j).kind i p l in
        let t : i - place_count (at j).kind < 4 = omega (arith, (whole (at j).kind k).0) in
        let e : number_at q ((at j).qadr + i) ≡ part_of (quaternion_from q ((at j).qadr + place_count (at j).kind)) (i - place_count (at j).kind) =
        ap (number_at q) (omega arith) ∙ part-of q ((at j).qadr + place_count (at j).kind) (i - place_count (at j).kind) t in
        let limit : position_limit (at j).kind i ≡ 2 ^ 32 = ap (position_limit (at j).kind) (omega arith) ∙ turning_limit (at j).kind k (i - place_count (at j).kind) t in
        rw (e, limit) (part-small (quaternion_from q ((at j).qadr + place_count (at j).kind)) (i - place_count (at j).kind) (2 ^ 32) ((turns.each j h).small k)))
  ]

  pub fit-positions : length q ≡ m.nq → ArePositions m.joints m.nq q
  fit-positions many = record { many = many; each = is-small }

  -- the list of a joint's new positions
  abbrev joint-list : ℕ → List N
  joint-list j = numbers (position_count (at j).kind) (position m s v (at j))

  list-length : (j : ℕ) → length (joint-list j) ≡ position_count (at j).kind
  list-length j = numbers-length (position_count (at j).kind) (position m s v (at j))

  before : (n : ℕ) → sum_ℕ_to n (λ k. length (joint-list k)) ≡ sum_ℕ_to n (λ k. position_count (at k).kind)
  before n = sum_ℕ_to-ext n (λ k. length (joint-list k)) (λ k. position_count (at k).kind) (λ k h. list-length k)

  pub are-positions : length q ≡ m.nq → q ≡ next_positions m s v
  unfolding next_positions
  are-positions many =
      ext_get_or (plain (pos 0)) q (joined (length m.joints) joint-list) (many ∙ m.of_joints.positions ∙ sym (before (length m.joints)) ∙ sym (joined-length (length m.joints) joint-list))
      (λ p h. reads-joined (plain (pos 0)) (length m.joints) joint-list q read p (omega (arith, many, m.of_joints.positions, before (length m.joints))))
    where
      read : (j i : ℕ) → j < length m.joints → i < length (joint-list j) → slice_index_or q (sum_ℕ_to j (λ k. length (joint-list k)) + i) (plain (pos 0)) ≡ slice_index_or (joint-list j) i (plain (pos 0))
      read j i h l =
          let inside : i < position_count (at j).kind = omega (arith, list-length j) in
          ap (λ (k : ℕ). slice_index_or q k (plain (pos 0))) (omega (arith, before j, m.of_joints.qadr j h))
          ∙ number-is (slice_index_or q ((at j).qadr + i) (plain (pos 0))) _ (is-position j i h inside ∙ sym (numbers-at (position_count (at j).kind) (position m s v (at j)) i inside))
