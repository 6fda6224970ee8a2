-- Writing one joint's positions leaves those of the other joints.
use Rattle.std.proofs.Common.{◌≡◌, ◌≢◌, ◌⊎◌, inl, inr, ℕ, ◌+◌, ◌<◌, ◌≤◌, true, ℤ, List, length, refl, sym, ap, ◌∙◌, subst, arith, unsigned_abs}
use Rattle.std.proofs.lemmas.Bool.{cases_eq, cases_lt}
use Rattle.fx_num.specs.declared.number.Number.{Number}
use Rattle.fx_vec.specs.Quaternions.{Quaternion, WithinQuaternion}
use Rattle.mj_types.specs.declared.model.Model.{Model}
use Rattle.mj_types.specs.declared.parts.Joint.{Joint}
use Rattle.mj_types.specs.declared.state.State.{State}
use Rattle.mj_types.specs.Lawful.{position_limit}
use Rattle.mj_types.specs.Parts.{joint, number_at, position_count}
use Rattle.mj_euler.specs.Advance.{place_count, has_quaternion, quaternion_from, turned}
use Rattle.mj_euler.specs.Written.{AreMoved, IsTurned, AreAllMoved, AreAllTurned}
use Rattle.mj_euler.proofs.Places.{places_apart, counts, whole}

-- k is no place of positions `from` up to `to` of joint j
abbrev pub IsOutside : Joint → ℕ → ℕ → ℕ → Type 0
IsOutside j from to k = (k < j.qadr + from) ⊎ (j.qadr + to ≤ k)

-- a joint's lengths and angles stay where they aren't written
moved-same : (m : Model) (s : State) (v : ℕ → ℤ) (j : Joint) (old new : List (Number (Unit {0}) 32))
    → ((i : ℕ) → i < place_count j.kind → number_at new (j.qadr + i) ≡ number_at old (j.qadr + i)) → AreMoved m s v j old → AreMoved m s v j new
moved-same m s v j old new same h = record {
  value = λ i l. same i l ∙ h.value i l;
  small = λ i l. rw (same i l) (h.small i l);
}

four-same : (old new : List (Number (Unit {0}) 32)) (p : ℕ) → number_at new p ≡ number_at old p → number_at new (p + 1) ≡ number_at old (p + 1)
    → number_at new (p + 2) ≡ number_at old (p + 2) → number_at new (p + 3) ≡ number_at old (p + 3) → quaternion_from new p ≡ quaternion_from old p
four-same old new p w x y z = rw (w, x, y, z) refl

turned-same : (m : Model) (s : State) (v : ℕ → ℤ) (j : Joint) (old new : List (Number (Unit {0}) 32))
    → (has_quaternion j.kind ≡ true → quaternion_from new (j.qadr + place_count j.kind) ≡ quaternion_from old (j.qadr + place_count j.kind))
    → IsTurned m s v j old → IsTurned m s v j new
turned-same m s v j old new same h = record {
  value = λ k. same k ∙ h.value k;
  small = λ k. rw (same k) (h.small k);
}

module _ (m : Model) (s : State) (v : ℕ → ℤ) where
  abbrev at : ℕ → Joint
  at j = joint m.joints j

  -- another joint's places are outside of those of joint n
  apart : (j n i : ℕ) → j < length m.joints → n < length m.joints → j ≢ n → i < position_count (at j).kind → IsOutside (at n) 0 (position_count (at n).kind) ((at j).qadr + i)
  apart j n i h k d l = elim (cases_lt j n) [
    | inl p ↦ inl (omega (arith, places_apart m.bodies m.joints m.nq m.nv m.of_joints j n p k))
    | inr p ↦ inr (omega (arith, places_apart m.bodies m.joints m.nq m.nv m.of_joints n j (lt-other j n p d) h))
  ]
    where
      lt-other : (a b : ℕ) → b ≤ a → a ≢ b → b < a
      lt-other a b p q = elim (cases_lt b a) [
        | inl r ↦ r
        | inr r ↦ absurd (q (omega arith))
      ]

  -- one joint more was moved
  pub moved-more : (n : ℕ) (old new : List (Number (Unit {0}) 32)) → n < length m.joints
      → ((k : ℕ) → (k < (at n).qadr) ⊎ ((at n).qadr + place_count (at n).kind ≤ k) → number_at new k ≡ number_at old k)
      → AreMoved m s v (at n) new → AreAllMoved m s v n old → AreAllMoved m s v (n + 1) new
  moved-more n old new h same here before = record { each = each }
    where
      each : (j : ℕ) → j < n + 1 → AreMoved m s v (at j) new
      each j l = elim (cases_eq j n) [
        | inl e ↦ subst (λ (k : ℕ). AreMoved m s v (at k) new) (sym e) here
        | inr e ↦ moved-same m s v (at j) old new (λ i p. same ((at j).qadr + i) (inl (omega (arith, (counts (at j).kind).0, places_apart m.bodies m.joints m.nq m.nv m.of_joints j n (omega arith) h)))) (before.each j (omega arith))
      ]

  -- turning one joint leaves all lengths and angles
  pub moved-kept : (n : ℕ) (old new : List (Number (Unit {0}) 32)) → n < length m.joints
      → ((k : ℕ) → IsOutside (at n) (place_count (at n).kind) (position_count (at n).kind) k → number_at new k ≡ number_at old k)
      → AreAllMoved m s v (length m.joints) old → AreAllMoved m s v (length m.joints) new
  moved-kept n old new h same before = record { each = each }
    where
      outside : (j i : ℕ) → j < length m.joints → i < place_count (at j).kind → IsOutside (at n) (place_count (at n).kind) (position_count (at n).kind) ((at j).qadr + i)
      outside j i l p = elim (cases_eq j n) [
        | inl e ↦ inl (subst (λ (k : ℕ). (at j).qadr + i < (at k).qadr + place_count (at k).kind) e (omega arith))
        | inr e ↦ elim (apart j n i l h e (omega (arith, (counts (at j).kind).0))) [
          | inl q ↦ inl (omega arith)
          | inr q ↦ inr q
        ]
      ]

      each : (j : ℕ) → j < length m.joints → AreMoved m s v (at j) new
      each j l = moved-same m s v (at j) old new (λ i p. same ((at j).qadr + i) (outside j i l p)) (before.each j l)

  -- and one joint more was turned
  pub turned-more : (n : ℕ) (old new : List (Number (Unit {0}) 32)) → n < length m.joints
      → ((k : ℕ) → IsOutside (at n) (place_count (at n).kind) (position_count (at n).kind) k → number_at new k ≡ number_at old k)
      → IsTurned m s v (at n) new → AreAllTurned m s v n old → AreAllTurned m s v (n + 1) new
  turned-more n old new h same here before = record { each = each }
    where
      kept : (j t p : ℕ) → j < n → has_quaternion (at j).kind ≡ true → t < 4 → (at j).qadr + (place_count (at j).kind + t) ≡ p → number_at new p ≡ number_at old p
      kept j t p l k q e = same p (inl (omega (arith, (whole (at j).kind k).0, places_apart m.bodies m.joints m.nq m.nv m.of_joints j n l h)))

      quaternion-kept : (j : ℕ) → j < n → has_quaternion (at j).kind ≡ true → quaternion_from new ((at j).qadr + place_count (at j).kind) ≡ quaternion_from old ((at j).qadr + place_count (at j).kind)
      quaternion-kept j l k =
          let p = (at j).qadr + place_count (at j).kind in
          four-same old new p (kept j 0 p l k (omega arith) (omega arith)) (kept j 1 (p + 1) l k (omega arith) (omega arith)) (kept j 2 (p + 2) l k (omega arith) (omega arith)) (kept j 3 (p + 3) l k (omega arith) (omega arith))

      each : (j : ℕ) → j < n + 1 → IsTurned m s v (at j) new
      each j l = elim (cases_eq j n) [
        | inl e ↦ subst (λ (k : ℕ). IsTurned m s v (at k) new) (sym e) here
        | inr e ↦ turned-same m s v (at j) old new (quaternion-kept j (omega arith)) (before.each j (omega arith))
      ]
