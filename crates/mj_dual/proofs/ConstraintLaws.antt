-- Each constraint of each state of each model is lawful.
use Rattle.std.proofs.Common.{◌≡◌, ℕ, ◌+◌, ◌-◌, ◌^◌, ◌<◌, Bool, true, cond, ℤ, pos, ◌*ℤ◌, neg_ℤ, ◌<ℤ◌, ◌≤ℤ◌, List, [], ◌∷◌, length, Option, None, Some, subst, arith}
use Rattle.std.specs.List.{All}
use Rattle.std.proofs.lemmas.Bool.{cond_both}
use Rattle.std.proofs.lemmas.Int.{ints}
use Rattle.std.proofs.lemmas.List.Elements.{All-nil, All-cons, All-append, All-get_or}
use Rattle.fx_whole.specs.Nearest.{nearest}
use Rattle.fx_whole.proofs.JoinedLaws.{joined-all}
use Rattle.fx_whole.proofs.NearestLaws.{nearest-mono, nearest-zero}
use Rattle.fx_vec.specs.Vectors.{Triple}
use Rattle.mj_optimum.proofs.Tests.{int_lt_true}
use Rattle.mj_types.specs.declared.carriers.Contact.{Contact}
use Rattle.mj_types.specs.declared.model.Model.{Model}
use Rattle.mj_types.specs.declared.parts.Soft.{Soft}
use Rattle.mj_types.specs.declared.rows.Source.{Source}
use Rattle.mj_types.specs.declared.state.State.{State}
use Rattle.mj_types.specs.Lawful.{IsSoft}
use Rattle.mj_types.specs.Parts.{geom, joint}
use Rattle.mj_types.specs.Placed.{Placing}
use Rattle.mj_touch.specs.Meetings.{Meeting, Meetings}
use Rattle.mj_touch.specs.Pairs.{meetings}
use Rattle.mj_contact.specs.Filter.{is_tested, is_turned}
use Rattle.mj_contact.specs.Lists.{contact_of, listed, shape_at, margin, found_in_order, found_turned, found, found_with_later, contact_list}
use Rattle.mj_rows.specs.Constraint.{pushing}
use Rattle.mj_rows.specs.Constraints.{contact, no_contact, all_equalities, all_frictions, all_joint_limits, all_tendon_limits, all_edges, constraints}
use Rattle.mj_rows.specs.Edges.{edge_of, edge_count, first_edge, edges}
use Rattle.mj_rows.specs.Joints.{has_friction, most_friction, equality_of, friction_of, frictions}
use Rattle.mj_rows.specs.Limits.{is_low, is_high, joint_extent, low_limit, high_limit, low_limits, high_limits, joint_limits, tendon_extent, tendon_low_limit, tendon_high_limit, tendon_low_limits, tendon_high_limits, tendon_limits}
use Rattle.mj_rows.specs.Mixing.{first_geom, second_geom}
use Rattle.mj_rows.proofs.MixLaws.{mixed_soft}
use Rattle.mj_dual.specs.Lawful.{IsLawful}

-- ---- lists of one, or of none
All-one : {A : Type 0} → (P : A → Type 0) (x : A) → P x → All P (x ∷ [])
All-one P x h = All-cons P x [] h (All-nil P)

All-if : {A : Type 0} → (P : A → Type 0) (b : Bool) (x : A) → (b ≡ true → P x) → All P (cond b (x ∷ []) [])
All-if P b x h = cond_both b (x ∷ []) [] (All P) (λ e. All-one P x (h e)) (λ e. All-nil P)

-- ---- one constraint
pushing-lawful : (from : Source) (r : ℤ) (s : Soft) (lever : ℕ → Triple ℤ) (slope : ℕ → ℤ) → IsSoft s → IsLawful (pushing from r s lever slope)
pushing-lawful from r s lever slope h = record { soft_ = h; low_bound = omega (arith, ints); high_bound = tt }

equality-lawful : (m : Model) (s : State) (e : ℕ) → e < length m.equalities → IsLawful (equality_of m s e)
unfolding equality_of
equality-lawful m s e h = record { soft_ = (m.of_equalities.each e h).soft; low_bound = tt; high_bound = tt }

most_friction-nonneg : (m : Model) (j : ℕ) → has_friction m j ≡ true → pos 0 ≤ℤ most_friction m j
most_friction-nonneg m j e =
    let loss = (joint m.joints j).frictionloss.mid in
    let some : pos 0 <ℤ loss = int_lt_true (pos 0) loss e in
    subst (λ z. z ≤ℤ nearest loss (pos (2 ^ 12))) (nearest-zero (pos (2 ^ 12)))
    (nearest-mono (pos 0) loss (pos (2 ^ 12)) (omega (arith, ints, some)))

friction-lawful : (m : Model) (j : ℕ) → j < length m.joints → has_friction m j ≡ true → IsLawful (friction_of m j)
unfolding friction_of
friction-lawful m j h e =
    let some = most_friction-nonneg m j e in
    record {
      soft_ = (m.of_joints.each j h).soft_friction;
      low_bound = below (most_friction m j) some;
      high_bound = above (most_friction m j) some;
    }
  where
    below : (n : ℤ) → pos 0 ≤ℤ n → (pos 1 *ℤ neg_ℤ n) ≤ℤ pos 0
    below n p = omega (arith, ints)

    above : (n : ℤ) → pos 0 ≤ℤ n → pos 0 ≤ℤ (pos 1 *ℤ n)
    above n p = omega (arith, ints)

low_limit-lawful : (m : Model) (s : State) (j : ℕ) → j < length m.joints → IsLawful (low_limit m s j)
unfolding low_limit
low_limit-lawful m s j h = pushing-lawful _ _ (joint m.joints j).soft _ _ (m.of_joints.each j h).soft

high_limit-lawful : (m : Model) (s : State) (j : ℕ) → j < length m.joints → IsLawful (high_limit m s j)
unfolding high_limit
high_limit-lawful m s j h = pushing-lawful _ _ (joint m.joints j).soft _ _ (m.of_joints.each j h).soft

tendon_low_limit-lawful : (m : Model) (lengths : ℕ → ℤ) (t : ℕ) → t < length m.tendons → IsLawful (tendon_low_limit m lengths t)
unfolding tendon_low_limit
tendon_low_limit-lawful m lengths t h = pushing-lawful _ _ _ _ _ (m.of_tendons.each t h).soft

tendon_high_limit-lawful : (m : Model) (lengths : ℕ → ℤ) (t : ℕ) → t < length m.tendons → IsLawful (tendon_high_limit m lengths t)
unfolding tendon_high_limit
tendon_high_limit-lawful m lengths t h = pushing-lawful _ _ _ _ _ (m.of_tendons.each t h).soft

-- ---- contacts: the softness of both geoms is lawful
record HasSoftGeoms (m : Model) (c : Contact) : Type 0 where
  first_ : IsSoft (first_geom m c).soft
  second_ : IsSoft (second_geom m c).soft

soft_at : (m : Model) (g : ℕ) → g < length m.geoms → IsSoft (geom m.geoms (g + 1 - 1)).soft
soft_at m g h = subst (λ (k : ℕ). IsSoft (geom m.geoms k).soft) (omega arith) (m.of_geoms.each g h).soft

listed-soft : (m : Model) (a b : ℕ) (o : Option Meeting) → a < length m.geoms → b < length m.geoms → All (HasSoftGeoms m) (listed a b o)
listed-soft m a b None h k = All-nil (HasSoftGeoms m)
listed-soft m a b (Some x) h k = All-one (HasSoftGeoms m) (contact_of a b x) (record { first_ = soft_at m a h; second_ = soft_at m b k })

found_in_order-soft : (m : Model) (x : Placing) (a b : ℕ) → a < length m.geoms → b < length m.geoms → All (HasSoftGeoms m) (found_in_order m x a b)
unfolding found_in_order
found_in_order-soft m x a b h k =
    let ms : Meetings = meetings (shape_at m x a) (shape_at m x b) (margin (geom m.geoms a) (geom m.geoms b)) in
    All-append (HasSoftGeoms m) (listed a b ms.first) (listed a b ms.second) (listed-soft m a b ms.first h k) (listed-soft m a b ms.second h k)

found-soft : (m : Model) (x : Placing) (a b : ℕ) → a < length m.geoms → b < length m.geoms → All (HasSoftGeoms m) (found m x a b)
found-soft m x a b h k =
    cond_both (is_tested m (geom m.geoms a) (geom m.geoms b)) (found_turned m x a b) [] (All (HasSoftGeoms m))
    (λ e. cond_both (is_turned (geom m.geoms a) (geom m.geoms b)) (found_in_order m x b a) (found_in_order m x a b) (All (HasSoftGeoms m))
    (λ f. found_in_order-soft m x b a k h) (λ f. found_in_order-soft m x a b h k))
    (λ e. All-nil (HasSoftGeoms m))

contacts-soft : (m : Model) (x : Placing) → All (HasSoftGeoms m) (contact_list m x)
contacts-soft m x =
    joined-all (HasSoftGeoms m) (length m.geoms) (found_with_later m x)
    (λ a h. joined-all (HasSoftGeoms m) (length m.geoms - (a + 1)) (λ i. found m x a (a + 1 + i)) (λ i k. found-soft m x a (a + 1 + i) h (omega arith)))

edge-lawful : (m : Model) (x : Placing) (c : Contact) (k edge : ℕ) → HasSoftGeoms m c → IsLawful (edge_of m x c k edge)
unfolding edge_of
edge-lawful m x c k edge h = pushing-lawful _ _ _ _ _ (mixed_soft (first_geom m c).soft (second_geom m c).soft h.first_ h.second_)

-- ---- all of each kind
equalities-lawful : (m : Model) (s : State) → All IsLawful (all_equalities m s)
equalities-lawful m s =
    joined-all IsLawful (length m.equalities) (λ e. equality_of m s e ∷ []) (λ e h. All-one IsLawful (equality_of m s e) (equality-lawful m s e h))

frictions-lawful : (m : Model) → All IsLawful (all_frictions m)
frictions-lawful m =
    joined-all IsLawful (length m.joints) (frictions m) (λ j h. All-if IsLawful (has_friction m j) (friction_of m j) (friction-lawful m j h))

joint_limits-lawful : (m : Model) (s : State) → All IsLawful (all_joint_limits m s)
joint_limits-lawful m s =
    joined-all IsLawful (length m.joints) (joint_limits m s)
    (λ j h. All-append IsLawful (low_limits m s j) (high_limits m s j)
    (All-if IsLawful (is_low (joint_extent m s j)) (low_limit m s j) (λ e. low_limit-lawful m s j h))
    (All-if IsLawful (is_high (joint_extent m s j)) (high_limit m s j) (λ e. high_limit-lawful m s j h)))

tendon_limits-lawful : (m : Model) (lengths : ℕ → ℤ) → All IsLawful (all_tendon_limits m lengths)
tendon_limits-lawful m lengths =
    joined-all IsLawful (length m.tendons) (tendon_limits m lengths)
    (λ t h. All-append IsLawful (tendon_low_limits m lengths t) (tendon_high_limits m lengths t)
    (All-if IsLawful (is_low (tendon_extent m lengths t)) (tendon_low_limit m lengths t) (λ e. tendon_low_limit-lawful m lengths t h))
    (All-if IsLawful (is_high (tendon_extent m lengths t)) (tendon_high_limit m lengths t) (λ e. tendon_high_limit-lawful m lengths t h)))

edges-lawful : (m : Model) (x : Placing) (cs : List Contact) → All (HasSoftGeoms m) cs → All IsLawful (all_edges m x cs)
edges-lawful m x cs all =
    joined-all IsLawful (length cs) (λ k. edges m x (contact cs k) k)
    (λ k h. joined-all IsLawful (edge_count m (contact cs k)) (λ i. edge_of m x (contact cs k) k (first_edge m (contact cs k) + i) ∷ [])
    (λ i l. All-one IsLawful (edge_of m x (contact cs k) k (first_edge m (contact cs k) + i))
    (edge-lawful m x (contact cs k) k (first_edge m (contact cs k) + i) (All-get_or (HasSoftGeoms m) cs k no_contact h all))))

-- ---- and all
pub constraints-lawful : (m : Model) (s : State) (x : Placing) (lengths : ℕ → ℤ) → All IsLawful (constraints m s x lengths (contact_list m x))
constraints-lawful m s x lengths =
    let friction = All-append IsLawful (all_equalities m s) (all_frictions m) (equalities-lawful m s) (frictions-lawful m) in
    let limit = All-append IsLawful _ (all_joint_limits m s) friction (joint_limits-lawful m s) in
    let tendon = All-append IsLawful _ (all_tendon_limits m lengths) limit (tendon_limits-lawful m lengths) in
    All-append IsLawful _ (all_edges m x (contact_list m x)) tendon (edges-lawful m x (contact_list m x) (contacts-soft m x))
