-- Slopes of a contact, and the rows of its edges.
use Rattle.std.proofs.Common.{◌≡◌, ℕ, ◌+◌, ◌^◌, ◌<◌, ◌≤◌, ◌==◌, Bool, true, false, cond, ℤ, pos, ◌+ℤ◌, ◌-ℤ◌, ◌*ℤ◌, unsigned_abs, List, length, Some, None, refl, sym, ap, ap₂, ◌∙◌, subst, arith, inl, inr}
use Rattle.std.specs.Prelude.{slice_set, nat_lt}
use Rattle.std.proofs.lemmas.Int.{ints}
use Rattle.std.proofs.lemmas.Bool.{cases_lt, and_from, cond-true, le-leb}
use Rattle.std.proofs.lemmas.List.{get_or-set_same, get_or-set_other, length-set}
use Rattle.fx_whole.specs.First.{first_to}
use Rattle.fx_whole.specs.Sums.{when}
use Rattle.fx_whole.proofs.NearestLaws.{nearest-zero}
use Rattle.fx_whole.proofs.Ring.{*ℤ_distrib_right, pos_two-*ℤ}
use lib.IntN.{*ℤ-zero}
use Rattle.fx_num.specs.Settled.{settled_mid}
use Rattle.fx_vec.specs.Settling.{along}
use Rattle.fx_whole.proofs.EntryLaws.{below-within, below-is, put-keeps}
use Rattle.fx_whole.proofs.FirstLaws.{first_none, first_ext, or_pass, stop_first}
use Rattle.fx_num.specs.declared.number.Number.{Number}
use Rattle.fx_vec.specs.Vectors.{Triple}
use Rattle.fx_vec.specs.Sizes.{Within}
use Rattle.fx_vec.specs.Views.{mids}
use Rattle.mj_types.specs.declared.carriers.Contact.{Contact}
use Rattle.mj_types.specs.declared.model.Model.{Model}
use Rattle.mj_types.specs.declared.parts.Geom.{Geom}
use Rattle.mj_types.specs.declared.parts.Soft.{Soft}
use Rattle.mj_types.specs.declared.range.OutOfRange.{OutOfRange}
use Rattle.mj_types.specs.declared.range.Quantity.TheVariants as kind
use Rattle.mj_types.specs.declared.rows.Row.{Row}
use Rattle.mj_types.specs.declared.rows.Source.TheVariants as source
use Rattle.mj_types.specs.Parts.{plain, number_at}
use Rattle.mj_types.specs.Placed.{Placing}
use Rattle.mj_types.specs.Ranges.{is_within, limited, unless}
use Rattle.mj_contact.specs.Lists.{margin}
use Rattle.mj_rows.specs.declared.slopes.Slope.{Slope}
use Rattle.mj_rows.specs.Constraint.{is_near, levers_fault, jacobian_fault, row_fault, row_of, pushing}
use Rattle.mj_rows.specs.Edges.{lever_of, apart, does_move, slope_along, tilt, edge_slope, edge_jacobian, edge_of}
use Rattle.mj_rows.specs.Mixing.{first_geom, second_geom, friction, mixed}
use Rattle.mj_rows.specs.Slopes.{IsSlope, AreSlopes, slope_at, no_slope}
use Rattle.mj_rows.specs.Working.{IsWritten}
use Rattle.mj_rows.proofs.SizeLaws.{past_end}

-- ---- one dof more
pub slopes_more : (m : Model) (x : Placing) (c : Contact) (d : ℕ) (ss : List Slope) (s : Slope) → d < 64 → AreSlopes m x c d ss → IsSlope m x c d s → AreSlopes m x c (d + 1) (slice_set ss d s)
slopes_more m x c d ss s l h g = record {
  room = length-set ss d s ∙ h.room;
  each = put-keeps (λ k a. IsSlope m x c k a) no_slope ss (slice_set ss d s) d s (get_or-set_same ss d s no_slope (omega (arith, h.room, l))) (λ j n. get_or-set_other ss d j s no_slope n) g h.each;
}

-- ---- faults
near_true : (v : Triple ℤ) → Within v (2 ^ 48) → is_near v ≡ true
near_true v h =
    and_from (is_within (2 ^ 48) v.x) _ (le-leb (unsigned_abs v.x) (2 ^ 48) h.x)
    (and_from (is_within (2 ^ 48) v.y) (is_within (2 ^ 48) v.z) (le-leb (unsigned_abs v.y) (2 ^ 48) h.y) (le-leb (unsigned_abs v.z) (2 ^ 48) h.z))

pub levers_none : (nv number : ℕ) (lever : ℕ → Triple ℤ) → ((d : ℕ) → d < nv → Within (lever d) (2 ^ 48)) → levers_fault nv number lever ≡ None
levers_none nv number lever h =
    (first_none nv (λ d. unless (is_near (lever d)) kind.Jacobian number)).1
    (λ d p. cond-true (is_near (lever d)) None (Some (record { kind = kind.Jacobian; index = number })) (near_true (lever d) (h d p)))

-- a lever's velocity that is out of range is the fault of the contact's row
pub edge_refused : (m : Model) (x : Placing) (c : Contact) (k edge number : ℕ) (e : OutOfRange) → Some e ≡ levers_fault m.nv number (lever_of m x c)
    → Some e ≡ row_fault m.nv number (edge_of m x c k edge)
unfolding edge_of
edge_refused m x c k edge number e h = stop_first (levers_fault m.nv number (lever_of m x c)) (jacobian_fault m.nv number (edge_jacobian m x c edge)) e h

module _ (m : Model) (x : Placing) (c : Contact) (edge : ℕ) (mu : ℤ) (is : mu ≡ friction (first_geom m c) (second_geom m c)) (ss : List Slope) (are : AreSlopes m x c m.nv ss) where
  -- an edge's slope at a dof
  abbrev value : ℕ → ℤ
  value d = edge_slope (friction (first_geom m c) (second_geom m c)) (slope_along m x c (mids c.normal) d) (slope_along m x c (mids c.t1) d) (slope_along m x c (mids c.t2) d) edge

  abbrev found : ℕ → ℤ
  found d = edge_slope mu (slope_at ss d).normal.mid (slope_at ss d).first.mid (slope_at ss d).second.mid edge

  found_is : (d : ℕ) → d < m.nv → found d ≡ value d
  found_is d l =
      let s = are.each d l in
      ap (λ (n : ℤ). edge_slope n (slope_at ss d).normal.mid (slope_at ss d).first.mid (slope_at ss d).second.mid edge) is
      ∙ ap (λ (n : ℤ). edge_slope (friction (first_geom m c) (second_geom m c)) n (slope_at ss d).first.mid (slope_at ss d).second.mid edge) s.normal_
      ∙ ap (λ (n : ℤ). edge_slope (friction (first_geom m c) (second_geom m c)) (slope_along m x c (mids c.normal) d) n (slope_at ss d).second.mid edge) s.first_
      ∙ ap (λ (n : ℤ). edge_slope (friction (first_geom m c) (second_geom m c)) (slope_along m x c (mids c.normal) d) (slope_along m x c (mids c.t1) d) n edge) s.second_

  pub edge_fault : (k number : ℕ) → first_to m.nv (λ d. limited kind.Jacobian number (2 ^ 48) (found d)) ≡ row_fault m.nv number (edge_of m x c k edge)
  unfolding edge_of
  edge_fault k number =
      first_ext m.nv (λ d. limited kind.Jacobian number (2 ^ 48) (found d)) (λ d. limited kind.Jacobian number (2 ^ 48) (edge_jacobian m x c edge d))
      (λ d l. ap (λ (n : ℤ). limited kind.Jacobian number (2 ^ 48) n) (found_is d l ∙ sym (below-within (pos 0) m.nv value d l)))
      ∙ sym (or_pass (levers_fault m.nv number (lever_of m x c)) (jacobian_fault m.nv number (edge_jacobian m x c edge))
      (levers_none m.nv number (lever_of m x c) (λ d l. (are.each d l).near)))

  pub edge_written : (k : ℕ) (xs : List (Number (Unit {0}) 32)) → length xs ≡ m.nv → ((d : ℕ) → d < m.nv → number_at xs d ≡ found d)
      → ((d : ℕ) → d < m.nv → unsigned_abs (number_at xs d) ≤ 2 ^ 48) → IsWritten m.nv (edge_of m x c k edge) xs
  unfolding edge_of
  edge_written k xs l f h = record {
    room = l;
    whole = below-is (λ (n : Number (Unit {0}) 32). n.mid) (plain (pos 0)) xs m.nv value l (λ d p. f d p ∙ found_is d p);
    small = λ d. elim (cases_lt d m.nv) [
      | inl p ↦ h d p
      | inr p ↦ (let e = past_end xs d (omega (arith, l, p)) in subst (λ (n : ℤ). unsigned_abs n ≤ 2 ^ 48) (sym e) (omega arith))
    ];
  }

-- ---- the row
pub edge_row : (m : Model) (x : Placing) (c : Contact) (k edge : ℕ) (a b : Geom) (r : ℤ) (s : Soft) (y : Row) → a ≡ first_geom m c → b ≡ second_geom m c
    → r ≡ c.dist.mid -ℤ margin a b → s ≡ mixed a.soft b.soft
    → ((lever : ℕ → Triple ℤ) (slope : ℕ → ℤ) → y ≡ row_of false (pushing (source.Contact (k + 1) edge) r s lever slope)) → y ≡ row_of false (edge_of m x c k edge)
unfolding edge_of
edge_row m x c k edge a b r s y e f g h q =
    q (lever_of m x c) (edge_jacobian m x c edge)
    ∙ ap₂ (λ (n : ℤ) (t : Soft). row_of false (pushing (source.Contact (k + 1) edge) n t (lever_of m x c) (edge_jacobian m x c edge)))
    (g ∙ ap₂ (λ (u v : Geom). c.dist.mid -ℤ margin u v) e f) (h ∙ ap₂ (λ (u v : Geom). mixed u.soft v.soft) e f)

-- ---- laws of the edges
four : (n a b : ℤ) → (n +ℤ a) +ℤ (n -ℤ a) +ℤ (n +ℤ b) +ℤ (n -ℤ b) ≡ pos 4 *ℤ n
four n a b =
    let e : pos 4 *ℤ n ≡ (n +ℤ n) +ℤ (n +ℤ n) = *ℤ_distrib_right (pos 2) (pos 2) n ∙ ap₂ (λ (x y : ℤ). x +ℤ y) (pos_two-*ℤ n) (pos_two-*ℤ n) in
    omega (arith, ints, e)

pub edges_sum : (m : Model) (x : Placing) (c : Contact) (d : ℕ) → d < m.nv
    → edge_jacobian m x c 1 d +ℤ edge_jacobian m x c 2 d +ℤ edge_jacobian m x c 3 d +ℤ edge_jacobian m x c 4 d ≡ pos 4 *ℤ slope_along m x c (mids c.normal) d
edges_sum m x c d l =
    let mu = friction (first_geom m c) (second_geom m c) in
    let n = slope_along m x c (mids c.normal) d in
    let a = tilt mu (slope_along m x c (mids c.t1) d) in
    let b = tilt mu (slope_along m x c (mids c.t2) d) in
    let at : (edge : ℕ) → edge_jacobian m x c edge d ≡ edge_slope mu n (slope_along m x c (mids c.t1) d) (slope_along m x c (mids c.t2) d) edge =
    λ edge. below-within (pos 0) m.nv (λ k. edge_slope mu (slope_along m x c (mids c.normal) k) (slope_along m x c (mids c.t1) k) (slope_along m x c (mids c.t2) k) edge) d l in
    ap₂ (λ (p q : ℤ). p +ℤ q) (ap₂ (λ (p q : ℤ). p +ℤ q) (ap₂ (λ (p q : ℤ). p +ℤ q) (at 1) (at 2)) (at 3)) (at 4) ∙ four n a b

either : (b : Bool) (x y z : ℤ) → x ≡ z → y ≡ z → cond b x y ≡ z
either true x y z e f = e
either false x y z e f = f

apart_same : (a b : Bool) (n : ℤ) → a ≡ b → apart a b n ≡ pos 0
apart_same a b n e = subst (λ (t : Bool). apart a t n ≡ pos 0) e (none (when a n))
  where
    none : (k : ℤ) → k -ℤ k ≡ pos 0
    none k = omega (arith, ints)

tilt_zero : (mu : ℤ) → tilt mu (pos 0) ≡ pos 0
tilt_zero mu = ap (λ (n : ℤ). settled_mid n 32) (*ℤ-zero mu) ∙ nearest-zero (pos (2 ^ 32))

edge_zero : (mu n t1 t2 : ℤ) (edge : ℕ) → n ≡ pos 0 → t1 ≡ pos 0 → t2 ≡ pos 0 → edge_slope mu n t1 t2 edge ≡ pos 0
edge_zero mu n t1 t2 edge e f g =
    let a : tilt mu t1 ≡ pos 0 = ap (λ (t : ℤ). tilt mu t) f ∙ tilt_zero mu in
    let b : tilt mu t2 ≡ pos 0 = ap (λ (t : ℤ). tilt mu t) g ∙ tilt_zero mu in
    either (edge == 0) n _ (pos 0) e
    (either (edge == 1) (n +ℤ tilt mu t1) _ (pos 0) (ap₂ (λ (x y : ℤ). x +ℤ y) e a)
    (either (edge == 2) (n -ℤ tilt mu t1) _ (pos 0) (ap₂ (λ (x y : ℤ). x -ℤ y) e a)
    (either (edge == 3) (n +ℤ tilt mu t2) (n -ℤ tilt mu t2) (pos 0) (ap₂ (λ (x y : ℤ). x +ℤ y) e b) (ap₂ (λ (x y : ℤ). x -ℤ y) e b))))

pub unmoved_zero : (m : Model) (x : Placing) (c : Contact) (edge d : ℕ) → does_move m d (first_geom m c) ≡ does_move m d (second_geom m c) → edge_jacobian m x c edge d ≡ pos 0
unmoved_zero m x c edge d e =
    let none = λ (n : ℤ). apart_same (does_move m d (first_geom m c)) (does_move m d (second_geom m c)) n e in
    either (nat_lt d m.nv) (edge_slope (friction (first_geom m c) (second_geom m c)) (slope_along m x c (mids c.normal) d) (slope_along m x c (mids c.t1) d) (slope_along m x c (mids c.t2) d) edge) (pos 0) (pos 0)
    (edge_zero (friction (first_geom m c) (second_geom m c)) (slope_along m x c (mids c.normal) d) (slope_along m x c (mids c.t1) d) (slope_along m x c (mids c.t2) d) edge
    (none (along (mids c.normal) (lever_of m x c d))) (none (along (mids c.t1) (lever_of m x c d))) (none (along (mids c.t2) (lever_of m x c d)))) refl
