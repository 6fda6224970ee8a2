-- The sizes and the radii of momenta and of entries, and when they are refused.
use Rattle.std.proofs.Common.{◌≡◌, ℕ, ◌+◌, ◌*◌, ◌^◌, ◌<◌, ◌≤◌, Bool, true, false, ◌&&◌, cond, nat_lt, ℤ, unsigned_abs, Option, None, Some, refl, sym, ap, ap₂, ◌∙◌, subst, inl, inr, arith, mul-le-mul}
use Rattle.std.proofs.lemmas.Bool.{cases_lt, lt-ltb, le-ltb, le-leb, lt-leb}
use Rattle.fx_whole.specs.First.{or_first}
use Rattle.fx_num.specs.Settled.{over, over_value, settled_mid, rounding_loss}
use Rattle.fx_num.specs.Radii.{radius_limit, product_width}
use Rattle.fx_num.specs.declared.carry.Over.{Over}
use Rattle.fx_num.specs.declared.carry.Over.TheVariants.{Value, Radius}
use Rattle.fx_near.specs.Widths.{settled_radius}
use Rattle.fx_near.proofs.RadiusLaws.{radius-le}
use Rattle.fx_vec.specs.Vectors.{Triple}
use Rattle.fx_vec.specs.Spatial.{Spatial, pair}
use Rattle.fx_vec.specs.Sizes.{Within, Below, Within6, Below6, no_size, no_size6}
use Rattle.fx_vec.specs.Settling.{over3, over6, settled6, radii6}
use Rattle.fx_vec.specs.Widths.{pair_width, dot_width}
use Rattle.mj_types.specs.declared.range.Quantity.{Quantity}
use Rattle.mj_types.specs.declared.range.Quantity.TheVariants as kind
use Rattle.mj_types.specs.Ranges.{unless, is_within}
use Rattle.mj_inertia.specs.MassEntries.{momentum, momentum_radius, momentum_fault, is_within3, rounded_product, rounded_radius}

-- ---- radii
radius_one : (sum : ℤ) → settled_radius 0 (rounding_loss sum 32) 32 ≤ 1
radius_one sum = radius-le 0 0 sum 32 (omega arith)

pub momentum_radius-le : (sum : Spatial ℤ) → Below6 (momentum_radius sum) 1
unfolding momentum_radius
momentum_radius-le sum = record {
  ang = record { x = radius_one sum.ang.x; y = radius_one sum.ang.y; z = radius_one sum.ang.z };
  lin = record { x = radius_one sum.lin.x; y = radius_one sum.lin.y; z = radius_one sum.lin.z };
}

-- an exact number times one with a radius of at most 1
width-le : (a b : ℤ) (r m : ℕ) → unsigned_abs a ≤ m → r ≤ 1 → product_width a 0 b r ≤ m
width-le a b r m h k = omega (arith, mul-le-mul h k)

dot_width-le : (a b : Triple ℤ) (r : Triple ℕ) (m : ℕ) → Within a m → Below r 1 → dot_width a no_size b r ≤ 3 * m
dot_width-le a b r m h k = three _ _ _ m (width-le a.x b.x r.x m h.x k.x) (width-le a.y b.y r.y m h.y k.y) (width-le a.z b.z r.z m h.z k.z)
  where
    three : (x y z m : ℕ) → x ≤ m → y ≤ m → z ≤ m → x + y + z ≤ 3 * m
    three x y z m p q r = omega arith

pub pair_width-le : (s h : Spatial ℤ) (r : Spatial ℕ) (m : ℕ) → Within6 s m → Below6 r 1 → pair_width s no_size6 h r ≤ 6 * m
pair_width-le s h r m k b = two _ _ m (dot_width-le s.ang h.ang r.ang m k.ang b.ang) (dot_width-le s.lin h.lin r.lin m k.lin b.lin)
  where
    two : (x y m : ℕ) → x ≤ 3 * m → y ≤ 3 * m → x + y ≤ 6 * m
    two x y m p q = omega arith

-- a product that is rounded
pub rounded_radius-le : (s h : Spatial ℤ) (r : Spatial ℕ) → pair_width s no_size6 h r ≤ 6 * 2 ^ 42 → rounded_radius s h r ≤ 2 ^ 13
unfolding rounded_radius
rounded_radius-le s h r w = omega (arith, radius-le (pair_width s no_size6 h r) (6 * 2 ^ 10) (pair s h) 32 (omega arith))

-- ---- refusals
abbrev value_unless : Bool → Option Over
value_unless good = cond good None (Some Value)

over-is : (limit : ℕ) (v : ℤ) (r : ℕ) → r ≤ radius_limit → over limit v r ≡ value_unless (is_within limit v)
over-is limit v r h =
    elim (cases_lt limit (unsigned_abs v)) [
      | inl l ↦ stops l
      | inr l ↦ passes l
    ]
  where
    stops : limit < unsigned_abs v → over limit v r ≡ value_unless (is_within limit v)
    stops l =
        ap (λ b. or_first (cond b (Some Value) None) (cond (nat_lt radius_limit r) (Some Radius) None)) (lt-ltb limit (unsigned_abs v) l)
        ∙ sym (ap value_unless (lt-leb (unsigned_abs v) limit l))

    passes : unsigned_abs v ≤ limit → over limit v r ≡ value_unless (is_within limit v)
    passes l =
        ap (λ b. or_first (cond b (Some Value) None) (cond (nat_lt radius_limit r) (Some Radius) None)) (le-ltb limit (unsigned_abs v) l)
        ∙ ap (λ b. cond b (Some Radius) None) (le-ltb radius_limit r h)
        ∙ sym (ap value_unless (le-leb (unsigned_abs v) limit l))

or_value : (a b : Bool) → or_first (value_unless a) (value_unless b) ≡ value_unless (a && b)
or_value true b = refl
or_value false b = refl

over3-is : (limit : ℕ) (v : Triple ℤ) (r : Triple ℕ) → Below r radius_limit → over3 limit v r ≡ value_unless (is_within3 limit v)
over3-is limit v r h =
    ap₂ (λ x y. or_first x y) (over-is limit v.x r.x h.x)
    (ap₂ (λ x y. or_first x y) (over-is limit v.y r.y h.y) (over-is limit v.z r.z h.z) ∙ or_value (is_within limit v.y) (is_within limit v.z))
    ∙ or_value (is_within limit v.x) (is_within limit v.y && is_within limit v.z)

below_limit : (r : Triple ℕ) → Below r 1 → Below r radius_limit
below_limit r b = record { x = omega (arith, b.x); y = omega (arith, b.y); z = omega (arith, b.z) }

over6-is : (limit : ℕ) (s : Spatial ℤ) (r : Spatial ℕ) → Below6 r 1 → over6 limit s r ≡ value_unless (is_within3 limit s.ang && is_within3 limit s.lin)
over6-is limit s r b =
    ap₂ (λ x y. or_first x y) (over3-is limit s.ang r.ang (below_limit r.ang b.ang)) (over3-is limit s.lin r.lin (below_limit r.lin b.lin))
    ∙ or_value (is_within3 limit s.ang) (is_within3 limit s.lin)

ok_unless : (good : Bool) (what : Quantity) (index : ℕ) → None ≡ value_unless good → None ≡ unless good what index
ok_unless true what index e = refl
ok_unless false what index e = cc

err_unless : (good : Bool) (what : Quantity) (index : ℕ) (o : Over) → Some o ≡ value_unless good → Some (record { kind = what; index = index }) ≡ unless good what index
err_unless true what index o e = cc
err_unless false what index o e = refl

-- what six settled sums say of a momentum, whose radii are no fault
pub momentum_passes : (sum : Spatial ℤ) (w : Spatial ℕ) (j : ℕ) → w ≡ no_size6
    → None ≡ over6 (2 ^ 62) (settled6 sum 32) (radii6 settled_radius sum w 32) → None ≡ momentum_fault sum j
unfolding momentum_fault momentum momentum_radius
momentum_passes sum w j e f =
    ok_unless (is_within3 (2 ^ 62) (momentum sum).ang && is_within3 (2 ^ 62) (momentum sum).lin) kind.Momentum (j + 1)
    (f ∙ ap (λ x. over6 (2 ^ 62) (momentum sum) (radii6 settled_radius sum x 32)) e ∙ over6-is (2 ^ 62) (momentum sum) (momentum_radius sum) (momentum_radius-le sum))

pub momentum_stops : (sum : Spatial ℤ) (w : Spatial ℕ) (j : ℕ) (o : Over) → w ≡ no_size6
    → Some o ≡ over6 (2 ^ 62) (settled6 sum 32) (radii6 settled_radius sum w 32) → Some (record { kind = kind.Momentum; index = j + 1 }) ≡ momentum_fault sum j
unfolding momentum_fault momentum momentum_radius
momentum_stops sum w j o e f =
    err_unless (is_within3 (2 ^ 62) (momentum sum).ang && is_within3 (2 ^ 62) (momentum sum).lin) kind.Momentum (j + 1) o
    (f ∙ ap (λ x. over6 (2 ^ 62) (momentum sum) (radii6 settled_radius sum x 32)) e ∙ over6-is (2 ^ 62) (momentum sum) (momentum_radius sum) (momentum_radius-le sum))

-- a small radius is no fault of a product
pub product_over : (limit : ℕ) (v : ℤ) (r : ℕ) → r ≤ 2 ^ 13 → over limit v r ≡ over_value limit v
product_over limit v r h =
    ap (λ b. or_first (over_value limit v) (cond b (Some Radius) None)) (le-ltb radius_limit r (omega arith)) ∙ none (over_value limit v)
  where
    none : (o : Option Over) → or_first o None ≡ o
    none None = refl
    none (Some x) = refl

pub product_first : (limit : ℕ) (x : ℤ) (w : ℕ) (s h : Spatial ℤ) (r : Spatial ℕ) → x ≡ pair s h → w ≡ pair_width s no_size6 h r → w ≤ 6 * 2 ^ 42
    → over limit (settled_mid x 32) (settled_radius w (rounding_loss x 32) 32) ≡ over_value limit (rounded_product s h)
unfolding rounded_product rounded_radius
product_first limit x w s h r e f l =
    ap₂ (λ (a : ℤ) (b : ℕ). over limit (settled_mid a 32) (settled_radius b (rounding_loss a 32) 32)) e f
    ∙ product_over limit (rounded_product s h) (rounded_radius s h r) (rounded_radius-le s h r (subst (λ (n : ℕ). n ≤ 6 * 2 ^ 42) f l))
