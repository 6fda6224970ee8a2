-- Inertias that are carried up the tree come to the sum over all bodies at or below each.
use Rattle.std.proofs.Common.{◌≡◌, ◌≢◌, ℕ, zero, suc, ◌+◌, ◌-◌, ◌*◌, ◌^◌, ◌<◌, ◌≤◌, ◌==◌, max, Bool, true, false, cond, List, length, refl, sym, ap, ◌∙◌, subst, arith, add-one, inl, inr, le_trans}
use Rattle.std.proofs.lemmas.Bool.{cases_eq, eq-eqb, ne_eqb, cond-true, cond-false}
use Rattle.fx_whole.specs.Adding.{sum_in, when_in}
use Rattle.fx_whole.proofs.AddingLaws.{sum_in-first, sum_in-holds, when_in-empty, empty_plus}
use Rattle.fx_whole.proofs.Ring.{abs-add}
use Rattle.fx_vec.specs.Vectors.{no_vector}
use Rattle.fx_vec.specs.Spatial.{Inertia, plus_inertia, no_inertia}
use Rattle.fx_vec.specs.Sizes.{Within}
use Rattle.fx_vec.specs.Sums.{inertias}
use Rattle.fx_vec.proofs.Bounds.{plus-within, within-le}
use Rattle.fx_vec.proofs.SumLaws.{inertias-is_adding}
use Rattle.mj_tree.specs.Tree.{at_or_above}
use Rattle.mj_tree.specs.TreeSums.{climb, held}
use Rattle.mj_tree.proofs.UpLaws.{held_start, held_step, held_end}
use Rattle.mj_types.specs.declared.model.Model.{Model}
use Rattle.mj_types.specs.declared.parts.Body.{Body}
use Rattle.mj_types.specs.Lawful.{AreBodies}
use Rattle.mj_types.specs.Parts.{parent_of}
use Rattle.mj_types.specs.Placed.{WithinInertia}
use Rattle.mj_types.proofs.LayoutLaws.{is_tree}
use Rattle.mj_inertia.specs.CompositeBodies.{is_under, composite}

-- inertias by the numbers of bodies: the world has none
abbrev numbered : (ℕ → Inertia) → ℕ → Inertia
numbered f zero = no_inertia
numbered f (suc k) = f k

-- what the entry of the body at place c holds once each body after number p was added to its parent
unfoldable pub carried : List Body → (ℕ → Inertia) → ℕ → ℕ → Inertia
carried bodies f p c = held inertias (parent_of bodies) (suc (length bodies)) (numbered f) p (suc c)

pub carried-start : (bodies : List Body) (f : ℕ → Inertia) (c : ℕ) → c < length bodies → carried bodies f (length bodies) c ≡ f c
unfolding carried
carried-start bodies f c h =
    held_start inertias inertias-is_adding (parent_of bodies) (suc (length bodies)) (numbered f) (length bodies) (suc c) (omega arith) (omega arith)

-- the body at place q was added to its parent
pub carried-step : (bodies : List Body) → AreBodies bodies → (f g h : ℕ → Inertia) (q : ℕ) → q < length bodies
    → ((c : ℕ) → c < length bodies → g c ≡ carried bodies f (suc q) c)
    → ((c : ℕ) → c < length bodies → h c ≡ cond (suc c == parent_of bodies (suc q)) (plus_inertia (g c) (g q)) (g c))
    → (c : ℕ) → c < length bodies → h c ≡ carried bodies f q c
unfolding carried
carried-step bodies lawful f g h q l before turn c k =
    held_step inertias inertias-is_adding (parent_of bodies) (is_tree bodies lawful) (suc (length bodies)) (numbered f) (suc q) q old new (omega arith) (omega arith) olds news (suc c) (omega arith)
  where
    old : ℕ → Inertia
    old zero = held inertias (parent_of bodies) (suc (length bodies)) (numbered f) (suc q) 0
    old (suc b) = g b

    new : ℕ → Inertia
    new zero = cond (0 == parent_of bodies (suc q)) (plus_inertia (old 0) (g q)) (old 0)
    new (suc b) = h b

    olds : (b : ℕ) → b < suc (length bodies) → old b ≡ held inertias (parent_of bodies) (suc (length bodies)) (numbered f) (suc q) b
    olds zero p = refl
    olds (suc b) p = before b (omega arith)

    news : (b : ℕ) → b < suc (length bodies) → new b ≡ cond (b == parent_of bodies (suc q)) (plus_inertia (old b) (g q)) (old b)
    news zero p = refl
    news (suc b) p = turn b (omega arith)

pub carried-end : (m : Model) (f : ℕ → Inertia) (c : ℕ) → carried m.bodies f 0 c ≡ composite m f c
unfolding carried composite
carried-end m f c =
    held_end inertias inertias-is_adding (parent_of m.bodies) (is_tree m.bodies m.of_bodies) (suc (length m.bodies)) (numbered f) 0 (suc c) (omega arith)
    ∙ sum_in-first inertias inertias-is_adding (length m.bodies) (λ k. when_in inertias (at_or_above (parent_of m.bodies) (suc c) k) (numbered f k))
    ∙ ap (λ x. plus_inertia x (composite m f c)) (when_in-empty inertias (at_or_above (parent_of m.bodies) (suc c) 0))
    ∙ empty_plus inertias inertias-is_adding (composite m f c)

-- all turns, of which g s is what the entries are after s
pub carried_up : (m : Model) (f : ℕ → Inertia) (g : ℕ → ℕ → Inertia) → ((c : ℕ) → c < length m.bodies → g 0 c ≡ f c)
    → ((s c : ℕ) → s < length m.bodies → c < length m.bodies → g (s + 1) c
    ≡ cond (suc c == parent_of m.bodies (suc (length m.bodies - 1 - s))) (plus_inertia (g s c) (g s (length m.bodies - 1 - s))) (g s c))
    → (c : ℕ) → c < length m.bodies → g (length m.bodies) c ≡ composite m f c
carried_up m f g first turn c h =
    subst (λ (p : ℕ). g (length m.bodies) c ≡ carried m.bodies f p c) none (after (length m.bodies) (omega arith) c h) ∙ carried-end m f c
  where
    none : length m.bodies - length m.bodies ≡ 0
    none = omega arith

    after : (s : ℕ) → s ≤ length m.bodies → (c : ℕ) → c < length m.bodies → g s c ≡ carried m.bodies f (length m.bodies - s) c
    after zero l c p =
        let all : length m.bodies ≡ length m.bodies - 0 = omega arith in
        first c p ∙ sym (carried-start m.bodies f c p) ∙ ap (λ (q : ℕ). carried m.bodies f q c) all
    after (suc s) l c p =
        let q : ℕ = length m.bodies - 1 - s in
        let before : length m.bodies - s ≡ suc q = omega arith in
        let behind : q ≡ length m.bodies - suc s = omega arith in
        ap (λ (t : ℕ). g t c) (sym (add-one s))
        ∙ carried-step m.bodies m.of_bodies f (g s) (g (s + 1)) q (omega arith)
        (λ k r. subst (λ (t : ℕ). g s k ≡ carried m.bodies f t k) before (after s (omega arith) k r)) (λ k r. turn s k (omega arith) r) c p
        ∙ ap (λ (t : ℕ). carried m.bodies f t c) behind

-- one turn of the loop: the entry of the parent alone is written
pub added : (bodies : List Body) (b parent : ℕ) (old new : ℕ → Inertia) → parent ≡ parent_of bodies (suc b) → 0 < parent
    → new (parent - 1) ≡ plus_inertia (old (parent - 1)) (old b) → ((c : ℕ) → c ≢ parent - 1 → new c ≡ old c)
    → (c : ℕ) → new c ≡ cond (suc c == parent_of bodies (suc b)) (plus_inertia (old c) (old b)) (old c)
added bodies b parent old new e h same others c =
    elim (cases_eq (suc c) parent) [
      | inl w ↦ here (omega arith) w
      | inr w ↦
          others c (λ x. w (omega arith))
          ∙ sym (cond-false (suc c == parent_of bodies (suc b)) (plus_inertia (old c) (old b)) (old c) (ne_eqb (suc c) (parent_of bodies (suc b)) (λ x. w (x ∙ sym e))))
    ]
  where
    here : c ≡ parent - 1 → suc c ≡ parent → new c ≡ cond (suc c == parent_of bodies (suc b)) (plus_inertia (old c) (old b)) (old c)
    here p w =
        subst (λ (x : ℕ). new x ≡ plus_inertia (old x) (old b)) (sym p) same
        ∙ sym (cond-true (suc c == parent_of bodies (suc b)) (plus_inertia (old c) (old b)) (old c) (eq-eqb (suc c) (parent_of bodies (suc b)) (w ∙ e)))

-- ---- sizes
no_inertia-within : (l : ℕ) → WithinInertia no_inertia l
no_inertia-within l = record { row_x = none; row_y = none; row_z = none; moment = none; mass = omega arith }
  where
    none : Within no_vector l
    none = record { x = omega arith; y = omega arith; z = omega arith }

plus_inertia-within : (a b : Inertia) (m n l : ℕ) → m + n ≤ l → WithinInertia a m → WithinInertia b n → WithinInertia (plus_inertia a b) l
plus_inertia-within a b m n l e h k = record {
  row_x = within-le _ (m + n) l (plus-within a.row_x b.row_x m n h.row_x k.row_x) e;
  row_y = within-le _ (m + n) l (plus-within a.row_y b.row_y m n h.row_y k.row_y) e;
  row_z = within-le _ (m + n) l (plus-within a.row_z b.row_z m n h.row_z k.row_z) e;
  moment = within-le _ (m + n) l (plus-within a.moment b.moment m n h.moment k.moment) e;
  mass = omega (arith, abs-add a.mass b.mass, h.mass, k.mass);
}

inertia-within-le : (a : Inertia) (m n : ℕ) → WithinInertia a m → m ≤ n → WithinInertia a n
inertia-within-le a m n h e = record {
  row_x = within-le a.row_x m n h.row_x e;
  row_y = within-le a.row_y m n h.row_y e;
  row_z = within-le a.row_z m n h.row_z e;
  moment = within-le a.moment m n h.moment e;
  mass = le_trans h.mass e;
}

when-within : (t : Bool) (a : Inertia) (l : ℕ) → WithinInertia a l → WithinInertia (when_in inertias t a) l
when-within true a l h = h
when-within false a l h = no_inertia-within l

sum-within : (n l limit : ℕ) (t : ℕ → Bool) (f : ℕ → Inertia) → ((k : ℕ) → k < n → WithinInertia (f k) l) → n * l ≤ limit
    → WithinInertia (sum_in inertias n (λ k. when_in inertias (t k) (f k))) limit
sum-within n l limit t f h e =
    inertia-within-le _ (n * l) limit
    (sum_in-holds inertias (λ k x. WithinInertia x (k * l)) n (λ k. when_in inertias (t k) (f k)) (no_inertia-within (0 * l)) next) e
  where
    next : (k : ℕ) (a : Inertia) → k < n → WithinInertia a (k * l) → WithinInertia (plus_inertia a (when_in inertias (t k) (f k))) (suc k * l)
    next k a p q = plus_inertia-within a (when_in inertias (t k) (f k)) (k * l) l (suc k * l) (omega arith) q (when-within (t k) (f k) l (h k p))

abbrev AreSmall : List Body → (ℕ → Inertia) → Type 0
AreSmall bodies f = (b : ℕ) → b < length bodies → WithinInertia (f b) (2 ^ 62)

pub carried-within : (bodies : List Body) (f : ℕ → Inertia) → AreBodies bodies → AreSmall bodies f
    → (p c : ℕ) → WithinInertia (carried bodies f p c) (2 ^ 70)
unfolding carried
carried-within bodies f lawful h p c =
    sum-within (suc (length bodies)) (2 ^ 62) (2 ^ 70) (λ k. climb (parent_of bodies) (max (suc c) p) k == suc c) (numbered f) each (omega (arith, lawful.few))
  where
    each : (k : ℕ) → k < suc (length bodies) → WithinInertia (numbered f k) (2 ^ 62)
    each zero q = no_inertia-within (2 ^ 62)
    each (suc k) q = h k (omega arith)

pub composite-within : (m : Model) (f : ℕ → Inertia) → AreSmall m.bodies f → (c : ℕ) → WithinInertia (composite m f c) (2 ^ 69)
unfolding composite
composite-within m f h c = sum-within (length m.bodies) (2 ^ 62) (2 ^ 69) (λ k. is_under m c k) f h (omega (arith, m.of_bodies.few))
