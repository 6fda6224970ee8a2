-- The mass matrix of a state is symmetric: of two dofs at most one is above the other.
use Rattle.std.proofs.Common.{◌≡◌, ℕ, ◌<◌, ◌==◌, ◌||◌, Bool, true, false, cond, pos, ◌≢◌, refl, sym, ap₂, arith, inl, inr}
use Rattle.std.proofs.lemmas.Bool.{cases_eq, ne_eqb}
use Rattle.mj_factor.proofs.PlaceLaws.{forest_in}
use Rattle.mj_inertia.specs.MassEntries.{joins, entry, momentum, momentum_sum, mirrored, mass}
use Rattle.mj_kin.specs.Placings.{placing}
use Rattle.mj_types.specs.declared.model.Model.{Model}
use Rattle.mj_types.specs.declared.state.State.{State}
use Rattle.mj_types.specs.Forests.{above_in}
use Rattle.mj_step.specs.Steps.{mass_of}

-- where each is above the other they are one
mirror : {A : Type 0} (p q : Bool) (none x y : A) → (p ≡ true → q ≡ true → x ≡ y) → cond p x (cond q y none) ≡ cond q y (cond p x none)
mirror true true none x y h = h refl refl
mirror true false none x y h = refl
mirror false true none x y h = refl
mirror false false none x y h = refl

or_case : (a b : Bool) → (a || b) ≡ true → a ≡ false → b ≡ true
or_case true b h e = cc
or_case false b h e = h

mirrored-symmetric : {A : Type 0} (joins : ℕ → ℕ → Bool) (none : A) (f : ℕ → ℕ → A) (i j : ℕ) → (joins i j ≡ true → joins j i ≡ true → i ≡ j)
    → mirrored joins none f i j ≡ mirrored joins none f j i
mirrored-symmetric joins none f i j one = mirror (joins i j) (joins j i) none (f i j) (f j i) (λ h k. ap₂ f (one h k) (sym (one h k)))

one_joined : (m : Model) (i j : ℕ) → joins m i j ≡ true → joins m j i ≡ true → i ≡ j
one_joined m i j h k = elim (cases_eq i j) [
  | inl e ↦ e
  | inr ne ↦ absurd (apart ne)
]
  where
    apart : i ≢ j → ⊥
    apart ne =
        let up : i < j = (forest_in m).before i j (or_case (i == j) (above_in m i j) h (ne_eqb i j ne)) in
        let down : j < i = (forest_in m).before j i (or_case (j == i) (above_in m j i) k (ne_eqb j i (λ e. ne (sym e)))) in
        omega (arith, up, down)

pub mass_of-symmetric : (m : Model) (s : State) (i j : ℕ) → mass_of m s i j ≡ mass_of m s j i
unfolding mass_of mass
mass_of-symmetric m s i j =
    let column = (placing m s).column in
    let inertia = (placing m s).inertia in
    mirrored-symmetric (joins m) (pos 0) (λ i j. entry m (column i) (momentum (momentum_sum m column inertia j)) i j) i j (one_joined m i j)
