-- A tendon's terms, and its length, rate and force from exact sums.
use Rattle.std.proofs.Common.{◌≡◌, ℕ, ◌+◌, ◌<◌, ℤ, length, sym, ap, ap₂, ◌∙◌, subst, arith, inl, inr}
use Rattle.std.proofs.lemmas.Bool.{cases_eq}
use Rattle.fx_num.specs.Settled.{settled_mid}
use Rattle.mj_types.specs.declared.carriers.Applied.{Applied}
use Rattle.mj_types.specs.declared.model.Model.{Model}
use Rattle.mj_types.specs.declared.state.State.{State}
use Rattle.mj_types.specs.declared.parts.Tendon.{Tendon}
use Rattle.mj_types.specs.Parts.{tendon, number_at}
use Rattle.mj_passive.specs.Forces.{over_terms, q_at, v_at, tendon_length, tendon_rate, tension_of, tension_from}
use Rattle.mj_passive.specs.Taken.{AreTerms, WritesStretch, HasStretches}

pub are_terms : (m : Model) (t : ℕ) → t < length m.tendons → AreTerms m (tendon m.tendons t).terms
are_terms m t h = let x = m.of_tendons.each t h in record { few = x.few; scalar = x.scalar; coef = x.coef }

pub length_is : (m : Model) (s : State) (t : ℕ) (a : Tendon) (raw : ℤ) → tendon m.tendons t ≡ a → raw ≡ over_terms a.terms (q_at m s)
    → settled_mid raw 32 ≡ tendon_length m s t
unfolding tendon_length
length_is m s t a raw e f = ap (λ (x : ℤ). settled_mid x 32) (f ∙ ap (λ (x : Tendon). over_terms x.terms (q_at m s)) (sym e))

pub rate_is : (m : Model) (s : State) (t : ℕ) (a : Tendon) (raw : ℤ) → tendon m.tendons t ≡ a → raw ≡ over_terms a.terms (v_at m s)
    → settled_mid raw 32 ≡ tendon_rate m s t
unfolding tendon_rate
rate_is m s t a raw e f = ap (λ (x : ℤ). settled_mid x 32) (f ∙ ap (λ (x : Tendon). over_terms x.terms (v_at m s)) (sym e))

pub tension_is : (m : Model) (s : State) (t : ℕ) (a : Tendon) (length_ rate motors : ℤ) → tendon m.tendons t ≡ a
    → length_ ≡ tendon_length m s t → rate ≡ tendon_rate m s t → tension_of a length_ rate motors ≡ tension_from m s t motors
tension_is m s t a length_ rate motors e f g =
    ap₂ (λ (x y : ℤ). tension_of a x y motors) f g ∙ ap (λ (x : Tendon). tension_of x (tendon_length m s t) (tendon_rate m s t) motors) (sym e)

-- one tendon more is written
pub stretch_more : (m : Model) (s : State) (t : ℕ) (old new : Applied) → HasStretches m s t old → WritesStretch m s t old new → HasStretches m s (t + 1) new
stretch_more m s t old new h w = record {
  lengths = λ k l. elim (cases_eq k t) [
    | inl e ↦ subst (λ (n : ℕ). number_at new.length n ≡ tendon_length m s n) (sym e) w.length_
    | inr e ↦ w.other_lengths k e ∙ h.lengths k (omega arith)
  ];
  rates = λ k l. elim (cases_eq k t) [
    | inl e ↦ subst (λ (n : ℕ). number_at new.rate n ≡ tendon_rate m s n) (sym e) w.rate
    | inr e ↦ w.other_rates k e ∙ h.rates k (omega arith)
  ];
}
