-- One number more of u is moved.
use Rattle.std.proofs.Common.{◌≡◌, ◌≢◌, ℕ, ◌+◌, ◌*◌, ◌^◌, ◌<◌, ◌≤◌, ℤ, pos, ◌+ℤ◌, ◌*ℤ◌, unsigned_abs, SFits, to_z, of_z, List, length, get_or, None, Some, refl, sym, ap, ◌∙◌, subst, arith, inl, inr}
use Rattle.std.proofs.lemmas.Bool.{cases_eq}
use Rattle.std.proofs.lemmas.Int.{fits_signed_from_abs, to_z-of_z}
use mir.Syntax.{w64}
use Rattle.fx_whole.proofs.Ring.{abs_mul_le, abs-add}
use Rattle.fx_whole.specs.First.{first_to}
use Rattle.fx_whole.proofs.FirstLaws.{pass_more}
use Rattle.fx_num.specs.declared.number.Number.{Number}
use Rattle.mj_types.specs.Parts.{number_at, plain}
use Rattle.mj_pgs.specs.Holding.{IsShifted, moved, shift_fault}

-- so far, in a loop over the dofs
pub record ShiftedSoFar {F G : ℕ} (row : List (Number (Unit {0}) F)) (old new : List (Number (Unit {0}) G)) (step : ℤ) (n : ℕ) : Type 0 where
  pub len : length new ≡ length old
  pub shifted : IsShifted row old new step n
  pub passed : first_to n (shift_fault row old step) ≡ None

pub shifted-more : {F G : ℕ} (row : List (Number (Unit {0}) F)) (old mid new : List (Number (Unit {0}) G)) (step : ℤ) (n : ℕ) (x : Number (Unit {0}) G)
    → ShiftedSoFar row old mid step n → length new ≡ length mid → get_or new n (plain (pos 0)) ≡ x → ((d : Number (Unit {0}) G) (j : ℕ) → j ≢ n → get_or new j d ≡ get_or mid j d)
    → x.mid ≡ moved row old step n → unsigned_abs x.mid ≤ 2 ^ 59 → None ≡ shift_fault row old step n → ShiftedSoFar row old new step (n + 1)
shifted-more {G = G} row old mid new step n x so len same others value small none =
    record {
      len = len ∙ so.len;
      shifted = record {
        here = λ k h. elim (cases_eq k n) [
          | inl e ↦ (let v : number_at new n ≡ moved row old step n = ap (λ y. y.mid) same ∙ value in subst (λ j. number_at new j ≡ moved row old step j) (sym e) v)
          | inr e ↦ ap (λ y. y.mid) (others (plain (pos 0)) k e) ∙ so.shifted.here k (omega arith)
        ];
        past = λ k h. ap (λ y. y.mid) (others (plain (pos 0)) k (λ e. absurd (omega arith))) ∙ so.shifted.past k (omega arith);
        near = λ k h. elim (cases_eq k n) [
          | inl e ↦ (let v : unsigned_abs (number_at new n) ≤ 2 ^ 59 = subst (λ (y : Number (Unit {0}) G). unsigned_abs y.mid ≤ 2 ^ 59) (sym same) small in subst (λ j. unsigned_abs (number_at new j) ≤ 2 ^ 59) (sym e) v)
          | inr e ↦ subst (λ (y : Number (Unit {0}) G). unsigned_abs y.mid ≤ 2 ^ 59) (sym (others (plain (pos 0)) k e)) (so.shifted.near k (omega arith))
        ];
      };
      passed = pass_more n (shift_fault row old step) so.passed none;
    }

-- a small step moves a number of u within 64 bits
pub small-moved : (u g s : ℤ) → unsigned_abs u ≤ 2 ^ 59 → unsigned_abs g ≤ 2 ^ 44 → unsigned_abs s ≤ 2 ^ 18
    → to_z w64 (of_z w64 (to_z w64 (of_z w64 u) +ℤ to_z w64 (of_z w64 (to_z w64 (of_z w64 g) *ℤ to_z w64 (of_z w64 s))))) ≡ u +ℤ g *ℤ s
small-moved u g s hu hg hs =
    let fu : SFits w64 u = fits_signed_from_abs w64 u (omega arith) in
    let fg : SFits w64 g = fits_signed_from_abs w64 g (omega arith) in
    let fs : SFits w64 s = fits_signed_from_abs w64 s (omega arith) in
    let size : unsigned_abs (g *ℤ s) ≤ 2 ^ 44 * 2 ^ 18 = abs_mul_le g s (2 ^ 44) (2 ^ 18) hg hs in
    let fp : SFits w64 (g *ℤ s) = fits_signed_from_abs w64 (g *ℤ s) (omega arith) in
    let sum : unsigned_abs (u +ℤ g *ℤ s) ≤ unsigned_abs u + unsigned_abs (g *ℤ s) = abs-add u (g *ℤ s) in
    let ft : SFits w64 (u +ℤ g *ℤ s) = fits_signed_from_abs w64 (u +ℤ g *ℤ s) (omega arith) in
    simp to_z-of_z
