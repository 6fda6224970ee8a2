-- What a solver begins with.
use Rattle.std.proofs.Common.{◌≡◌, ◌≢◌, ℕ, ◌+◌, ◌^◌, ◌<◌, ◌≤◌, ℤ, pos, unsigned_abs, List, length, get_or, refl, sym, ap, ◌∙◌, subst, arith, inl, inr}
use Rattle.std.proofs.Math.Path.{fun_ext}
use Rattle.std.proofs.lemmas.Bool.{cases_eq}
use Rattle.fx_whole.specs.declared.reciprocal.Divisor.{Divisor}
use Rattle.fx_num.specs.declared.number.Number.{Number}
use Rattle.mj_optimum.specs.Cost.{reach}
use Rattle.mj_optimum.specs.Sweep.{divisor}
use Rattle.mj_optimum.proofs.CostLaws.{reach_of_zero}
use Rattle.mj_types.specs.declared.dual.Dual.{Dual}
use Rattle.mj_types.specs.declared.dual.Forces.{Forces}
use Rattle.mj_types.specs.Duals.{entry_at}
use Rattle.mj_types.specs.Parts.{number_at}
use Rattle.mj_types.specs.Problems.{IsSolvable, problem, forces}
use Rattle.mj_pgs.specs.Holding.{HasPlaces, HaveSamePlaces, IsReady, IsHeld}
use Rattle.mj_pgs.proofs.RowLaws.{IsPut}

-- row i is prepared
pub ready-more : (d : Dual) (x y : Forces) (i n : ℕ) (by : Divisor) (row : List (Number (Unit {0}) 24)) → i < d.m → IsPut x.divisor y.divisor i by → IsPut x.used y.used i n → by.d ≡ divisor (problem d) i
    → length row ≡ d.nv → ((k : ℕ) → k < d.nv → number_at row k ≡ entry_at d.nv d.g i k) → n ≤ length row → ((k : ℕ) → n ≤ k → k < length row → number_at row k ≡ pos 0)
    → ((j : ℕ) → j < i → IsReady d x j) → (j : ℕ) → j < i + 1 → IsReady d y j
ready-more d x y i n by row h put_by put_used value width numbers within zero before j l =
    elim (cases_eq j i) [
      | inl e ↦ subst (IsReady d y) (sym e) here
      | inr e ↦ (let r = before j (omega arith) in record {
        divisor = λ a. ap (λ b. b.d) (put_by.others a j e) ∙ r.divisor a;
        used_room = subst (λ a. a ≤ d.nv) (sym (put_used.others 0 j e)) r.used_room;
        unused = λ k m. r.unused k (subst (λ a. a ≤ k) (put_used.others 0 j e) m);
      })
    ]
  where
    here : IsReady d y i
    here =
        record {
          divisor = λ a. ap (λ b. b.d) (put_by.same a) ∙ value;
          used_room = subst (λ a. a ≤ d.nv) (sym (put_used.same 0)) (omega arith);
          unused = λ k m q. sym (numbers k q) ∙ zero k (subst (λ a. a ≤ k) (put_used.same 0) m) (omega arith);
        }

pub zero-forces : (f : List (Number (Unit {0}) 20)) → ((i : ℕ) → number_at f i ≡ pos 0) → number_at f ≡ (λ _. pos 0)
zero-forces f zero = fun_ext zero

pub started : (d : Dual) (x y : Forces) → IsSolvable d → HasPlaces d x → HaveSamePlaces x y → ((i : ℕ) → number_at y.f i ≡ pos 0) → ((k : ℕ) → number_at y.u k ≡ pos 0) → ((j : ℕ) → j < d.m → IsReady d y j) → IsHeld d y
started d x y solvable places same f_zero u_zero ready =
    record {
      solvable = solvable;
      places = record { f = omega (arith, places.f, same.f); u = omega (arith, places.u, same.u); divisor = omega (arith, places.divisor, same.divisor); used = omega (arith, places.used, same.used) };
      ready = ready;
      reached = λ k h. u_zero k ∙ sym (ap (λ (f : ℕ → ℤ). reach (problem d) f k) (zero-forces y.f f_zero) ∙ reach_of_zero (problem d) k);
      small = λ i h. subst (λ (a : ℤ). unsigned_abs a ≤ 2 ^ 50) (sym (f_zero i)) (omega arith);
      near = λ k h. subst (λ (a : ℤ). unsigned_abs a ≤ 2 ^ 59) (sym (u_zero k)) (omega arith);
    }
