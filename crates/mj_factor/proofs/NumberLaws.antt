-- Lists of plain numbers: a write, and lists that hold a function below their length; and the root of a pivot.
use Rattle.std.proofs.Common.{◌≡◌, ◌≢◌, ℕ, ◌^◌, ◌<◌, ◌≤◌, ◌*ℤ◌, ◌<ℤ◌, ◌≤ℤ◌, ℤ, pos, List, length, set, sym, ap, ◌∙◌, inl, inr, get_or-set_same, get_or-set_other, arith}
use Rattle.std.proofs.lemmas.Bool.{cases_lt}
use Rattle.std.proofs.lemmas.Int.{ints}
use Rattle.std.proofs.lemmas.List.{get_or_past}
use Rattle.std.proofs.Math.Path.{fun_ext}
use Rattle.fx_whole.proofs.RootLaws.{isqrt-mono, isqrt-square}
use Rattle.fx_num.specs.declared.number.Number.{Number}
use Rattle.mj_types.specs.Parts.{number_at, plain}
use Rattle.mj_factor.specs.Solves.{pivot_root}

pub number_at_same : {F : ℕ} (xs : List (Number (Unit {0}) F)) (i : ℕ) (x : Number (Unit {0}) F) → i < length xs → number_at (set xs i x) i ≡ x.mid
number_at_same {F = F} xs i x h = ap (λ (y : Number (Unit {0}) F). y.mid) (get_or-set_same xs i x (plain (pos 0)) h)

pub number_at_other : {F : ℕ} (xs : List (Number (Unit {0}) F)) (i j : ℕ) (x : Number (Unit {0}) F) → j ≢ i → number_at (set xs i x) j ≡ number_at xs j
number_at_other {F = F} xs i j x h = ap (λ (y : Number (Unit {0}) F). y.mid) (get_or-set_other xs i j x (plain (pos 0)) h)

pub number_at_past : {F : ℕ} (xs : List (Number (Unit {0}) F)) (i : ℕ) → length xs ≤ i → number_at xs i ≡ pos 0
number_at_past {F = F} xs i h = ap (λ (y : Number (Unit {0}) F). y.mid) (get_or_past xs i (plain (pos 0)) h)

-- a list of n numbers that holds f below n, where f is 0 past it
pub number_at_is : {F : ℕ} (xs : List (Number (Unit {0}) F)) (n : ℕ) (f : ℕ → ℤ) → length xs ≡ n → ((i : ℕ) → i < n → number_at xs i ≡ f i)
    → ((i : ℕ) → n ≤ i → f i ≡ pos 0) → number_at xs ≡ f
number_at_is xs n f e each none =
    fun_ext (λ i. elim (cases_lt i n) [
      | inl h ↦ each i h
      | inr h ↦ number_at_past xs i (omega (arith, e)) ∙ sym (none i h)
    ])

-- a pivot's root isn't 0
pub pivot_root_some : (d : ℤ) → pos (2 ^ 10) ≤ℤ d → pos 0 <ℤ pivot_root d
pivot_root_some d h = omega (arith, ints, isqrt-square (pos 1) (omega (arith, ints)), isqrt-mono (pos 1) (d *ℤ pos (2 ^ 24)) (omega (arith, ints)))
