-- Sizes of numbers, and numbers past the end of a list.
use Rattle.std.proofs.Common.{◌≡◌, ℕ, ◌≤◌, ℤ, pos, unsigned_abs, List, length, sym, ap, subst, le_trans}
use Rattle.std.proofs.lemmas.List.{get_or_past}
use Rattle.fx_num.specs.declared.number.Number.{Number}
use Rattle.mj_types.specs.Parts.{number_at, plain}

pub past_end : {F : ℕ} → (xs : List (Number (Unit {0}) F)) (d : ℕ) → length xs ≤ d → number_at xs d ≡ pos 0
past_end {F = F} xs d h = ap (λ (x : Number (Unit {0}) F). x.mid) (get_or_past xs d (plain (pos 0)) h)

-- what is at most n in size, which is m
pub at_most : (x n m : ℤ) (limit : ℕ) → unsigned_abs x ≤ unsigned_abs n → n ≡ m → unsigned_abs m ≤ limit → unsigned_abs x ≤ limit
at_most x n m limit h e g = le_trans h (subst (λ (k : ℤ). unsigned_abs k ≤ limit) (sym e) g)
