-- The diagonal entry of a row, and the first fault of its reduction.
use Rattle.std.proofs.Common.{◌≡◌, ℕ, ◌<◌, Bool, true, false, cond, ℤ, ◌*ℤ◌, List, length, Option, None, sym, ap, ◌∙◌}
use Rattle.std.proofs.lemmas.Bool.{cond-true, cond-false}
use Rattle.fx_whole.specs.First.{or_first}
use Rattle.fx_whole.specs.Sums.{sum_to}
use Rattle.fx_whole.proofs.FirstLaws.{pass_first}
use Rattle.fx_whole.proofs.SumLaws.{sum_to-ext}
use Rattle.fx_num.specs.declared.number.Number.{Number}
use Rattle.mj_types.specs.Parts.{number_at}
use Rattle.mj_dual.specs.Products.{square_sum}
use Rattle.mj_dual.specs.Reductions.{Dynamics, reduced, diagonal}

-- of the numbers of G that were written
pub diagonal_is : (y : Dynamics) (j : ℕ → ℤ) (g : List (Number (Unit {0}) 24)) → length g ≡ y.motion.dofs
    → ((k : ℕ) → k < y.motion.dofs → number_at g k ≡ reduced y j k) → square_sum (length g) (number_at g) ≡ diagonal y j
unfolding square_sum
diagonal_is y j g e h =
    ap (λ (n : ℕ). sum_to n (λ k. number_at g k *ℤ number_at g k)) e
    ∙ sum_to-ext y.motion.dofs (λ k. number_at g k *ℤ number_at g k) (λ k. reduced y j k *ℤ reduced y j k) (λ k l. ap (λ x. x *ℤ x) (h k l))

pub diagonal_whole : (g : List (Number (Unit {0}) 24)) (n : ℕ) → length g ≡ n → square_sum (length g) (number_at g) ≡ sum_to n (λ k. number_at g k *ℤ number_at g k)
unfolding square_sum
diagonal_whole g n e = ap (λ (m : ℕ). sum_to m (λ k. number_at g k *ℤ number_at g k)) e

-- ---- three calls in a row, of which the third is made where the row isn't idle
pub reduction_idle : {F : Type 0} → (a b rest : Option F) (idle : Bool) → None ≡ a → None ≡ b → idle ≡ true → None ≡ or_first a (or_first b (cond idle None rest))
reduction_idle {F = F} a b rest idle h g i = pass_first a _ None h (pass_first b _ None g (sym (cond-true {A = Option F} idle None rest i)))

pub reduction_active : {F : Type 0} → (a b rest r : Option F) (idle : Bool) → None ≡ a → None ≡ b → idle ≡ false → r ≡ rest → r ≡ or_first a (or_first b (cond idle None rest))
reduction_active {F = F} a b rest r idle h g i e = pass_first a _ r h (pass_first b _ r g (e ∙ sym (cond-false {A = Option F} idle None rest i)))
