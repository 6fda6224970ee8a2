-- Sums and first faults over two counts that are one.
use Rattle.std.proofs.Common.{◌≡◌, ℕ, ◌<◌, ℤ, Option, ap, ◌∙◌}
use Rattle.fx_whole.specs.First.{first_to}
use Rattle.fx_whole.specs.Sums.{sum_to}
use Rattle.fx_whole.proofs.FirstLaws.{first_ext}
use Rattle.fx_whole.proofs.SumLaws.{sum_to-ext}

pub sum-same : (m n : ℕ) (f g : ℕ → ℤ) → m ≡ n → ((k : ℕ) → k < m → f k ≡ g k) → sum_to m f ≡ sum_to n g
sum-same m n f g e h = sum_to-ext m f g h ∙ ap (λ (k : ℕ). sum_to k g) e

pub first-same : {F : Type 0} → (m n : ℕ) (f g : ℕ → Option F) → m ≡ n → ((k : ℕ) → k < m → f k ≡ g k) → first_to m f ≡ first_to n g
first-same m n f g e h = first_ext m f g h ∙ ap (λ (k : ℕ). first_to k g) e
