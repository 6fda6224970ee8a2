-- The laws of `form`.
use Rattle.std.proofs.Common.{◌≡◌, ℕ, zero, suc, ◌*◌, ◌<◌, ◌≤◌, ◌==◌, Bool, ℤ, pos, ◌+ℤ◌, ◌-ℤ◌, ◌*ℤ◌, ◌≤ℤ◌, unsigned_abs, refl, sym, ap, ap₂, ◌∙◌, arith, mul-le-mul_left, eq-eqb, inl, inr}
use Rattle.std.proofs.lemmas.Bool.{cases_eq, ne_eqb}
use Rattle.std.proofs.lemmas.Int.{ints, unsigned_abs-mul}
use lib.IntN.{zero-*ℤ}
use Rattle.fx_whole.specs.Sums.{sum_to, sum_ℕ_to, when}
use Rattle.fx_whole.proofs.Ring.{ring, *ℤ_assoc, *ℤ_left_comm, square_nonneg, mul_nonneg, abs_square}
use Rattle.fx_whole.proofs.SumLaws.{sum_to-ext, sum_to-sub, sum_to-scale_left, sum_to-scale_right, sum_to-swap, sum_to-single, sum_to-size, sum_to-nonneg, sum_ℕ_to-ext, sum_ℕ_to-mono, sum_ℕ_to-scale_left, when-true, when-false}
use Rattle.mj_quadratic.specs.Forms.{row_times, form, square_length, row_size, IsSymmetric, less_diagonal, product, error}
use Rattle.mj_quadratic.proofs.Sizes.{form_weighs}

-- ---- ring steps
crossed : (d x y : ℤ) → (d *ℤ x) *ℤ y ≡ (d *ℤ y) *ℤ x
crossed d x y = simp ring (omega (arith, ints))

turned : (y d l u : ℤ) → y *ℤ ((d *ℤ l) *ℤ u) ≡ (l *ℤ y) *ℤ (d *ℤ u)
turned y d l u = simp ring (omega (arith, ints))

parted : (m c p y : ℤ) → (m *ℤ c -ℤ p) *ℤ y ≡ (m *ℤ y) *ℤ c -ℤ p *ℤ y
parted m c p y = simp ring (omega (arith, ints))

spread : (y a c b : ℤ) → y *ℤ (a *ℤ c -ℤ b) ≡ (y *ℤ a) *ℤ c -ℤ y *ℤ b
spread y a c b = simp ring (omega (arith, ints))

apart : (m w y : ℤ) → (m -ℤ w) *ℤ y ≡ m *ℤ y -ℤ w *ℤ y
apart m w y = simp ring (omega (arith, ints))

drawn : (y a s : ℤ) → y *ℤ (a -ℤ s *ℤ y) ≡ y *ℤ a -ℤ s *ℤ (y *ℤ y)
drawn y a s = simp ring (omega (arith, ints))

-- ---- L^T D L gives a sum of squares
module _ (n : ℕ) (d : ℕ → ℤ) (l : ℕ → ℕ → ℤ) (y : ℕ → ℤ) where
  inner : (i : ℕ) → row_times n (λ i j. sum_to n (product d l i j)) y i ≡ sum_to n (λ r. (d r *ℤ l r i) *ℤ row_times n l y r)
  inner i =
      sum_to-ext n (λ j. sum_to n (product d l i j) *ℤ y j) (λ j. sum_to n (λ r. product d l i j r *ℤ y j)) (λ j p. sym (sum_to-scale_right n (product d l i j) (y j)))
      ∙ sum_to-swap n n (λ j r. product d l i j r *ℤ y j)
      ∙ sum_to-ext n (λ r. sum_to n (λ j. product d l i j r *ℤ y j)) (λ r. (d r *ℤ l r i) *ℤ row_times n l y r)
      (λ r p. sum_to-ext n (λ j. product d l i j r *ℤ y j) (λ j. (d r *ℤ l r i) *ℤ (l r j *ℤ y j)) (λ j q. *ℤ_assoc (d r *ℤ l r i) (l r j) (y j))
      ∙ sum_to-scale_left n (d r *ℤ l r i) (λ j. l r j *ℤ y j))

  pub form_is_squares : form n (λ i j. sum_to n (product d l i j)) y ≡ sum_to n (λ r. d r *ℤ (row_times n l y r *ℤ row_times n l y r))
  form_is_squares =
      sum_to-ext n (λ i. y i *ℤ row_times n (λ i j. sum_to n (product d l i j)) y i) (λ i. sum_to n (λ r. y i *ℤ ((d r *ℤ l r i) *ℤ row_times n l y r)))
      (λ i p. ap (λ x. y i *ℤ x) (inner i) ∙ sym (sum_to-scale_left n (y i) (λ r. (d r *ℤ l r i) *ℤ row_times n l y r)))
      ∙ sum_to-swap n n (λ i r. y i *ℤ ((d r *ℤ l r i) *ℤ row_times n l y r))
      ∙ sum_to-ext n (λ r. sum_to n (λ i. y i *ℤ ((d r *ℤ l r i) *ℤ row_times n l y r))) (λ r. d r *ℤ (row_times n l y r *ℤ row_times n l y r))
      (λ r p. sum_to-ext n (λ i. y i *ℤ ((d r *ℤ l r i) *ℤ row_times n l y r)) (λ i. (l r i *ℤ y i) *ℤ (d r *ℤ row_times n l y r)) (λ i q. turned (y i) (d r) (l r i) (row_times n l y r))
      ∙ sum_to-scale_right n (λ i. l r i *ℤ y i) (d r *ℤ row_times n l y r)
      ∙ *ℤ_left_comm (row_times n l y r) (d r) (row_times n l y r))

  -- which isn't negative where no pivot is
  pub squares_nonneg : ((r : ℕ) → r < n → pos 0 ≤ℤ d r) → pos 0 ≤ℤ form n (λ i j. sum_to n (product d l i j)) y
  squares_nonneg h =
      rw form_is_squares
      (sum_to-nonneg n (λ r. d r *ℤ (row_times n l y r *ℤ row_times n l y r))
      (λ r p. mul_nonneg (d r) (row_times n l y r *ℤ row_times n l y r) (h r p) (square_nonneg (row_times n l y r))))

-- ---- its parts
module _ (n : ℕ) (y : ℕ → ℤ) where
  pub form_of_error : (w : ℤ) (m : ℕ → ℕ → ℤ) (d : ℕ → ℤ) (l : ℕ → ℕ → ℤ)
      → form n (error n w m d l) y ≡ form n m y *ℤ w -ℤ form n (λ i j. sum_to n (product d l i j)) y
  form_of_error w m d l =
      sum_to-ext n (λ i. y i *ℤ row_times n (error n w m d l) y i) (λ i. (y i *ℤ row_times n m y i) *ℤ w -ℤ y i *ℤ row_times n p y i)
      (λ i q. ap (λ x. y i *ℤ x) (row i) ∙ spread (y i) (row_times n m y i) w (row_times n p y i))
      ∙ sum_to-sub n (λ i. (y i *ℤ row_times n m y i) *ℤ w) (λ i. y i *ℤ row_times n p y i)
      ∙ ap (λ x. x -ℤ form n p y) (sum_to-scale_right n (λ i. y i *ℤ row_times n m y i) w)
    where
      p : ℕ → ℕ → ℤ
      p i j = sum_to n (product d l i j)

      row : (i : ℕ) → row_times n (error n w m d l) y i ≡ row_times n m y i *ℤ w -ℤ row_times n p y i
      row i =
          sum_to-ext n (λ j. error n w m d l i j *ℤ y j) (λ j. (m i j *ℤ y j) *ℤ w -ℤ p i j *ℤ y j) (λ j q. parted (m i j) w (p i j) (y j))
          ∙ sum_to-sub n (λ j. (m i j *ℤ y j) *ℤ w) (λ j. p i j *ℤ y j)
          ∙ ap (λ x. x -ℤ row_times n p y i) (sum_to-scale_right n (λ j. m i j *ℤ y j) w)

  pub form_of_less : (c : ℤ) (m : ℕ → ℕ → ℤ) → form n (less_diagonal c m) y ≡ form n m y -ℤ c *ℤ square_length n y
  form_of_less c m =
      sum_to-ext n (λ i. y i *ℤ row_times n (less_diagonal c m) y i) (λ i. y i *ℤ row_times n m y i -ℤ c *ℤ (y i *ℤ y i))
      (λ i q. ap (λ x. y i *ℤ x) (row i q) ∙ drawn (y i) (row_times n m y i) c)
      ∙ sum_to-sub n (λ i. y i *ℤ row_times n m y i) (λ i. c *ℤ (y i *ℤ y i))
      ∙ ap (λ x. form n m y -ℤ x) (sum_to-scale_left n c (λ i. y i *ℤ y i))
    where
      alone : (i : ℕ) → i < n → sum_to n (λ j. when (i == j) c *ℤ y j) ≡ c *ℤ y i
      alone i q =
          sum_to-single n i (λ j. when (i == j) c *ℤ y j) q
          (λ j p e. ap (λ x. x *ℤ y j) (when-false (i == j) c (ne_eqb i j (λ s. e (sym s)))) ∙ zero-*ℤ (y j))
          ∙ ap (λ x. x *ℤ y i) (when-true (i == i) c (eq-eqb i i refl))

      row : (i : ℕ) → i < n → row_times n (less_diagonal c m) y i ≡ row_times n m y i -ℤ c *ℤ y i
      row i q =
          sum_to-ext n (λ j. less_diagonal c m i j *ℤ y j) (λ j. m i j *ℤ y j -ℤ when (i == j) c *ℤ y j) (λ j p. apart (m i j) (when (i == j) c) (y j))
          ∙ sum_to-sub n (λ j. m i j *ℤ y j) (λ j. when (i == j) c *ℤ y j)
          ∙ ap (λ x. row_times n m y i -ℤ x) (alone i q)

-- ---- symmetry goes on
pub less_is_symmetric : (n : ℕ) (c : ℤ) (m : ℕ → ℕ → ℤ) → IsSymmetric n m → IsSymmetric n (less_diagonal c m)
less_is_symmetric n c m same i j h k = ap₂ (λ x (b : Bool). x -ℤ when b c) (same i j h k) (turn i j)
  where
    turn : (i j : ℕ) → (i == j) ≡ (j == i)
    turn i j = elim (cases_eq i j) [
      | inl e ↦ eq-eqb i j e ∙ sym (eq-eqb j i (sym e))
      | inr e ↦ ne_eqb i j e ∙ sym (ne_eqb j i (λ s. e (sym s)))
    ]

pub error_is_symmetric : (n : ℕ) (w : ℤ) (m : ℕ → ℕ → ℤ) (d : ℕ → ℤ) (l : ℕ → ℕ → ℤ) → IsSymmetric n m → IsSymmetric n (error n w m d l)
error_is_symmetric n w m d l same i j h k =
    ap₂ (λ x y. x *ℤ w -ℤ y) (same i j h k) (sum_to-ext n (product d l i j) (product d l j i) (λ r p. crossed (d r) (l r i) (l r j)))

-- ---- its size
pub square_length_size : (n : ℕ) (y : ℕ → ℤ) → square_length n y ≡ pos (sum_ℕ_to n (λ i. unsigned_abs (y i) * unsigned_abs (y i)))
square_length_size zero y = refl
square_length_size (suc n) y = ap₂ (λ a b. a +ℤ b) (square_length_size n y) (sym (abs_square (y n)))

pub form_size : (n g : ℕ) (e : ℕ → ℕ → ℤ) (y : ℕ → ℤ) → IsSymmetric n e → ((i : ℕ) → i < n → row_size n e i ≤ g)
    → unsigned_abs (form n e y) ≤ g * sum_ℕ_to n (λ i. unsigned_abs (y i) * unsigned_abs (y i))
form_size n g e y same rows =
    omega (
      arith,
      sum_to-size n (λ i. y i *ℤ row_times n e y i),
      sum_ℕ_to-mono n (λ i. unsigned_abs (y i *ℤ row_times n e y i)) (λ i. sum_ℕ_to n (λ j. a i j * (z i * z j))) (λ i p. row i),
      form_weighs n g z a (λ i j p q. ap unsigned_abs (same i j p q)) rows,
    )
  where
    a : ℕ → ℕ → ℕ
    a i j = unsigned_abs (e i j)

    z : ℕ → ℕ
    z i = unsigned_abs (y i)

    sorted : (x b c : ℕ) → x * (b * c) ≡ b * (x * c)
    sorted x b c = omega arith

    row : (i : ℕ) → unsigned_abs (y i *ℤ row_times n e y i) ≤ sum_ℕ_to n (λ j. a i j * (z i * z j))
    row i =
        omega (
          arith,
          unsigned_abs-mul (y i) (row_times n e y i),
          mul-le-mul_left (z i) (sum_to-size n (λ j. e i j *ℤ y j)),
          sum_ℕ_to-scale_left n (z i) (λ j. unsigned_abs (e i j *ℤ y j)),
          sum_ℕ_to-ext n (λ j. z i * unsigned_abs (e i j *ℤ y j)) (λ j. a i j * (z i * z j))
              (λ j q. ap (λ (x : ℕ). z i * x) (unsigned_abs-mul (e i j) (y j)) ∙ sorted (z i) (a i j) (z j)),
        )
