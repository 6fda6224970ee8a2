-- A form that is nowhere below low y . y, and the ball that follows.
use Rattle.std.proofs.Common.{◌≡◌, ℕ, ◌+◌, ◌*◌, ◌<◌, ◌≤◌, ℤ, pos, negsuc, ◌+ℤ◌, ◌-ℤ◌, ◌*ℤ◌, neg_ℤ, ◌<ℤ◌, ◌≤ℤ◌, unsigned_abs, ap, ap₂, ◌∙◌, arith, mul-le-mul_left, mul-le-mul_right, le_of_mul-le-mul_right}
use Rattle.std.proofs.lemmas.Int.{ints, unsigned_abs-mul}
use Rattle.fx_whole.specs.Sums.{sum_to, sum_ℕ_to}
use Rattle.fx_whole.proofs.Ring.{ring, le_of_mul, abs-neg}
use Rattle.fx_whole.proofs.SumLaws.{sum_to-ext, sum_to-sub, sum_to-scale_left, sum_to-size, sum_ℕ_to-ext, sum_ℕ_to-scale_left}
use Rattle.mj_quadratic.specs.Forms.{row_times, form, row_size, IsSymmetric, less_diagonal, product, error}
use Rattle.mj_quadratic.specs.Balls.{miss, Encloses}
use Rattle.mj_quadratic.proofs.Sizes.{largest, largest_square, products_below, square_below}
use Rattle.mj_quadratic.proofs.FormLaws.{squares_nonneg, form_of_error, form_of_less, less_is_symmetric, error_is_symmetric, square_length_size, form_size}

-- y . y as a natural
abbrev pub length_size : ℕ → (ℕ → ℤ) → ℕ
length_size n y = sum_ℕ_to n (λ i. unsigned_abs (y i) * unsigned_abs (y i))

-- f is y . m y, f' that of the shifted matrix, e that of the error, q the squares; c is the shift, u is y . y
low_step : (f f' e q : ℤ) (c w g low u : ℕ) → f' ≡ f -ℤ pos c *ℤ pos u → e ≡ f' *ℤ pos w -ℤ q → pos 0 ≤ℤ q → unsigned_abs e ≤ g * u → low * w + g ≤ c * w
    → ((pos low *ℤ pos u) *ℤ pos w) ≤ℤ (f *ℤ pos w)
low_step f f' e q c w g low u ef ee hq he h =
    let whole : f *ℤ pos w ≡ e +ℤ q +ℤ (pos c *ℤ pos u) *ℤ pos w = parts f (pos c *ℤ pos u) (pos w) e q (ee ∙ ap (λ x. x *ℤ pos w -ℤ q) ef) in
    let scaled : (low * w + g) * u ≤ c * w * u = mul-le-mul_right u h in
    last (f *ℤ pos w) e q c w g low u whole hq he (omega (arith, scaled))
  where
    parts : (f s w e q : ℤ) → e ≡ (f -ℤ s) *ℤ w -ℤ q → f *ℤ w ≡ e +ℤ q +ℤ s *ℤ w
    parts f s w e q h = rw h (simp ring (omega (arith, ints)))

    last : (x e q : ℤ) (c w g low u : ℕ) → x ≡ e +ℤ q +ℤ (pos c *ℤ pos u) *ℤ pos w → pos 0 ≤ℤ q → unsigned_abs e ≤ g * u → low * u * w + g * u ≤ c * u * w → ((pos low *ℤ pos u) *ℤ pos w) ≤ℤ x
    last x e q c w g low u ex hq he h = sized x e q (c * u * w) (low * u * w) (g * u) ex hq he h
      where
        sized : (x e q : ℤ) (a b t : ℕ) → x ≡ e +ℤ q +ℤ pos a → pos 0 ≤ℤ q → unsigned_abs e ≤ t → b + t ≤ a → pos b ≤ℤ x
        sized x e q a b t ex hq he h = omega (arith, ints)

module _ (n : ℕ) (m : ℕ → ℕ → ℤ) (same : IsSymmetric n m) (c w g low : ℕ) (d : ℕ → ℤ) (l : ℕ → ℕ → ℤ)
    (pivots : (r : ℕ) → r < n → pos 0 ≤ℤ d r)
    (rows : (i : ℕ) → i < n → row_size n (error n (pos w) (less_diagonal (pos c) m) d l) i ≤ g)
    (some : 0 < w) (enough : low * w + g ≤ c * w) where
  pub form_at_least : (y : ℕ → ℤ) → (pos low *ℤ pos (length_size n y)) ≤ℤ form n m y
  form_at_least y =
      le_of_mul (pos low *ℤ pos (length_size n y)) (form n m y) (pos w) (omega (arith, ints))
      (low_step (form n m y) (form n (less_diagonal (pos c) m) y) (form n (error n (pos w) (less_diagonal (pos c) m) d l) y) (form n (λ i j. sum_to n (product d l i j)) y)
      c w g low (length_size n y)
      (form_of_less n y (pos c) m ∙ ap (λ x. form n m y -ℤ pos c *ℤ x) (square_length_size n y))
      (form_of_error n y (pos w) (less_diagonal (pos c) m) d l)
      (squares_nonneg n d l y pivots)
      (form_size n g (error n (pos w) (less_diagonal (pos c) m) d l) y
      (error_is_symmetric n (pos w) (less_diagonal (pos c) m) d l (less_is_symmetric n (pos c) m same)) rows)
      enough)

-- ---- the ball
-- what a solution's way from a gives
missed : (n : ℕ) (m : ℕ → ℕ → ℤ) (a s x : ℕ → ℤ) (v d : ℤ) (i : ℕ) → row_times n m x i ≡ d *ℤ (s i *ℤ v)
    → row_times n m (λ j. x j -ℤ d *ℤ a j) i ≡ neg_ℤ (d *ℤ miss n m a s v i)
missed n m a s x v d i h =
    sum_to-ext n (λ j. m i j *ℤ (x j -ℤ d *ℤ a j)) (λ j. m i j *ℤ x j -ℤ d *ℤ (m i j *ℤ a j)) (λ j p. parted (m i j) (x j) d (a j))
    ∙ sum_to-sub n (λ j. m i j *ℤ x j) (λ j. d *ℤ (m i j *ℤ a j))
    ∙ ap₂ (λ p q. p -ℤ q) h (sum_to-scale_left n d (λ j. m i j *ℤ a j))
    ∙ joined d (s i *ℤ v) (row_times n m a i)
  where
    parted : (m x d a : ℤ) → m *ℤ (x -ℤ d *ℤ a) ≡ m *ℤ x -ℤ d *ℤ (m *ℤ a)
    parted m x d a = simp ring (omega (arith, ints))

    joined : (d p q : ℤ) → d *ℤ p -ℤ d *ℤ q ≡ neg_ℤ (d *ℤ (q -ℤ p))
    joined d p q = simp ring (omega (arith, ints))

-- z are the sizes of the way, t those of the misses
radius_step : (n : ℕ) (z t : ℕ → ℕ) (low r d : ℕ) → 0 < low → sum_ℕ_to n t ≤ r * low → low * sum_ℕ_to n (λ i. z i * z i) ≤ d * sum_ℕ_to n (λ i. z i * t i)
    → sum_ℕ_to n (λ i. z i * z i) ≤ (d * r) * (d * r)
radius_step n z t low r d some enough h =
    let g = largest n z in
    let top : sum_ℕ_to n (λ i. z i * t i) ≤ g * (r * low) = omega (arith, products_below n z t, mul-le-mul_left g enough) in
    let over : sum_ℕ_to n (λ i. z i * z i) * low ≤ (g * (d * r)) * low = omega (arith, h, mul-le-mul_left d top) in
    square_below g (d * r) (sum_ℕ_to n (λ i. z i * z i)) (largest_square n z) (le_of_mul-le-mul_right over some)

pub ball_holds : (n : ℕ) (m : ℕ → ℕ → ℤ) (a s : ℕ → ℤ) (v : ℤ) (low r : ℕ) → 0 < low
    → ((y : ℕ → ℤ) → (pos low *ℤ pos (length_size n y)) ≤ℤ form n m y)
    → sum_ℕ_to n (λ i. unsigned_abs (miss n m a s v i)) ≤ r * low → Encloses n m a s v (pos r)
ball_holds n m a s v low r some least enough x d hd solves =
    let y = λ (i : ℕ). x i -ℤ d *ℤ a i in
    let z = λ (i : ℕ). unsigned_abs (y i) in
    let t = λ (i : ℕ). unsigned_abs (miss n m a s v i) in
    let value : form n m y ≡ sum_to n (λ i. y i *ℤ neg_ℤ (d *ℤ miss n m a s v i)) =
    sum_to-ext n (λ i. y i *ℤ row_times n m y i) (λ i. y i *ℤ neg_ℤ (d *ℤ miss n m a s v i)) (λ i p. ap (λ u. y i *ℤ u) (missed n m a s x v d i (solves i p))) in
    let size : unsigned_abs (form n m y) ≤ unsigned_abs d * sum_ℕ_to n (λ i. z i * t i) =
    omega (
      arith,
      ap unsigned_abs value,
      sum_to-size n (λ i. y i *ℤ neg_ℤ (d *ℤ miss n m a s v i)),
      sum_ℕ_to-ext n (λ i. unsigned_abs (y i *ℤ neg_ℤ (d *ℤ miss n m a s v i))) (λ i. unsigned_abs d * (z i * t i)) (λ i p. sized (y i) d (miss n m a s v i)),
      sum_ℕ_to-scale_left n (unsigned_abs d) (λ i. z i * t i),
    ) in
    let far : sum_ℕ_to n (λ i. z i * z i) ≤ (unsigned_abs d * r) * (unsigned_abs d * r) =
    radius_step n z t low r (unsigned_abs d) some enough (below (form n m y) (low) (length_size n y) (unsigned_abs d * sum_ℕ_to n (λ i. z i * t i)) (least y) size) in
    rw (square_length_size n y) (squared d hd (sum_ℕ_to n (λ i. z i * z i)) r far)
  where
    sized : (y d t : ℤ) → unsigned_abs (y *ℤ neg_ℤ (d *ℤ t)) ≡ unsigned_abs d * (unsigned_abs y * unsigned_abs t)
    sized y d t = omega (arith, unsigned_abs-mul y (neg_ℤ (d *ℤ t)), ap (λ (x : ℕ). unsigned_abs y * x) (abs-neg (d *ℤ t) ∙ unsigned_abs-mul d t))

    below : (f : ℤ) (low u b : ℕ) → (pos low *ℤ pos u) ≤ℤ f → unsigned_abs f ≤ b → low * u ≤ b
    below f low u b h k = sized' f (low * u) b h k
      where
        sized' : (f : ℤ) (x b : ℕ) → pos x ≤ℤ f → unsigned_abs f ≤ b → x ≤ b
        sized' f x b h k = omega (arith, ints)

    squared : (d : ℤ) → pos 0 <ℤ d → (u r : ℕ) → u ≤ (unsigned_abs d * r) * (unsigned_abs d * r) → pos u ≤ℤ ((d *ℤ d) *ℤ (pos r *ℤ pos r))
    squared (pos d) h u r k = natural d u r (omega (arith, k))
      where
        natural : (d u r : ℕ) → u ≤ (d * d) * (r * r) → pos u ≤ℤ ((pos d *ℤ pos d) *ℤ (pos r *ℤ pos r))
        natural d u r k = omega (arith, ints)
    squared (negsuc d) h u r k = absurd (omega (arith, ints))
