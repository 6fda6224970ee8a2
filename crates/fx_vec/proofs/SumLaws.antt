-- Sums of vectors and of inertias don't depend on order, and linear maps go through them.
use Rattle.std.proofs.Common.{◌≡◌, ℕ, ◌+◌, ℤ, pos, ◌+ℤ◌, ◌-ℤ◌, ◌*ℤ◌, ◌∙◌, ap, arith}
use Rattle.std.proofs.lemmas.Int.{ints}
use Rattle.fx_whole.specs.Adding.{IsAdding, sum_in, integers}
use Rattle.fx_whole.proofs.AddingLaws.{sum_in-map}
use Rattle.fx_whole.proofs.Ring.{ring}
use Rattle.fx_vec.specs.Vectors.{Triple, no_vector, dot, cross, plus, minus, times}
use Rattle.fx_vec.specs.Spatial.{Spatial, Inertia, plus6, no_spatial, plus_inertia, no_inertia, pair, turned, inertia_times}
use Rattle.fx_vec.specs.Sizes.{plus_size, no_size, plus6_size, no_size6}
use Rattle.fx_vec.specs.Sums.{vectors, sizes, inertias}
use Rattle.fx_vec.proofs.Same.{same3, same6, same_inertia}

-- ---- the order and the grouping don't matter
alone_ℤ : (a : ℤ) → a +ℤ pos 0 ≡ a
alone_ℤ a = omega (arith, ints)

swap_ℤ : (a b : ℤ) → a +ℤ b ≡ b +ℤ a
swap_ℤ a b = omega (arith, ints)

group_ℤ : (a b c : ℤ) → a +ℤ b +ℤ c ≡ a +ℤ (b +ℤ c)
group_ℤ a b c = omega (arith, ints)

alone_ℕ : (a : ℕ) → a + 0 ≡ a
alone_ℕ a = omega arith

swap_ℕ : (a b : ℕ) → a + b ≡ b + a
swap_ℕ a b = omega arith

group_ℕ : (a b c : ℕ) → a + b + c ≡ a + (b + c)
group_ℕ a b c = omega arith

plus-alone : (a : Triple ℤ) → plus a no_vector ≡ a
plus-alone a = same3 (plus a no_vector) a (alone_ℤ a.x) (alone_ℤ a.y) (alone_ℤ a.z)

plus-swap : (a b : Triple ℤ) → plus a b ≡ plus b a
plus-swap a b = same3 (plus a b) (plus b a) (swap_ℤ a.x b.x) (swap_ℤ a.y b.y) (swap_ℤ a.z b.z)

plus-group : (a b c : Triple ℤ) → plus (plus a b) c ≡ plus a (plus b c)
plus-group a b c = same3 (plus (plus a b) c) (plus a (plus b c)) (group_ℤ a.x b.x c.x) (group_ℤ a.y b.y c.y) (group_ℤ a.z b.z c.z)

size-alone : (a : Triple ℕ) → plus_size a no_size ≡ a
size-alone a = same3 (plus_size a no_size) a (alone_ℕ a.x) (alone_ℕ a.y) (alone_ℕ a.z)

size-swap : (a b : Triple ℕ) → plus_size a b ≡ plus_size b a
size-swap a b = same3 (plus_size a b) (plus_size b a) (swap_ℕ a.x b.x) (swap_ℕ a.y b.y) (swap_ℕ a.z b.z)

size-group : (a b c : Triple ℕ) → plus_size (plus_size a b) c ≡ plus_size a (plus_size b c)
size-group a b c = same3 (plus_size (plus_size a b) c) (plus_size a (plus_size b c)) (group_ℕ a.x b.x c.x) (group_ℕ a.y b.y c.y) (group_ℕ a.z b.z c.z)

pub vectors-is_adding : IsAdding vectors
vectors-is_adding = record {
  alone = λ a. same6 (plus6 a no_spatial) a (plus-alone a.ang) (plus-alone a.lin);
  swap = λ a b. same6 (plus6 a b) (plus6 b a) (plus-swap a.ang b.ang) (plus-swap a.lin b.lin);
  group = λ a b c. same6 (plus6 (plus6 a b) c) (plus6 a (plus6 b c)) (plus-group a.ang b.ang c.ang) (plus-group a.lin b.lin c.lin);
}

pub sizes-is_adding : IsAdding sizes
sizes-is_adding = record {
  alone = λ a. same6 (plus6_size a no_size6) a (size-alone a.ang) (size-alone a.lin);
  swap = λ a b. same6 (plus6_size a b) (plus6_size b a) (size-swap a.ang b.ang) (size-swap a.lin b.lin);
  group = λ a b c. same6 (plus6_size (plus6_size a b) c) (plus6_size a (plus6_size b c)) (size-group a.ang b.ang c.ang) (size-group a.lin b.lin c.lin);
}

pub inertias-is_adding : IsAdding inertias
inertias-is_adding = record {
  alone = λ a. same_inertia (plus_inertia a no_inertia) a (plus-alone a.row_x) (plus-alone a.row_y) (plus-alone a.row_z) (plus-alone a.moment) (alone_ℤ a.mass);
  swap = λ a b. same_inertia (plus_inertia a b) (plus_inertia b a) (plus-swap a.row_x b.row_x) (plus-swap a.row_y b.row_y) (plus-swap a.row_z b.row_z) (plus-swap a.moment b.moment) (swap_ℤ a.mass b.mass);
  group = λ a b c. same_inertia (plus_inertia (plus_inertia a b) c) (plus_inertia a (plus_inertia b c))
      (plus-group a.row_x b.row_x c.row_x) (plus-group a.row_y b.row_y c.row_y) (plus-group a.row_z b.row_z c.row_z) (plus-group a.moment b.moment c.moment) (group_ℤ a.mass b.mass c.mass);
}

-- ---- products are linear
dot-plus_left : (a b v : Triple ℤ) → dot (plus a b) v ≡ dot a v +ℤ dot b v
dot-plus_left a b v = numbers a.x a.y a.z b.x b.y b.z v.x v.y v.z
  where
    numbers : (a b c d e f x y z : ℤ) → (a +ℤ d) *ℤ x +ℤ (b +ℤ e) *ℤ y +ℤ (c +ℤ f) *ℤ z ≡ (a *ℤ x +ℤ b *ℤ y +ℤ c *ℤ z) +ℤ (d *ℤ x +ℤ e *ℤ y +ℤ f *ℤ z)
    numbers a b c d e f x y z = simp ring (omega (arith, ints))

dot-plus_right : (v a b : Triple ℤ) → dot v (plus a b) ≡ dot v a +ℤ dot v b
dot-plus_right v a b = numbers a.x a.y a.z b.x b.y b.z v.x v.y v.z
  where
    numbers : (a b c d e f x y z : ℤ) → x *ℤ (a +ℤ d) +ℤ y *ℤ (b +ℤ e) +ℤ z *ℤ (c +ℤ f) ≡ (x *ℤ a +ℤ y *ℤ b +ℤ z *ℤ c) +ℤ (x *ℤ d +ℤ y *ℤ e +ℤ z *ℤ f)
    numbers a b c d e f x y z = simp ring (omega (arith, ints))

dot-empty : (v : Triple ℤ) → dot v no_vector ≡ pos 0
dot-empty v = numbers v.x v.y v.z
  where
    numbers : (x y z : ℤ) → x *ℤ pos 0 +ℤ y *ℤ pos 0 +ℤ z *ℤ pos 0 ≡ pos 0
    numbers x y z = simp ring (omega (arith, ints))

pub pair-plus : (s f g : Spatial ℤ) → pair s (plus6 f g) ≡ pair s f +ℤ pair s g
pair-plus s f g = four _ _ (dot s.ang f.ang) (dot s.ang g.ang) (dot s.lin f.lin) (dot s.lin g.lin) (dot-plus_right s.ang f.ang g.ang) (dot-plus_right s.lin f.lin g.lin)
  where
    four : (p q a b c d : ℤ) → p ≡ a +ℤ b → q ≡ c +ℤ d → p +ℤ q ≡ (a +ℤ c) +ℤ (b +ℤ d)
    four p q a b c d e f = omega (arith, ints)

pub pair-empty : (s : Spatial ℤ) → pair s no_spatial ≡ pos 0
pair-empty s = two _ _ (dot-empty s.ang) (dot-empty s.lin)
  where
    two : (p q : ℤ) → p ≡ pos 0 → q ≡ pos 0 → p +ℤ q ≡ pos 0
    two p q e f = omega (arith, ints)

-- the power on a sum is the sum of the powers
pub pair-sum : (s : Spatial ℤ) (n : ℕ) (f : ℕ → Spatial ℤ) → pair s (sum_in vectors n f) ≡ sum_in integers n (λ k. pair s (f k))
pair-sum s n f = sum_in-map vectors integers (pair s) (pair-empty s) (pair-plus s) n f

minor-plus : (a b c d x y : ℤ) → (a +ℤ b) *ℤ x -ℤ (c +ℤ d) *ℤ y ≡ (a *ℤ x -ℤ c *ℤ y) +ℤ (b *ℤ x -ℤ d *ℤ y)
minor-plus a b c d x y = simp ring (omega (arith, ints))

cross-plus_left : (a b v : Triple ℤ) → cross (plus a b) v ≡ plus (cross a v) (cross b v)
cross-plus_left a b v = same3 (cross (plus a b) v) (plus (cross a v) (cross b v)) (minor-plus a.y b.y a.z b.z v.z v.y) (minor-plus a.z b.z a.x b.x v.x v.z) (minor-plus a.x b.x a.y b.y v.y v.x)

turned-plus : (i j : Inertia) (w : Triple ℤ) → turned (plus_inertia i j) w ≡ plus (turned i w) (turned j w)
turned-plus i j w = same3 (turned (plus_inertia i j) w) (plus (turned i w) (turned j w)) (dot-plus_left i.row_x j.row_x w) (dot-plus_left i.row_y j.row_y w) (dot-plus_left i.row_z j.row_z w)

scale-plus : (k l x : ℤ) → (k +ℤ l) *ℤ x ≡ k *ℤ x +ℤ l *ℤ x
scale-plus k l x = simp ring (omega (arith, ints))

times-plus : (k l : ℤ) (v : Triple ℤ) → times (k +ℤ l) v ≡ plus (times k v) (times l v)
times-plus k l v = same3 (times (k +ℤ l) v) (plus (times k v) (times l v)) (scale-plus k l v.x) (scale-plus k l v.y) (scale-plus k l v.z)

plus-across : (a b c d : Triple ℤ) → plus (plus a b) (plus c d) ≡ plus (plus a c) (plus b d)
plus-across a b c d = same3 (plus (plus a b) (plus c d)) (plus (plus a c) (plus b d)) (across a.x b.x c.x d.x) (across a.y b.y c.y d.y) (across a.z b.z c.z d.z)
  where
    across : (a b c d : ℤ) → (a +ℤ b) +ℤ (c +ℤ d) ≡ (a +ℤ c) +ℤ (b +ℤ d)
    across a b c d = omega (arith, ints)

minus-across : (a b c d : Triple ℤ) → minus (plus a b) (plus c d) ≡ plus (minus a c) (minus b d)
minus-across a b c d = same3 (minus (plus a b) (plus c d)) (plus (minus a c) (minus b d)) (across a.x b.x c.x d.x) (across a.y b.y c.y d.y) (across a.z b.z c.z d.z)
  where
    across : (a b c d : ℤ) → (a +ℤ b) -ℤ (c +ℤ d) ≡ (a -ℤ c) +ℤ (b -ℤ d)
    across a b c d = omega (arith, ints)

pub inertia_times-plus : (s : Spatial ℤ) (i j : Inertia) → inertia_times (plus_inertia i j) s ≡ plus6 (inertia_times i s) (inertia_times j s)
inertia_times-plus s i j =
    same6 (inertia_times (plus_inertia i j) s) (plus6 (inertia_times i s) (inertia_times j s))
    (ap (λ v. plus v (cross (plus i.moment j.moment) s.lin)) (turned-plus i j s.ang) ∙ ap (λ v. plus (plus (turned i s.ang) (turned j s.ang)) v) (cross-plus_left i.moment j.moment s.lin)
    ∙ plus-across (turned i s.ang) (turned j s.ang) (cross i.moment s.lin) (cross j.moment s.lin))
    (ap (λ v. minus v (cross (plus i.moment j.moment) s.ang)) (times-plus i.mass j.mass s.lin) ∙ ap (λ v. minus (plus (times i.mass s.lin) (times j.mass s.lin)) v) (cross-plus_left i.moment j.moment s.ang)
    ∙ minus-across (times i.mass s.lin) (times j.mass s.lin) (cross i.moment s.ang) (cross j.moment s.ang))

none : (x y z : ℤ) → pos 0 *ℤ x +ℤ pos 0 *ℤ y +ℤ pos 0 *ℤ z ≡ pos 0
none x y z = simp ring (omega (arith, ints))

no_minor : (x y : ℤ) → pos 0 *ℤ x -ℤ pos 0 *ℤ y ≡ pos 0
no_minor x y = simp ring (omega (arith, ints))

no_scale : (x : ℤ) → pos 0 *ℤ x ≡ pos 0
no_scale x = simp ring (omega (arith, ints))

turned-empty : (w : Triple ℤ) → turned no_inertia w ≡ no_vector
turned-empty w = same3 (turned no_inertia w) no_vector (none w.x w.y w.z) (none w.x w.y w.z) (none w.x w.y w.z)

cross-empty : (v : Triple ℤ) → cross no_vector v ≡ no_vector
cross-empty v = same3 (cross no_vector v) no_vector (no_minor v.z v.y) (no_minor v.x v.z) (no_minor v.y v.x)

times-empty : (v : Triple ℤ) → times (pos 0) v ≡ no_vector
times-empty v = same3 (times (pos 0) v) no_vector (no_scale v.x) (no_scale v.y) (no_scale v.z)

pub inertia_times-empty : (s : Spatial ℤ) → inertia_times no_inertia s ≡ no_spatial
inertia_times-empty s =
    same6 (inertia_times no_inertia s) no_spatial
    (ap (λ v. plus v (cross no_vector s.lin)) (turned-empty s.ang) ∙ ap (λ v. plus no_vector v) (cross-empty s.lin))
    (ap (λ v. minus v (cross no_vector s.ang)) (times-empty s.lin) ∙ ap (λ v. minus no_vector v) (cross-empty s.ang))

-- the momentum of a sum of inertias is the sum of their momenta
pub inertia_times-sum : (s : Spatial ℤ) (n : ℕ) (i : ℕ → Inertia) → inertia_times (sum_in inertias n i) s ≡ sum_in vectors n (λ k. inertia_times (i k) s)
inertia_times-sum s n i = sum_in-map inertias vectors (λ j. inertia_times j s) (inertia_times-empty s) (inertia_times-plus s) n i
