-- Records are equal where their fields are.
use Rattle.std.proofs.Common.{◌≡◌, ℤ, ap, ◌∙◌}
use Rattle.fx_vec.specs.Vectors.{Triple}
use Rattle.fx_vec.specs.Spatial.{Spatial, Inertia}
use Rattle.fx_vec.specs.Quaternions.{Quaternion}

abbrev triple : {A : Type 0} → A → A → A → Triple A
triple x y z = record { x = x; y = y; z = z }

pub same3 : {A : Type 0} → (a b : Triple A) → a.x ≡ b.x → a.y ≡ b.y → a.z ≡ b.z → a ≡ b
same3 a b e f g = ap (λ x. triple x a.y a.z) e ∙ ap (λ y. triple b.x y a.z) f ∙ ap (λ z. triple b.x b.y z) g

abbrev spatial : {A : Type 0} → Triple A → Triple A → Spatial A
spatial ang lin = record { ang = ang; lin = lin }

pub same6 : {A : Type 0} → (a b : Spatial A) → a.ang ≡ b.ang → a.lin ≡ b.lin → a ≡ b
same6 a b e f = ap (λ x. spatial x a.lin) e ∙ ap (λ y. spatial b.ang y) f

abbrev inertia : Triple ℤ → Triple ℤ → Triple ℤ → Triple ℤ → ℤ → Inertia
inertia x y z moment mass = record { row_x = x; row_y = y; row_z = z; moment = moment; mass = mass }

pub same_inertia : (a b : Inertia) → a.row_x ≡ b.row_x → a.row_y ≡ b.row_y → a.row_z ≡ b.row_z → a.moment ≡ b.moment → a.mass ≡ b.mass → a ≡ b
same_inertia a b x y z m k =
    ap (λ r. inertia r a.row_y a.row_z a.moment a.mass) x ∙ ap (λ r. inertia b.row_x r a.row_z a.moment a.mass) y ∙ ap (λ r. inertia b.row_x b.row_y r a.moment a.mass) z
    ∙ ap (λ r. inertia b.row_x b.row_y b.row_z r a.mass) m ∙ ap (λ r. inertia b.row_x b.row_y b.row_z b.moment r) k

abbrev four : ℤ → ℤ → ℤ → ℤ → Quaternion
four w x y z = record { w = w; x = x; y = y; z = z }
