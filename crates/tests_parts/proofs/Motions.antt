-- The mass matrix and the bias forces of the pendulum, and those of a free body that spins.
use Rattle.std.proofs.Common.{◌≡◌, ℕ, zero, suc, ◌-◌, ◌^◌, false, cond, ℤ, pos, neg_ℤ, refl}
use Rattle.std.specs.Prelude.{nat_lt}
use Rattle.fx_whole.specs.Nearest.{nearest}
use Rattle.fx_vec.specs.Spatial.{Inertia, Spatial, inertia_times, plus6, plus_inertia}
use Rattle.fx_vec.specs.Vectors.{Triple, no_vector}
use Rattle.mj_tree.specs.Tree.{at_or_above}
use Rattle.mj_tree.specs.TreeSums.{climb}
use Rattle.mj_inertia.specs.MassEntries.{momentum, rounded_product}
use Rattle.mj_bias.specs.Biases.{body_acceleration, body_momentum, body_velocity, carrier, carrier_sum, column_rate, dof_bias, acceleration_sum, load, load_sum, own_wrench, velocity_sum}
use Rattle.mj_bias.specs.Movement.{Movement}

abbrev one : ℤ
one = pos 4294967296

abbrev across : Triple ℤ
across = record { x = pos 0; y = one; z = pos 0 }

abbrev up : Triple ℤ
up = record { x = pos 0; y = pos 0; z = one }

abbrev forth : Triple ℤ
forth = record { x = one; y = pos 0; z = pos 0 }

-- the columns of hinges about y through the origin and through x = 1: what turns so moves what is at the origin up
abbrev first : Spatial ℤ
first = record { ang = across; lin = no_vector }

abbrev second : Spatial ℤ
second = record { ang = across; lin = up }

-- a point of mass 1 at x, whose square is x2, at scale 40
abbrev point : ℤ → ℤ → Inertia
point x x2 = record {
  row_x = no_vector;
  row_y = record { x = pos 0; y = x2; z = pos 0 };
  row_z = record { x = pos 0; y = pos 0; z = x2 };
  moment = record { x = x; y = pos 0; z = pos 0 };
  mass = pos (2 ^ 40);
}

abbrev near : Inertia
near = point (pos (2 ^ 40)) (pos (2 ^ 40))

abbrev far : Inertia
far = point (pos (2 ^ 41)) (pos (2 ^ 42))

-- ---- the mass matrix is 5 2 / 2 1
mass_11 : rounded_product first (momentum (inertia_times (plus_inertia near far) first)) ≡ pos 5497558138880
unfolding momentum rounded_product nearest
mass_11 = refl

mass_12 : rounded_product first (momentum (inertia_times far second)) ≡ pos 2199023255552
unfolding momentum rounded_product nearest
mass_12 = refl

mass_22 : rounded_product second (momentum (inertia_times far second)) ≡ pos 1099511627776
unfolding momentum rounded_product nearest
mass_22 = refl

-- ---- at rest its bias forces hold it: -(1 + 2) 8 at the first hinge, and -8 at the second
abbrev pendulum : Movement
pendulum = record {
  bodies = 2;
  dofs = 2;
  parent = λ k. k - 1;
  body = λ j. suc j;
  base = λ j. j;
  constant = λ j. false;
  column = columns;
  inertia = inertias;
  speed = λ j. pos 0;
  gravity = record { x = pos 0; y = pos 0; z = neg_ℤ (pos 34359738368) };
}
  where
    columns : ℕ → Spatial ℤ
    columns zero = first
    columns (suc j) = second

    inertias : ℕ → Inertia
    inertias zero = near
    inertias (suc b) = far

held_first : dof_bias pendulum 0 ≡ neg_ℤ (pos 103079215104)
unfolding dof_bias load load_sum own_wrench body_acceleration acceleration_sum body_momentum body_velocity velocity_sum column_rate carrier carrier_sum at_or_above climb nearest
held_first = refl

held_second : dof_bias pendulum 1 ≡ neg_ℤ (pos 34359738368)
unfolding dof_bias load load_sum own_wrench body_acceleration acceleration_sum body_momentum body_velocity velocity_sum column_rate carrier carrier_sum at_or_above climb nearest
held_second = refl

-- ---- a body at the origin of mass 1 and inertia 1, 2, 4 that goes along x and turns about (1, 1, 1), without gravity
abbrev spun : Inertia
spun = record {
  row_x = record { x = pos (2 ^ 40); y = pos 0; z = pos 0 };
  row_y = record { x = pos 0; y = pos (2 ^ 41); z = pos 0 };
  row_z = record { x = pos 0; y = pos 0; z = pos (2 ^ 42) };
  moment = no_vector;
  mass = pos (2 ^ 40);
}

abbrev body : Movement
body = record {
  bodies = 1;
  dofs = 6;
  parent = λ k. 0;
  body = λ j. 1;
  base = λ j. cond (nat_lt j 3) 0 3;
  constant = λ j. nat_lt j 3;
  column = columns;
  inertia = λ b. spun;
  speed = speeds;
  gravity = no_vector;
}
  where
    columns : ℕ → Spatial ℤ
    columns zero = record { ang = no_vector; lin = forth }
    columns (suc zero) = record { ang = no_vector; lin = across }
    columns (suc (suc zero)) = record { ang = no_vector; lin = up }
    columns (suc (suc (suc zero))) = record { ang = forth; lin = no_vector }
    columns (suc (suc (suc (suc zero)))) = record { ang = across; lin = no_vector }
    columns (suc (suc (suc (suc (suc j))))) = record { ang = up; lin = no_vector }

    speeds : ℕ → ℤ
    speeds zero = one
    speeds (suc zero) = pos 0
    speeds (suc (suc zero)) = pos 0
    speeds (suc (suc (suc j))) = one

-- along the axes nothing, and about them (1, 1, 1) x (1, 2, 4)
along_x : dof_bias body 0 ≡ pos 0
unfolding dof_bias load load_sum own_wrench body_acceleration acceleration_sum body_momentum body_velocity velocity_sum column_rate carrier carrier_sum at_or_above climb nearest
along_x = refl

along_y : dof_bias body 1 ≡ pos 0
unfolding dof_bias load load_sum own_wrench body_acceleration acceleration_sum body_momentum body_velocity velocity_sum column_rate carrier carrier_sum at_or_above climb nearest
along_y = refl

along_z : dof_bias body 2 ≡ pos 0
unfolding dof_bias load load_sum own_wrench body_acceleration acceleration_sum body_momentum body_velocity velocity_sum column_rate carrier carrier_sum at_or_above climb nearest
along_z = refl

about_x : dof_bias body 3 ≡ pos 8589934592
unfolding dof_bias load load_sum own_wrench body_acceleration acceleration_sum body_momentum body_velocity velocity_sum column_rate carrier carrier_sum at_or_above climb nearest
about_x = refl

about_y : dof_bias body 4 ≡ neg_ℤ (pos 12884901888)
unfolding dof_bias load load_sum own_wrench body_acceleration acceleration_sum body_momentum body_velocity velocity_sum column_rate carrier carrier_sum at_or_above climb nearest
about_y = refl

about_z : dof_bias body 5 ≡ pos 4294967296
unfolding dof_bias load load_sum own_wrench body_acceleration acceleration_sum body_momentum body_velocity velocity_sum column_rate carrier carrier_sum at_or_above climb nearest
about_z = refl
