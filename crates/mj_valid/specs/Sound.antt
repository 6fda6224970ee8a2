-- What is known of the tables of an accepted model before its lists are laid out.
use Rattle.std.specs.Prelude.{◌≤◌, length}
use Rattle.mj_types.specs.Lawful.{AreOptions, AreTendons, AreMotors, AreEqualities}
use Rattle.mj_layout.specs.Layout.{joints_on, placed, geoms_of}
use Rattle.mj_layout.specs.Parted.{AreParted, AreWorldly}
use Rattle.mj_valid.specs.declared.walked.Walked.{Walked}

pub record IsSound (w : Walked) : Type 0 where
  pub options : AreOptions w.first.settings.h w.first.settings.gravity w.first.settings.iterations w.first.settings.tolerance w.first.settings.njmax w.first.format
  pub parts : AreParted w.first.parts
  pub world : AreWorldly w.first.world
  pub few_geoms : length (geoms_of w.first.world w.first.parts) ≤ 128
  pub few_joints : length (joints_on w.first.parts) ≤ 64
  pub tendons : AreTendons (placed (joints_on w.first.parts)) w.naming.tendons
  pub motors : AreMotors (placed (joints_on w.first.parts)) w.naming.tendons w.naming.motors
  pub equalities : AreEqualities (placed (joints_on w.first.parts)) w.naming.equalities
