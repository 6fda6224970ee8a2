-- What a trace tells behind a step's block where it is asked to: a ball around the acceleration, and the inverse dynamics. Formats of this project's own.
use Rattle.std.specs.Prelude.{ℕ, ℤ, List, ◌++◌, codes, decimal, Option, Some, None}
use Rattle.std.specs.Fmt.{signed_decimal}
use Rattle.fx_whole.specs.Joined.{joined}
use Rattle.mj_types.specs.declared.wants.Ball.{Ball}
use Rattle.mj_types.specs.declared.wants.Inverse.{Inverse}
use Rattle.mj_types.specs.Parts.{number_at}
use Rattle.mj_types.specs.StepValues.{DualValues}
use Rattle.mj_trace.specs.Block.{two_text}
use Rattle.mj_trace.specs.Lines.{spaced}

-- ---- a ball: its shift, the part of a square that is left, and its radius
abbrev pub found_text : Ball → List ℕ
found_text ball =
    (((((codes "ball " ++ decimal ball.shift) ++ codes " ") ++ signed_decimal ball.low) ++ codes " ") ++ signed_decimal ball.radius) ++ codes "\n"

abbrev pub ball_text : Option Ball → List ℕ
ball_text None = codes "ball none\n"
ball_text (Some ball) = found_text ball

-- ---- the inverse dynamics of a step: the force of each of the dual's rows by itself, the gap and the discrepancy
pub record InverseValues : Type 0 where
  pub x : ℕ → ℤ
  pub gap : ℤ
  pub discrepancy : ℤ

abbrev pub inverse_values : Inverse → InverseValues
inverse_values i = record { x = number_at i.x; gap = i.gap; discrepancy = i.discrepancy }

-- row i of the dual: its number in the list of rows, and its force
abbrev pub row_force_text : (ℕ → ℕ) → (ℕ → ℤ) → ℕ → List ℕ
row_force_text place x i = ((codes "x " ++ decimal (place i)) ++ spaced (x i)) ++ codes "\n"

unfoldable pub inverse_text : DualValues → InverseValues → List ℕ
inverse_text d v = two_text (codes "inverse ") v.gap v.discrepancy ++ joined d.problem.m (row_force_text d.place v.x)
