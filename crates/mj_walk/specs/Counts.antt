-- How many objects a raw model has. A joint whose type isn't known counts as one dof.
use Rattle.std.specs.Prelude.{ℕ, ◌+◌, nat_le, nat_lt, List, [], length, codes, Option, Some, None, sum_by}
use Rattle.mj_types.specs.declared.parts.JointKind.{JointKind}
use Rattle.mj_types.specs.declared.status.ModelCode.TheVariants as code
use Rattle.mj_types.specs.Parts.{velocity_count}
use Rattle.mj_form.specs.Reading.{Read, ◌>>◌, at_key}
use Rattle.mj_read.specs.declared.bodies.RawBody.{RawBody}
use Rattle.mj_read.specs.declared.document.RawModel.{RawModel}
use Rattle.mj_judge.specs.Judged.{unless}
use Rattle.mj_judge.specs.Choices.{joint_type}

abbrev pub type_velocities : Option JointKind → ℕ
type_velocities None = 1
type_velocities (Some kind) = velocity_count kind

abbrev pub body_dofs : RawBody → ℕ
body_dofs b = sum_by (λ j. type_velocities (joint_type j.kind)) b.joint

abbrev pub dof_count : List RawBody → ℕ
dof_count bodies = sum_by body_dofs bodies

abbrev pub geom_count : RawModel → ℕ
geom_count raw = length raw.geom + sum_by (λ b. length b.geom) raw.body

-- at most that many
abbrev pub few : List ℕ → ℕ → ℕ → Read (Unit {0})
few key count most = at_key key (unless (nat_le count most) code.LimitPassed)

-- some dof
abbrev pub some_dof : ℕ → Read (Unit {0})
some_dof count = at_key [] (unless (nat_lt 0 count) code.EmptyModel)

unfoldable pub counts : RawModel → Read (Unit {0})
counts raw = do
  few (codes "body") (length raw.body) 128
  few (codes "geom") (geom_count raw) 128
  few (codes "tendon") (length raw.tendon) 64
  few (codes "motor") (length raw.motor) 64
  few (codes "equality") (length raw.equality) 64
  few (codes "dof") (dof_count raw.body) 64
  some_dof (dof_count raw.body)
