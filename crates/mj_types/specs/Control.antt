-- Controls, and how many of them a tape holds.
use Rattle.std.specs.Prelude.{◌≡◌, ℕ, ◌*◌, ◌^◌, ◌≤◌, unsigned_abs, List, length}
use Rattle.std.specs.List.{All}
use Rattle.fx_num.specs.declared.number.Number.{Number}

-- a control at scale 32
abbrev pub Control : Type 0
Control = Number (Unit {0}) 32

-- the greatest raw size of a control
abbrev pub control_limit : ℕ
control_limit = 2 ^ 52

-- one row after the other, each of this width
abbrev pub FillsRows : ℕ → ℕ → List Control → Type 0
FillsRows rows width values = length values ≡ rows * width

-- each control is at most 2^20, which is 2^52 raw
abbrev pub AreSmall : List Control → Type 0
AreSmall values = All (λ x. unsigned_abs x.mid ≤ control_limit) values
