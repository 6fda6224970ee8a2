-- What judging one key gives: a value, or what is wrong with it.
use Rattle.std.specs.Prelude.{Bool, if◌then◌else◌, Result, Ok, Err}
use Rattle.mj_types.specs.declared.status.ModelCode.{ModelCode}
use Rattle.mj_types.specs.declared.status.ModelCode.TheVariants as code

abbrev pub Judged : Type 0 → Type 0
Judged A = Result A ModelCode

-- wrong in that way, unless this holds
abbrev pub unless : Bool → ModelCode → Judged (Unit {0})
unless good wrong = if good then Ok tt else Err wrong

-- the value, or a limit is passed
abbrev pub limited : {A : Type 0} → Bool → A → Judged A
limited good x = if good then Ok x else Err code.LimitPassed
