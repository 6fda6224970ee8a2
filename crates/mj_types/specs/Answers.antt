-- The number of a status, and the names of a model's codes and of a verdict's reasons.
use Rattle.std.specs.Prelude.{ℕ, List, codes}
use Rattle.mj_types.specs.declared.status.ModelCode.{ModelCode}
use Rattle.mj_types.specs.declared.status.ModelCode.TheVariants as code
use Rattle.mj_types.specs.declared.status.Status.{Status}
use Rattle.mj_types.specs.declared.status.Status.TheVariants as status
use Rattle.mj_types.specs.declared.verdict.Reason.{Reason}
use Rattle.mj_types.specs.declared.verdict.Reason.TheVariants as why

abbrev pub model_code_name : ModelCode → List ℕ
model_code_name code.TooLarge = codes "TooLarge"
model_code_name code.NotToml = codes "NotToml"
model_code_name code.UnknownKey = codes "UnknownKey"
model_code_name code.MissingKey = codes "MissingKey"
model_code_name code.FloatValue = codes "FloatValue"
model_code_name code.WrongKind = codes "WrongKind"
model_code_name code.BadNumber = codes "BadNumber"
model_code_name code.LimitPassed = codes "LimitPassed"
model_code_name code.EmptyModel = codes "EmptyModel"
model_code_name code.DuplicateName = codes "DuplicateName"
model_code_name code.UnknownName = codes "UnknownName"
model_code_name code.ParentLater = codes "ParentLater"
model_code_name code.FreeJoint = codes "FreeJoint"
model_code_name code.PlaneOffWorld = codes "PlaneOffWorld"
model_code_name code.NotUnit = codes "NotUnit"
model_code_name code.BadRange = codes "BadRange"
model_code_name code.BadSolimp = codes "BadSolimp"
model_code_name code.BadSolref = codes "BadSolref"
model_code_name code.Memory = codes "Memory"

abbrev pub reason_name : Reason → List ℕ
reason_name why.TooLarge = codes "TooLarge"
reason_name why.Form = codes "Form"
reason_name why.Limit = codes "Limit"
reason_name why.Feasible = codes "Feasible"
reason_name why.Cost = codes "Cost"
reason_name why.Bound = codes "Bound"
reason_name why.Box = codes "Box"

-- the number that the program ends with
abbrev pub code_of : Status → ℕ
code_of status.Done = 0
code_of (status.BadWords at) = 2
code_of (status.OutOfRange step kind index) = 3
code_of (status.BadModel fault) = 4
code_of (status.BadTape tape fault) = 5
code_of status.ReadFault = 6
code_of status.WriteFault = 7
code_of status.Memory = 8
code_of (status.Rejected line reason) = 9
