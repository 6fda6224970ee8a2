-- The one line that tells a refusal. A format of this project's own.
use Rattle.std.specs.Prelude.{ℕ, Bool, true, false, List, [], ◌∷◌, ◌++◌, codes, decimal}
use Rattle.mj_types.specs.declared.status.ModelFault.{ModelFault}
use Rattle.mj_types.specs.declared.status.Status.{Status}
use Rattle.mj_types.specs.declared.status.Status.TheVariants as status
use Rattle.mj_types.specs.declared.tape.TapeFault.{TapeFault}
use Rattle.mj_types.specs.declared.tape.TapeFault.TheVariants as fault_of
use Rattle.mj_types.specs.Answers.{model_code_name}

-- words refused at a place
abbrev pub words_refusal : ℕ → List ℕ
words_refusal at = (codes "refused words " ++ decimal at) ++ codes "\n"

-- the path of a key after a space; nothing where no key is named
abbrev pub path_text : List ℕ → List ℕ
path_text [] = []
path_text (byte ∷ path) = codes " " ++ (byte ∷ path)

-- a model refused with a code, at a path
abbrev pub model_refusal : ModelFault → List ℕ
model_refusal fault =
    ((codes "refused model " ++ model_code_name fault.code) ++ path_text fault.path) ++ codes "\n"

-- why a tape is refused
abbrev pub tape_fault_text : TapeFault → List ℕ
tape_fault_text fault_of.TooLarge = codes "TooLarge"
tape_fault_text (fault_of.Width row) = codes "Width " ++ decimal row
tape_fault_text (fault_of.BadNumber row column) =
    ((codes "BadNumber " ++ decimal row) ++ codes " ") ++ decimal column
tape_fault_text (fault_of.Short rows) = codes "Short " ++ decimal rows
tape_fault_text fault_of.Memory = codes "Memory"

-- a tape refused, which counts from 1
abbrev pub tape_refusal : ℕ → TapeFault → List ℕ
tape_refusal tape fault =
    (((codes "refused tape " ++ decimal tape) ++ codes " ") ++ tape_fault_text fault) ++ codes "\n"

-- what is told by a line of refusal
abbrev pub is_refusal : Status → Bool
is_refusal (status.BadWords at) = true
is_refusal (status.BadModel fault) = true
is_refusal (status.BadTape tape fault) = true
is_refusal answer = false

-- the line of a status that is a refusal
abbrev pub refusal_text : Status → List ℕ
refusal_text (status.BadWords at) = words_refusal at
refusal_text (status.BadModel fault) = model_refusal fault
refusal_text (status.BadTape tape fault) = tape_refusal tape fault
refusal_text answer = []
