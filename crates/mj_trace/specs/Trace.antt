-- The first and the last line of a trace. A format of this project's own.
use Rattle.std.specs.Prelude.{ℕ, List, ◌++◌, codes, decimal}
use Rattle.mj_types.specs.declared.range.End.{End}
use Rattle.mj_types.specs.declared.range.End.TheVariants as finish
use Rattle.mj_types.specs.Ranges.{quantity_name}

-- the version of the form is the model's format
abbrev pub header_text : ℕ → ℕ → ℕ → ℕ → List ℕ
header_text format nq nv steps =
    ((((codes "trace " ++ decimal format) ++ (codes " nq=" ++ decimal nq)) ++ (codes " nv=" ++ decimal nv)) ++ (codes " steps=" ++ decimal steps))
    ++ codes "\n"

-- all steps were done, or one was refused at its first number out of range
unfoldable pub end_text : End → List ℕ
end_text finish.Done = codes "end done\n"
end_text (finish.OutOfRange step kind index) =
    ((((codes "end out-of-range step=" ++ decimal step) ++ codes " kind=") ++ quantity_name kind) ++ (codes " index=" ++ decimal index))
    ++ codes "\n"
