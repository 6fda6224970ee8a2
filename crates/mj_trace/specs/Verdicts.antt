-- The one line that tells what the check of a dump finds. A format of this project's own.
use Rattle.std.specs.Prelude.{ℕ, List, ◌++◌, codes, decimal}
use Rattle.mj_trace.specs.Lines.{line}
use Rattle.mj_types.specs.Answers.{reason_name}
use Rattle.mj_types.specs.declared.verdict.Reason.{Reason}

-- a dump of so many blocks that is accepted
abbrev pub accepted_text : ℕ → List ℕ
accepted_text blocks = line (codes "accepted ") (decimal blocks)

-- one that is rejected, first at this line, which counts from 1, and why
abbrev pub rejected_text : ℕ → Reason → List ℕ
rejected_text at reason = (((codes "rejected " ++ decimal at) ++ codes " ") ++ reason_name reason) ++ codes "\n"
