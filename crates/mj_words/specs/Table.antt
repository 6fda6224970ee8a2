-- The table of commands: the names that each takes, how often each may stand, which are required,
-- and the values that they take. A format of this project's own.
use Rattle.std.specs.Prelude.{ℕ, Bool, true, false, cond, List, [], ◌∷◌, find, Option, Some, None, codes}
use Rattle.std.specs.Str.{bytes_eq}
use Rattle.mj_words.specs.declared.table.Command.{Command}
use Rattle.mj_words.specs.declared.table.Command.TheVariants as command
use Rattle.mj_words.specs.declared.table.Name.{Name}
use Rattle.mj_words.specs.declared.table.Name.TheVariants as name
use Rattle.mj_words.specs.declared.table.Form.{Form}
use Rattle.mj_words.specs.declared.table.Form.TheVariants as form
use Rattle.mj_words.specs.declared.table.Rule.{Rule}

-- ---- texts

-- the command that a text is
abbrev pub command_named : List ℕ → Option Command
command_named text =
    cond (bytes_eq text (codes "run")) (Some command.Run) (cond (bytes_eq text (codes "gen")) (Some command.Gen)
    (cond (bytes_eq text (codes "bench")) (Some command.Bench) (cond (bytes_eq text (codes "batch")) (Some command.Batch)
    (cond (bytes_eq text (codes "inverse")) (Some command.Inverse) (cond (bytes_eq text (codes "check")) (Some command.Check) None)))))

-- it is the inverse dynamics
abbrev pub is_inverse : Command → Bool
is_inverse command.Inverse = true
is_inverse other = false

-- the text of a name
abbrev pub text_of : Name → List ℕ
text_of name.Model = codes "--model"
text_of name.Steps = codes "--steps"
text_of name.Tape = codes "--tape"
text_of name.Dual = codes "--dual"
text_of name.Ball = codes "--ball"
text_of name.Links = codes "--links"
text_of name.Seed = codes "--seed"
text_of name.Workers = codes "--workers"

abbrev pub all_names : List Name
all_names = name.Model ∷ name.Steps ∷ name.Tape ∷ name.Dual ∷ name.Ball ∷ name.Links ∷ name.Seed ∷ name.Workers ∷ []

-- the name that a text is
abbrev pub name_of : List ℕ → Option Name
name_of text = find (λ n. bytes_eq text (text_of n)) all_names

-- ---- rules

-- a name that must stand, once
abbrev pub required : Form → Rule
required form = record { times = 1; required = true; form = form }

-- a name that must stand, and may so often
abbrev pub repeated : ℕ → Form → Rule
repeated times form = record { times = times; required = true; form = form }

-- a name that may stand, once
abbrev pub optional : Form → Rule
optional form = record { times = 1; required = false; form = form }

-- a name that the command doesn't take
abbrev pub foreign : Rule
foreign = record { times = 0; required = false; form = form.FileName }

-- the largest number that is allowed
abbrev pub most_of : Form → ℕ
most_of (form.Number least most) = most
most_of other = 0

-- ---- the rows of the table

abbrev pub run_rule : Name → Rule
run_rule name.Model = required form.FileName
run_rule name.Steps = required (form.Number 0 1000000)
run_rule name.Tape = optional form.FileName
run_rule name.Dual = optional form.YesNo
run_rule name.Ball = optional form.YesNo
run_rule other = foreign

abbrev pub gen_rule : Name → Rule
gen_rule name.Links = required (form.Number 1 64)
gen_rule name.Seed = required (form.Number 0 4294967295)
gen_rule other = foreign

abbrev pub bench_rule : Name → Rule
bench_rule name.Links = required (form.Number 1 64)
bench_rule name.Seed = required (form.Number 0 4294967295)
bench_rule name.Steps = required (form.Number 0 10000)
bench_rule other = foreign

abbrev pub batch_rule : Name → Rule
batch_rule name.Model = required form.FileName
batch_rule name.Steps = required (form.Number 0 1000000)
batch_rule name.Tape = repeated 64 form.FileName
batch_rule name.Workers = required (form.Number 1 64)
batch_rule other = foreign

abbrev pub inverse_rule : Name → Rule
inverse_rule name.Model = required form.FileName
inverse_rule name.Steps = required (form.Number 0 1000000)
inverse_rule name.Tape = optional form.FileName
inverse_rule other = foreign

abbrev pub check_rule : Name → Rule
check_rule name.Dual = required form.FileName
check_rule other = foreign

abbrev pub rule : Command → Name → Rule
rule command.Run name = run_rule name
rule command.Gen name = gen_rule name
rule command.Bench name = bench_rule name
rule command.Batch name = batch_rule name
rule command.Inverse name = inverse_rule name
rule command.Check name = check_rule name

-- the rule for a text in a name's place
abbrev pub rule_from : Command → Option Name → Rule
rule_from command (Some name) = rule command name
rule_from command None = foreign

abbrev pub rule_of : Command → List ℕ → Rule
rule_of command text = rule_from command (name_of text)
