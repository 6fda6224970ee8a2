-- The words after the program's name: a command, then pairs of a name and a value in any order.
-- Which words are accepted, and else the first bad place, counted from 1. A format of this
-- project's own.
use Rattle.std.specs.Prelude.{ℕ, ◌+◌, ◌-◌, ◌*◌, ◌/◌, Bool, ◌&&◌, ◌||◌, not, ◌==◌, nat_le, nat_lt, max, cond, List, [], length, slice_index_or, Option, Some, None, is_some, unwrap_or, option_and_then, codes}
use Rattle.std.specs.List.{list_all}
use Rattle.std.specs.Str.{bytes_eq}
use Rattle.fx_whole.specs.Counting.{count_to}
use Rattle.fx_whole.specs.First.{or_first, first_to}
use Rattle.mj_words.specs.declared.table.Command.{Command}
use Rattle.mj_words.specs.declared.table.Command.TheVariants as command
use Rattle.mj_words.specs.declared.table.Name.{Name}
use Rattle.mj_words.specs.declared.table.Name.TheVariants as named
use Rattle.mj_words.specs.declared.table.Form.{Form}
use Rattle.mj_words.specs.declared.table.Form.TheVariants as form
use Rattle.mj_words.specs.Numbers.{number_within}
use Rattle.mj_words.specs.Table.{command_named, is_inverse, text_of, all_names, rule, rule_of}

-- word k, counted from 0; the empty word past the end
abbrev pub word : List (List ℕ) → ℕ → List ℕ
word words k = slice_index_or words k []

-- the name and the value of pair j, counted from 0, and the places where they stand, counted from 1
abbrev pub name : List (List ℕ) → ℕ → List ℕ
name words j = word words (2 * j + 1)

abbrev pub value : List (List ℕ) → ℕ → List ℕ
value words j = word words (2 * j + 2)

abbrev pub name_place : ℕ → ℕ
name_place j = 2 * j + 2

abbrev pub value_place : ℕ → ℕ
value_place j = 2 * j + 3

-- how many words stand in a name's place, and in a value's
abbrev pub name_count : List (List ℕ) → ℕ
name_count words = length words / 2

abbrev pub value_count : List (List ℕ) → ℕ
value_count words = (length words - 1) / 2

-- the command of accepted words
abbrev pub command_of : List (List ℕ) → Command
command_of words = unwrap_or (command_named (word words 0)) command.Run

-- ---- values

-- a file's name has 1 to 4,096 bytes
abbrev pub is_file_name : List ℕ → Bool
is_file_name text = nat_le 1 (length text) && nat_le (length text) 4096

abbrev pub is_yes_or_no : List ℕ → Bool
is_yes_or_no text = bytes_eq text (codes "yes") || bytes_eq text (codes "no")

-- the number that a value writes, where a number is asked for
abbrev pub number_as : Form → List ℕ → Option ℕ
number_as (form.Number least most) text = number_within least most text
number_as other text = None

-- the value fits what is asked for
abbrev pub fits : Form → List ℕ → Bool
fits form.FileName text = is_file_name text
fits form.YesNo text = is_yes_or_no text
fits (form.Number least most) text = is_some (number_within least most text)

-- the value that is given first under a name
abbrev pub given : List (List ℕ) → List ℕ → Option (List ℕ)
given words text =
    first_to (value_count words) (λ j. cond (bytes_eq (name words j) text) (Some (value words j)) None)

-- ---- the first bad place, in the order of judging

-- a test that fails at a place
abbrev pub unless : Bool → ℕ → Option ℕ
unless passes place = cond passes None (Some place)

-- word 1 is missing or is no command
abbrev pub bad_command : List (List ℕ) → Option ℕ
bad_command words = unless (is_some (command_named (word words 0))) 1

-- how often the name of pair j stood before
abbrev pub stood_before : List (List ℕ) → ℕ → ℕ
stood_before words j = count_to j (λ i. bytes_eq (name words i) (name words j))

-- a word in a name's place is no name of the command, or stood before as often as it may
abbrev pub bad_name : Command → List (List ℕ) → ℕ → Option ℕ
bad_name c words j =
    unless (nat_lt (stood_before words j) (rule_of c (name words j)).times) (name_place j)

abbrev pub bad_names : Command → List (List ℕ) → Option ℕ
bad_names c words = first_to (name_count words) (bad_name c words)

-- one past the end
abbrev pub past_end : List (List ℕ) → ℕ
past_end words = length words + 1

-- the last name has no value
abbrev pub value_missing : List (List ℕ) → Option ℕ
value_missing words = unless (name_count words == value_count words) (past_end words)

-- a value doesn't fit its name
abbrev pub bad_value : Command → List (List ℕ) → ℕ → Option ℕ
bad_value c words j = unless (fits (rule_of c (name words j)).form (value words j)) (value_place j)

abbrev pub bad_values : Command → List (List ℕ) → Option ℕ
bad_values c words = first_to (value_count words) (bad_value c words)

-- a name is given if it is required
abbrev pub is_served : Command → List (List ℕ) → Name → Bool
is_served c words n = not (rule c n).required || is_some (given words (text_of n))

-- a required name is missing
abbrev pub name_missing : Command → List (List ℕ) → Option ℕ
name_missing c words = unless (list_all (is_served c words) all_names) (past_end words)

-- what follows the command
abbrev pub bad_pairs : Command → List (List ℕ) → Option ℕ
bad_pairs c words =
    or_first (bad_names c words) (or_first (value_missing words) (or_first (bad_values c words) (name_missing c words)))

-- none where the words are accepted
abbrev pub bad_place : List (List ℕ) → Option ℕ
bad_place words = or_first (bad_command words) (bad_pairs (command_of words) words)

-- ---- what accepted words ask for

-- the number under a name
abbrev pub number_under : List (List ℕ) → Name → ℕ
number_under words n =
    unwrap_or (option_and_then (number_as (rule (command_of words) n).form) (given words (text_of n))) 0

-- the model's file
abbrev pub model_of : List (List ℕ) → List ℕ
model_of words = unwrap_or (given words (codes "--model")) []

abbrev pub step_count : List (List ℕ) → ℕ
step_count words = number_under words named.Steps

-- the tape's file, where one is named
abbrev pub tape_of : List (List ℕ) → Option (List ℕ)
tape_of words = given words (codes "--tape")

-- the value of pair j names a tape
abbrev pub is_tape : List (List ℕ) → ℕ → Bool
is_tape words j = bytes_eq (name words j) (codes "--tape")

-- how many tapes are named
abbrev pub tape_count : List (List ℕ) → ℕ
tape_count words = count_to (value_count words) (is_tape words)

-- pair j names a tape after k others
abbrev pub is_nth : List (List ℕ) → ℕ → ℕ → Bool
is_nth words k j = is_tape words j && (count_to j (is_tape words) == k)

-- the file of the tape that is named after k others
abbrev pub nth_tape : List (List ℕ) → ℕ → Option (List ℕ)
nth_tape words k =
    first_to (value_count words) (λ j. cond (is_nth words k j) (Some (value words j)) None)

-- the trace shows each step's dual
abbrev pub wants_dual : List (List ℕ) → Bool
wants_dual words = bytes_eq (unwrap_or (given words (codes "--dual")) []) (codes "yes")

-- and a ball around its acceleration
abbrev pub wants_ball : List (List ℕ) → Bool
wants_ball words = bytes_eq (unwrap_or (given words (codes "--ball")) []) (codes "yes")

-- and the forces of its rows one by one
abbrev pub wants_inverse : List (List ℕ) → Bool
wants_inverse words = is_inverse (command_of words)

-- the file of the dump that is checked
abbrev pub dump_of : List (List ℕ) → List ℕ
dump_of words = unwrap_or (given words (codes "--dual")) []

-- of a generated model
abbrev pub link_count : List (List ℕ) → ℕ
link_count words = number_under words named.Links

abbrev pub seed_of : List (List ℕ) → ℕ
seed_of words = number_under words named.Seed

-- the threads of a batch
abbrev pub worker_count : List (List ℕ) → ℕ
worker_count words = max (number_under words named.Workers) 1
