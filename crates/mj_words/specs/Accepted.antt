-- Which words are accepted, told without an order of judging.
use Rattle.std.specs.Prelude.{◌≡◌, ◌↔◌, ℕ, ◌+◌, ◌*◌, ◌<◌, ◌≤◌, true, List, length, Some, None}
use Rattle.std.specs.Str.{bytes_eq}
use Rattle.fx_whole.specs.Counting.{count_to}
use Rattle.mj_words.specs.declared.table.Name.{Name}
use Rattle.mj_words.specs.Table.{command_named, text_of, rule, rule_of}
use Rattle.mj_words.specs.Words.{word, name, value, value_count, fits, command_of, bad_place}

-- how often a text stands in a name's place
abbrev pub times_given : List (List ℕ) → List ℕ → ℕ
times_given words text = count_to (value_count words) (λ j. bytes_eq (name words j) text)

-- a value is given under this name
abbrev pub Gives : List (List ℕ) → List ℕ → Type 0
Gives words text = (j : ℕ) × (j < value_count words) × (name words j ≡ text)

-- the command, and after it pairs of a name and a value: no name more often than the command takes
-- it, each value fits its name, and the required names are given
pub record AreAccepted (words : List (List ℕ)) : Type 0 where
  pub command : command_named (word words 0) ≡ Some (command_of words)
  pub paired : length words ≡ 2 * value_count words + 1
  pub often : (text : List ℕ) → times_given words text ≤ (rule_of (command_of words) text).times
  pub fitting : (j : ℕ) → j < value_count words → fits (rule_of (command_of words) (name words j)).form (value words j) ≡ true
  pub whole : (n : Name) → (rule (command_of words) n).required ≡ true → Gives words (text_of n)

-- no word is bad exactly where the words are accepted
abbrev pub AcceptedHaveNoBadPlace : Type 0
AcceptedHaveNoBadPlace = (words : List (List ℕ)) → (bad_place words ≡ None) ↔ AreAccepted words
