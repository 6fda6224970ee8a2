-- Words and files have one outcome, and a batch's is the same for each number of workers.
use Rattle.std.specs.Prelude.{◌≡◌, ℕ, List, Option, None}
use Rattle.mj_words.specs.declared.table.Command.TheVariants as command
use Rattle.mj_words.specs.Words.{bad_place, command_of, model_of, step_count, tape_count, nth_tape}
use Rattle.mj_top.specs.Outcome.{Outcome, IsOutcome}

-- of two outcomes of the same words and files each is the other
abbrev pub HaveOneOutcome : Type 0
HaveOneOutcome =
    (words : List (List ℕ)) (held : List ℕ → Option (List ℕ)) (o o' : Outcome)
    → IsOutcome words held o → IsOutcome words held o' → o ≡ o'

-- words that ask for the same batch, but for the number of workers
pub record AskAlike (words words' : List (List ℕ)) : Type 0 where
  pub model : model_of words ≡ model_of words'
  pub steps : step_count words ≡ step_count words'
  pub count : tape_count words ≡ tape_count words'
  pub tapes : (t : ℕ) → nth_tape words t ≡ nth_tape words' t

-- whatever number of workers the accepted words of a batch give, the outcome is the same
abbrev pub WorkersDoNotMatter : Type 0
WorkersDoNotMatter =
    (words words' : List (List ℕ)) (held : List ℕ → Option (List ℕ)) (o : Outcome)
    → bad_place words ≡ None → command_of words ≡ command.Batch
    → bad_place words' ≡ None → command_of words' ≡ command.Batch
    → AskAlike words words' → IsOutcome words held o → IsOutcome words' held o
