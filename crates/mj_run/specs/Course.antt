-- The course of steps of which each may be refused, and tells a text where it isn't: how many are done, how it ends, and its text.
use Rattle.std.specs.Prelude.{ℕ, ◌+◌, List, Option, option_map}
use Rattle.std.specs.Option.{unwrap_or}
use Rattle.fx_whole.specs.First.{first_to}
use Rattle.fx_whole.specs.Joined.{joined}
use Rattle.mj_types.specs.declared.range.OutOfRange.{OutOfRange}
use Rattle.mj_types.specs.declared.range.End.{End}
use Rattle.mj_types.specs.declared.range.End.TheVariants as finish

-- ---- by the refusals of the steps after k others: how many of n steps are done before one is refused
abbrev pub done_by : (ℕ → Option OutOfRange) → ℕ → ℕ
done_by refusal n = unwrap_or (first_to n (λ k. option_map (λ _. k) (refusal k))) n

-- the end of n steps: the first refusal, or done
abbrev pub end_by : (ℕ → Option OutOfRange) → ℕ → End
end_by refusal n =
    unwrap_or (first_to n (λ k. option_map (λ out. finish.OutOfRange (k + 1) out.kind out.index) (refusal k))) finish.Done

-- ---- the refusal of the step after k others, and its block
pub record Course : Type 0 where
  pub refusal : ℕ → Option OutOfRange
  pub block : ℕ → List ℕ

abbrev pub done_of : Course → ℕ → ℕ
done_of x = done_by x.refusal

abbrev pub end_of : Course → ℕ → End
end_of x = end_by x.refusal

-- the blocks of the first k steps, and of those of n that are done
abbrev pub blocks_text : Course → ℕ → List ℕ
blocks_text x k = joined k x.block

abbrev pub done_blocks : Course → ℕ → List ℕ
done_blocks x n = blocks_text x (done_of x n)
