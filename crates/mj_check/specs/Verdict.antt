-- What a dump is judged to be.
use Rattle.std.specs.Prelude.{◌≡◌, ◌⊎◌, ℕ, zero, suc, ◌+◌, ◌<◌, ◌≤◌, ◌==◌, Bool, List, [], ◌++◌, codes, length, Result, Ok, Err}
use Rattle.mj_types.specs.declared.verdict.Verdict.{Verdict}
use Rattle.mj_types.specs.declared.verdict.Verdict.TheVariants as verdict
use Rattle.mj_types.specs.declared.verdict.Reason.TheVariants as reason
use Rattle.mj_trace.specs.Block.{stop_text}
use Rattle.mj_trace.specs.Trace.{end_text}
use Rattle.mj_optimum.specs.Problem.{Problem}
use Rattle.mj_reading.specs.Reading.{Any}
use Rattle.mj_check.specs.declared.rejection.Rejection.{Rejection}
use Rattle.mj_check.specs.declared.header.Header.{Header}
use Rattle.mj_check.specs.declared.numbers.Pair.{Pair}
use Rattle.mj_check.specs.declared.counts.Counts.{Counts}
use Rattle.mj_check.specs.declared.rows.ActiveRow.{ActiveRow}
use Rattle.mj_check.specs.Judging.{at_line, Line, Passes, Then, Each}
use Rattle.mj_check.specs.Lines.{IsHeader, header_line, step_line, IsMotion, IsStop, IsCost, cost_line, head_line, DualTold, AreDualRows, IsBall, ball_line, IsEnd}
use Rattle.mj_check.specs.Numbers.{AreNumbersOf, IsJudgedBy, Printed, Promise}
use Rattle.mj_check.specs.Rows.{AreCounts, counts_line, AreRows}

-- the rows tell their bounds in format 2
abbrev pub tells_bounds : Header → Bool
tells_bounds h = h.format == 2

-- ---- a block: its lines in order, then its numbers, and then a ball line, if there is one
-- a line and what is behind it
abbrev pub Place : Type 0
Place = ℕ × List ℕ

-- the block of step k begins here
abbrev pub BeginsStep : ℕ → List ℕ → Type 0
BeginsStep k rest = (behind : List ℕ) × (rest ≡ step_line k ++ behind)

-- the lines of the dual of these rows, from a line on
abbrev pub IsDual : Bool → ℕ → List ActiveRow → ℕ → List ℕ → Result (List DualTold × List ℕ) Rejection → Type 0
IsDual bounds nv rows at rest =
    Then (Line Any (λ (u : Unit {0}). head_line bounds (length rows) nv) at rest) (λ head.
    AreDualRows bounds nv rows (length rows) (at + 1) head.1)

-- a line that begins as a ball's is one
abbrev pub BeginsBall : List ℕ → Type 0
BeginsBall rest = (behind : List ℕ) × (rest ≡ codes "ball " ++ behind)

abbrev pub IsBallAt : ℕ → List ℕ → Result Place Rejection → Type 0
IsBallAt at rest result =
    (BeginsBall rest × Then (Passes IsBall ball_line at rest) (λ behind found. found ≡ Ok (at + 1, behind)) result)
    ⊎ ((BeginsBall rest → ⊥) × (result ≡ Ok (at, rest)))

-- what is judged once a block's rows were read, from the line of its stop on; `first` is the line before its rows
abbrev pub IsClosed : Bool → ℕ → ℕ → List ActiveRow → ℕ → List ℕ → Result Place Rejection → Type 0
IsClosed bounds nv first rows at rest =
    Then (Passes (IsStop (length rows)) stop_text at rest) (λ stop.
    Then (Line (IsCost (length rows)) cost_line (at + 1) stop) (λ cost.
    Then (IsDual bounds nv rows (at + 2) cost.1) (λ dual.
    Then (IsJudgedBy nv rows dual.0 cost.0 first (at + 1)) (λ u.
    IsBallAt (at + 3 + length rows) dual.1))))

abbrev pub IsBlock : Header → ℕ → Place → Result Place Rejection → Type 0
IsBlock h k from =
    Then (IsMotion h k from.0 from.1) (λ motion.
    Then (Line AreCounts counts_line (from.0 + 6) motion) (λ counts.
    Then (AreRows (tells_bounds h) counts.0 (from.0 + 7) counts.1) (λ rows.
    IsClosed (tells_bounds h) h.nv (from.0 + 6) rows.0 (from.0 + 7 + counts.0.rows) rows.1)))

-- the blocks, from a line on: so many were accepted, and no further one begins, or there are as many as steps;
-- or the next one begins and is rejected
abbrev pub AreBlocks : Header → Place → Result (ℕ × Place) Rejection → Type 0
AreBlocks h from (Ok found) =
    Each (λ k. IsBlock h (k + 1)) found.0 from (Ok found.1)
    × (found.0 ≤ h.steps)
    × (found.0 < h.steps → BeginsStep (found.0 + 1) found.1.1 → ⊥)
AreBlocks h from (Err e) =
    (k : ℕ) × (at : Place) × Each (λ j. IsBlock h (j + 1)) k from (Ok at) × (k < h.steps)
    × BeginsStep (k + 1) at.1 × IsBlock h (k + 1) at (Err e)

-- ---- the last line, and nothing behind it
abbrev pub EndsText : ℕ → List ℕ → Result (Unit {0}) Rejection → Type 0
EndsText line behind result =
    ((behind ≡ []) × (result ≡ Ok tt)) ⊎ ((behind ≡ [] → ⊥) × (result ≡ Err (at_line (line + 1) reason.Form)))

abbrev pub IsEnding : ℕ → ℕ → Place → Result (Unit {0}) Rejection → Type 0
IsEnding count steps from = Then (Passes (IsEnd count steps) end_text from.0 from.1) (EndsText from.0)

-- ---- a whole text: its header, its blocks and its end; what is found is how many blocks there are
abbrev pub IsJudgedRest : Header → List ℕ → Result ℕ Rejection → Type 0
IsJudgedRest h rest =
    Then (AreBlocks h (2, rest)) (λ blocks.
    Then (IsEnding blocks.0 h.steps blocks.1) (λ end result.
    result ≡ Ok blocks.0))

abbrev pub IsJudged : List ℕ → Result ℕ Rejection → Type 0
IsJudged text = Then (Line IsHeader header_line 1 text) (λ header. IsJudgedRest header.0 header.1)

abbrev pub text_limit : ℕ
text_limit = 67108864

abbrev pub verdict_of : Result ℕ Rejection → Verdict
verdict_of (Ok blocks) = verdict.Accepted blocks
verdict_of (Err e) = verdict.Rejected e.line e.reason

-- the verdict of a text
abbrev pub IsVerdict : List ℕ → Verdict → Type 0
IsVerdict text answer =
    ((text_limit < length text) × (answer ≡ verdict.Rejected 1 reason.TooLarge))
    ⊎ ((length text ≤ text_limit)
    × ((judged : Result ℕ Rejection) × IsJudged text judged × (answer ≡ verdict_of judged)))

-- ---- what an accepted block promises
-- its lines tell rows, their dual and a cost, and whatever problem and numbers these are, they keep the promise
abbrev pub KeepsPromise : ℕ → List ActiveRow → List DualTold → Pair → Type 0
KeepsPromise nv rows duals told =
    (p : Problem) (place : ℕ → ℕ) (x : Printed) → AreNumbersOf nv rows duals told p place x → Promise p x

-- block k of a text stands between two places, and what its lines tell keeps the promise
abbrev pub BlockHolds : Header → ℕ → Place → Place → Type 0
BlockHolds h k from to =
    (motion : List ℕ) × IsMotion h k from.0 from.1 (Ok motion)
    × (counts : Counts × List ℕ) × Line AreCounts counts_line (from.0 + 6) motion (Ok counts)
    × (rows : List ActiveRow × List ℕ) × AreRows (tells_bounds h) counts.0 (from.0 + 7) counts.1 (Ok rows)
    × (stop : List ℕ) × Passes (IsStop (length rows.0)) stop_text (from.0 + 7 + counts.0.rows) rows.1 (Ok stop)
    × (cost : Pair × List ℕ) × Line (IsCost (length rows.0)) cost_line (from.0 + 7 + counts.0.rows + 1) stop (Ok cost)
    × (dual : List DualTold × List ℕ)
    × IsDual (tells_bounds h) h.nv rows.0 (from.0 + 7 + counts.0.rows + 2) cost.1 (Ok dual)
    × IsBallAt (from.0 + 7 + counts.0.rows + 3 + length rows.0) dual.1 (Ok to)
    × KeepsPromise h.nv rows.0 dual.0 cost.0

-- the first n blocks
abbrev pub HoldEach : Header → ℕ → Place → Place → Type 0
HoldEach h zero from to = to ≡ from
HoldEach h (suc n) from to = (mid : Place) × HoldEach h n from mid × BlockHolds h (n + 1) mid to

-- the blocks of a text, of which there are so many
abbrev pub BlocksHold : List ℕ → ℕ → Type 0
BlocksHold text blocks =
    (header : Header × List ℕ) × Line IsHeader header_line 1 text (Ok header)
    × (end : Place) × HoldEach header.0 blocks (2, header.1) end

-- what a verdict promises of its text
abbrev pub VerdictHolds : List ℕ → Verdict → Type 0
VerdictHolds text (verdict.Accepted blocks) = BlocksHold text blocks
VerdictHolds text (verdict.Rejected line why) = Unit {0}
