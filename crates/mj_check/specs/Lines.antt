-- The other lines of a dump: the texts that a run writes, of what is in form.
use Rattle.std.specs.Prelude.{◌≡◌, ℕ, ◌+◌, ◌-◌, ◌^◌, ◌≤◌, ◌<◌, ℤ, pos, ◌≤ℤ◌, unsigned_abs, Bool, cond, Result, Ok, List, [], ◌∷◌, ◌++◌, Option, Some, None, IfSome, codes, decimal}
use Rattle.fx_num.specs.declared.number.Wide.{Wide}
use Rattle.fx_text.specs.Raw.{IsWide}
use Rattle.mj_optimum.specs.declared.stop.Stop.{Stop}
use Rattle.mj_optimum.specs.declared.stop.Stop.TheVariants as stop
use Rattle.mj_types.specs.declared.range.End.{End}
use Rattle.mj_types.specs.declared.range.End.TheVariants as finish
use Rattle.mj_types.specs.Duals.{wide_at}
use Rattle.mj_trace.specs.Block.{two_text}
use Rattle.mj_trace.specs.Lines.{line, spaced, numbers_text}
use Rattle.mj_trace.specs.Trace.{header_text}
use Rattle.mj_reading.specs.Reading.{Any, IsBetween, IsRaw, raw_text}
use Rattle.mj_check.specs.declared.rejection.Rejection.{Rejection}
use Rattle.mj_check.specs.declared.header.Header.{Header}
use Rattle.mj_check.specs.declared.numbers.Pair.{Pair}
use Rattle.mj_check.specs.declared.ball.BallTold.{BallTold}
use Rattle.mj_check.specs.declared.dual.Sides.{Sides}
use Rattle.mj_check.specs.declared.rows.ActiveRow.{ActiveRow}
use Rattle.mj_check.specs.declared.rows.Bounds.{Bounds}
use Rattle.mj_check.specs.Judging.{Line, Limited, Then, Each}
use Rattle.mj_check.specs.Rows.{both_bounds, row_at}
use Rattle.mj_check.specs.Sources.{IsKind}

-- ---- the first line
abbrev pub header_line : Header → List ℕ
header_line h = header_text h.format h.nq h.nv h.steps

pub record IsHeader (h : Header) : Type 0 where
  pub format : IsBetween 1 2 h.format
  pub nq : IsBetween 1 128 h.nq
  pub nv : IsBetween 1 64 h.nv
  pub steps : IsBetween 0 1000000 h.steps

-- ---- lists of numbers
-- the first n of them
abbrev pub Agree : ℕ → (ℕ → ℤ) → (ℕ → ℤ) → Type 0
Agree n f g = (k : ℕ) → k < n → f k ≡ g k

abbrev pub AreWide : ℕ → (ℕ → ℤ) → Type 0
AreWide n f = (k : ℕ) → k < n → IsWide (f k)

-- two numbers
pub record IsPair (x : Pair) : Type 0 where
  pub first : IsRaw x.first
  pub second : IsRaw x.second

-- ---- the first lines of the block of step k, from 1: the step, what it left, and how exactly it was made
abbrev pub step_line : ℕ → List ℕ
step_line k = line (codes "step ") (decimal k)

abbrev pub numbers_line : List ℕ → ℕ → (ℕ → ℤ) → List ℕ
numbers_line label n f = line label (numbers_text n f)

abbrev pub residual_line : Wide 0 → List ℕ
residual_line x = line (codes "residual ") (raw_text x)

abbrev pub pair_line : List ℕ → Pair → List ℕ
pair_line label x = two_text label x.first.raw x.second.raw

-- what is found is what is behind them
abbrev pub IsMotion : Header → ℕ → ℕ → List ℕ → Result (List ℕ) Rejection → Type 0
IsMotion h k at rest =
    Then (Line Any (λ (u : Unit {0}). step_line k) at rest) (λ step.
    Then (Line (AreWide h.nq) (numbers_line (codes "q") h.nq) (at + 1) step.1) (λ q.
    Then (Line (AreWide h.nv) (numbers_line (codes "v") h.nv) (at + 2) q.1) (λ v.
    Then (Line (AreWide h.nv) (numbers_line (codes "a") h.nv) (at + 3) v.1) (λ a.
    Then (Line IsRaw residual_line (at + 4) a.1) (λ residual.
    Then (Line IsPair (pair_line (codes "radius ")) (at + 5) residual.1) (λ radius result.
    result ≡ Ok radius.1))))))

-- ---- how the solver stopped, and what the forces of the m rows that aren't idle come to
abbrev pub IsStop : ℕ → Stop → Type 0
IsStop m stop.NoRows = m ≡ 0
IsStop m (stop.Tolerance n) = (0 < m) × IsBetween 1 (2 ^ 127 - 1) n
IsStop m (stop.Limit n) = (0 < m) × IsBetween 1 (2 ^ 127 - 1) n

-- the cost and its bound
pub record IsCost (m : ℕ) (x : Pair) : Type 0 where
  pub wide : IsPair x
  pub no_cost : m ≡ 0 → x.first.raw ≡ pos 0
  pub no_bound : m ≡ 0 → x.second.raw ≡ pos 0

abbrev pub cost_line : Pair → List ℕ
cost_line x = pair_line (codes "cost ") x

-- ---- the dual: its head, and a row of it
abbrev pub head_line : Bool → ℕ → ℕ → List ℕ
head_line bounds m nv =
    (((codes "dual " ++ decimal m) ++ (codes " " ++ decimal nv)) ++ cond bounds (codes " bounds") []) ++ codes "\n"

-- R, b and the numbers of G
pub record DualTold : Type 0 where
  pub r : ℤ
  pub b : ℤ
  pub g : ℕ → ℤ

-- a row's bounds are told again
abbrev pub bounds_again : Bool → Bounds → List ℕ
bounds_again bounds x = cond bounds (both_bounds x) []

abbrev pub dual_line : Bool → ℕ → ActiveRow → DualTold → List ℕ
dual_line bounds nv row d =
    ((((codes "d " ++ decimal row.place) ++ spaced d.r) ++ spaced d.b) ++ bounds_again bounds row.told.bounds)
    ++ line [] (numbers_text nv d.g)

pub record IsDualTold (nv : ℕ) (d : DualTold) : Type 0 where
  pub r : IsWide d.r
  pub b : IsWide d.b
  pub g : AreWide nv d.g

-- the same numbers
pub record SameDualTold (nv : ℕ) (c d : DualTold) : Type 0 where
  pub r : c.r ≡ d.r
  pub b : c.b ≡ d.b
  pub g : Agree nv c.g d.g

-- its numbers are within their limits
pub record SidesWithin (r b : ℤ) : Type 0 where
  pub least : pos 1 ≤ℤ r
  pub most : r ≤ℤ pos (2 ^ 72)
  pub side : unsigned_abs b ≤ 2 ^ 56

pub record DualWithin (nv : ℕ) (d : DualTold) : Type 0 where
  pub sides : SidesWithin d.r d.b
  pub g : (k : ℕ) → k < nv → unsigned_abs (d.g k) ≤ 2 ^ 44

-- what was read of it
abbrev pub dual_told : Sides → List (Wide 0) → DualTold
dual_told s numbers = record { r = s.r.raw; b = s.b.raw; g = wide_at numbers }

abbrev pub IsDualRowAt : Bool → ℕ → ActiveRow → ℕ → List ℕ → Result (DualTold × List ℕ) Rejection → Type 0
IsDualRowAt bounds nv row at rest =
    Then (Line (IsDualTold nv) (dual_line bounds nv row) at rest) (Limited (DualWithin nv) at)

-- one after another, of these rows: what is found is appended
abbrev pub IsNextDualRow : Bool → ℕ → List ActiveRow → ℕ → ℕ → List DualTold × List ℕ
    → Result (List DualTold × List ℕ) Rejection → Type 0
IsNextDualRow bounds nv rows at k from =
    Then (IsDualRowAt bounds nv (row_at rows k) (at + k) from.1) (λ found result.
    result ≡ Ok (from.0 ++ (found.0 ∷ []), found.1))

abbrev pub AreDualRows : Bool → ℕ → List ActiveRow → ℕ → ℕ → List ℕ → Result (List DualTold × List ℕ) Rejection → Type 0
AreDualRows bounds nv rows m at rest = Each (IsNextDualRow bounds nv rows at) m ([], rest)

-- ---- a ball around the acceleration, or none
abbrev pub ball_line : Option BallTold → List ℕ
ball_line None = codes "ball none\n"
ball_line (Some x) = (((codes "ball " ++ raw_text x.shift) ++ spaced x.low.raw) ++ spaced x.radius.raw) ++ codes "\n"

pub record IsBallTold (x : BallTold) : Type 0 where
  pub shift : IsRaw x.shift
  pub low : IsRaw x.low
  pub radius : IsRaw x.radius

abbrev pub IsBall : Option BallTold → Type 0
IsBall x = IfSome x IsBallTold

-- ---- the last line, after so many blocks
abbrev pub IsEnd : ℕ → ℕ → End → Type 0
IsEnd count steps finish.Done = count ≡ steps
IsEnd count steps (finish.OutOfRange step kind index) =
    (step ≡ count + 1) × (step ≤ steps) × IsKind kind × IsBetween 1 (2 ^ 127 - 1) index
