-- The judgement of a block's numbers in its order, each fault with its line.
use Rattle.std.specs.Prelude.{◌≡◌, ℕ, ◌+◌, ◌^◌, ◌<◌, ℤ, pos, int_le, Bool, true, ◌&&◌, is_none, cond, List, length, slice_index_or, Option, Some, None, Result}
use Rattle.fx_whole.specs.First.{or_first, first_to, refusal_of}
use Rattle.mj_optimum.specs.Problem.{Problem}
use Rattle.mj_optimum.specs.Cost.{cost, reach}
use Rattle.mj_optimum.specs.Feasible.{IsFeasible}
use Rattle.mj_optimum.specs.Shortfall.{bound2}
use Rattle.mj_optimum.specs.Box as ends
use Rattle.mj_optimum.specs.Enclosure.{BoundHolds, BoxHolds}
use Rattle.mj_optimum.specs.Limits.{reach_limit}
use Rattle.mj_types.specs.declared.range.OutOfRange.{OutOfRange}
use Rattle.mj_types.specs.declared.range.Quantity.TheVariants as kind
use Rattle.mj_types.specs.declared.verdict.Reason.{Reason}
use Rattle.mj_types.specs.declared.verdict.Reason.TheVariants as reason
use Rattle.mj_types.specs.Ranges.{limited}
use Rattle.mj_cert.specs.Certificate.{certificate_fault}
use Rattle.mj_cost.specs.Costs.{cost_fault}
use Rattle.mj_check.specs.declared.rejection.Rejection.{Rejection}
use Rattle.mj_check.specs.declared.numbers.Pair.{Pair}
use Rattle.mj_check.specs.declared.rows.ActiveRow.{ActiveRow}
use Rattle.mj_check.specs.Judging.{at_line}
use Rattle.mj_check.specs.Lines.{DualTold}
use Rattle.mj_check.specs.Rows.{raw_bound, row_at}

-- a line is rejected for a reason, unless a test holds
abbrev pub unless : Bool → ℕ → Reason → Option Rejection
unless good line why = cond good None (Some (at_line line why))

-- ---- the forces are feasible
abbrev pub is_above : Option ℤ → ℤ → Bool
is_above None f = true
is_above (Some low) f = int_le low f

abbrev pub is_below : Option ℤ → ℤ → Bool
is_below None f = true
is_below (Some high) f = int_le f high

abbrev pub is_feasible : Problem → (ℕ → ℤ) → ℕ → Bool
is_feasible p f i = is_above (p.low i) (f i) && is_below (p.high i) (f i)

-- ---- the numbers that the certificate is made from, and its own, are within the limits of a step
abbrev pub reach_fault : Problem → (ℕ → ℤ) → ℕ → Option OutOfRange
reach_fault p f k = limited kind.Reach (k + 1) reach_limit (reach p f k)

abbrev pub numbers_out : Problem → (ℕ → ℕ) → (ℕ → ℤ) → Option OutOfRange
numbers_out p place f =
    or_first (first_to p.nv (reach_fault p f))
    (or_first (first_to p.m (cost_fault p place f)) (certificate_fault p place f))

-- ---- what is printed of a block: the forces, their cost and bound, and the ends of the box
pub record Printed : Type 0 where
  pub f : ℕ → ℤ
  pub cost : ℤ
  pub bound : ℤ
  pub lo : ℕ → ℤ
  pub hi : ℕ → ℤ

-- two numbers are the same
abbrev pub is_same : ℤ → ℤ → Bool
is_same a b = int_le a b && int_le b a

-- row i, whose line is the first row's with its number, less one
abbrev pub force_fault : Problem → (ℕ → ℤ) → (ℕ → ℕ) → ℕ → Option Rejection
force_fault p f row_line i = unless (is_feasible p f i) (row_line i) reason.Feasible

abbrev pub is_boxed : Problem → Printed → ℕ → Bool
is_boxed p x i = is_same (x.lo i) (ends.lo p x.f i) && is_same (x.hi i) (ends.hi p x.f i)

abbrev pub box_fault : Problem → Printed → (ℕ → ℕ) → ℕ → Option Rejection
box_fault p x row_line i = unless (is_boxed p x i) (row_line i) reason.Box

abbrev pub limits_fault : Problem → (ℕ → ℕ) → (ℕ → ℤ) → ℕ → Option Rejection
limits_fault p place f line = unless (is_none (numbers_out p place f)) line reason.Limit

abbrev pub cost_told_fault : Problem → Printed → ℕ → Option Rejection
cost_told_fault p x line = unless (is_same x.cost (cost p x.f (pos 1))) line reason.Cost

abbrev pub bound_told_fault : Problem → Printed → ℕ → Option Rejection
bound_told_fault p x line = unless (is_same x.bound (bound2 p x.f)) line reason.Bound

abbrev pub printed_fault : Problem → Printed → (ℕ → ℕ) → ℕ → Option Rejection
printed_fault p x row_line cost_line =
    or_first (cost_told_fault p x cost_line)
    (or_first (bound_told_fault p x cost_line) (first_to p.m (box_fault p x row_line)))

-- the first of all: of a force, of the limits, of the cost, of the bound, of the box. `place` is each row's number in
-- the list of rows, and
-- row n stands on the line first + n
abbrev pub row_line : ℕ → (ℕ → ℕ) → ℕ → ℕ
row_line first place i = first + place i

-- each of m rows has a line that can be counted
abbrev pub HaveLines : ℕ → ℕ → (ℕ → ℕ) → Type 0
HaveLines m first place = (i : ℕ) → i < m → row_line first place i < 2 ^ 64

abbrev pub numbers_fault : Problem → (ℕ → ℕ) → Printed → ℕ → ℕ → Option Rejection
numbers_fault p place x first cost_line =
    or_first (first_to p.m (force_fault p x.f (row_line first place)))
    (or_first (limits_fault p place x.f cost_line) (printed_fault p x (row_line first place) cost_line))

-- ---- of the lists that a block's lines tell: the problem that its dual states, the places of its rows, and what is
-- printed
abbrev pub no_dual : DualTold
no_dual = record { r = pos 0; b = pos 0; g = λ k. pos 0 }

abbrev pub dual_at : List DualTold → ℕ → DualTold
dual_at duals i = slice_index_or duals i no_dual

-- row i of it
pub record IsRowOf (nv : ℕ) (row : ActiveRow) (dual : DualTold) (p : Problem) (places : ℕ → ℕ) (x : Printed) (i : ℕ)
    : Type 0 where
  pub g : (k : ℕ) → k < nv → p.g i k ≡ dual.g k
  pub r : p.r i ≡ dual.r
  pub b : p.b i ≡ dual.b
  pub low : p.low i ≡ raw_bound row.told.bounds.low
  pub high : p.high i ≡ raw_bound row.told.bounds.high
  pub place : places i ≡ row.place
  pub f : x.f i ≡ row.told.f.raw
  pub lo : x.lo i ≡ row.told.lo.raw
  pub hi : x.hi i ≡ row.told.hi.raw

pub record AreNumbersOf (width : ℕ) (rows : List ActiveRow) (duals : List DualTold) (told : Pair)
    (p : Problem) (place : ℕ → ℕ) (x : Printed) : Type 0 where
  pub m : p.m ≡ length rows
  pub nv : p.nv ≡ width
  pub cost : x.cost ≡ told.first.raw
  pub bound : x.bound ≡ told.second.raw
  pub each : (i : ℕ) → i < length rows → IsRowOf width (row_at rows i) (dual_at duals i) p place x i

-- they are judged
abbrev pub IsJudgedBy : ℕ → List ActiveRow → List DualTold → Pair → ℕ → ℕ → Result (Unit {0}) Rejection → Type 0
IsJudgedBy nv rows duals told first cost_line result =
    (p : Problem) × (place : ℕ → ℕ) × (x : Printed) × AreNumbersOf nv rows duals told p place x
    × (refusal_of result ≡ numbers_fault p place x first cost_line)

-- ---- what accepted numbers promise
pub record Promise (p : Problem) (x : Printed) : Type 0 where
  pub feasible : IsFeasible p x.f (pos 1)
  pub bound : BoundHolds p x.bound
  pub box : BoxHolds p x.f x.lo x.hi
