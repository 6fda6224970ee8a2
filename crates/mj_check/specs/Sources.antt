-- What a row line says that its row stands for, and the kinds of number that an end line may name.
use Rattle.std.specs.Prelude.{ℕ, ◌^◌, ◌-◌, Bool, IsTrue, List, [], ◌∷◌, ◌++◌, find, Option, Some, None, codes, decimal}
use Rattle.std.specs.Str.{bytes_eq}
use Rattle.mj_types.specs.declared.range.Quantity.{Quantity}
use Rattle.mj_types.specs.declared.range.Quantity.TheVariants as kind
use Rattle.mj_types.specs.declared.rows.Source.{Source}
use Rattle.mj_types.specs.declared.rows.Source.TheVariants as source
use Rattle.mj_types.specs.Ranges.{quantity_name}
use Rattle.mj_trace.specs.Block.{source_text}
use Rattle.mj_reading.specs.Reading.{IsBetween}
use Rattle.mj_check.specs.declared.sources.SourceName.{SourceName}
use Rattle.mj_check.specs.declared.sources.SourceName.TheVariants as name
use Rattle.mj_check.specs.declared.sources.SourceTold.{SourceTold}

-- ---- sources
abbrev pub name_text : SourceName → List ℕ
name_text name.Low = codes "low"
name_text name.High = codes "high"
name_text name.TendonLow = codes "tlow"
name_text name.TendonHigh = codes "thigh"
name_text name.Contact = codes "contact"
name_text name.Equality = codes "equality"
name_text name.Friction = codes "friction"

abbrev pub all_names : List SourceName
all_names = name.Low ∷ name.High ∷ name.TendonLow ∷ name.TendonHigh ∷ name.Contact ∷ name.Equality ∷ name.Friction ∷ []

abbrev pub source_named : List ℕ → Option SourceName
source_named text = find (λ n. bytes_eq text (name_text n)) all_names

-- equalities and friction stand in format 2 alone, whose rows tell their bounds
abbrev pub IsNameOf : Bool → SourceName → Type 0
IsNameOf bounds name.Equality = IsTrue bounds
IsNameOf bounds name.Friction = IsTrue bounds
IsNameOf bounds other = Unit {0}

-- a contact has an edge, from 0 to 4, and nothing else has
abbrev pub IsEdge : SourceName → Option ℕ → Type 0
IsEdge name.Contact (Some edge) = IsBetween 0 4 edge
IsEdge name.Contact None = ⊥
IsEdge other (Some edge) = ⊥
IsEdge other None = Unit {0}

abbrev pub edge_text : Option ℕ → List ℕ
edge_text None = []
edge_text (Some edge) = codes " " ++ decimal edge

abbrev pub edge_of : Option ℕ → ℕ
edge_of None = 0
edge_of (Some edge) = edge

abbrev pub source_of : SourceName → ℕ → ℕ → Source
source_of name.Low n edge = source.Low n
source_of name.High n edge = source.High n
source_of name.TendonLow n edge = source.TendonLow n
source_of name.TendonHigh n edge = source.TendonHigh n
source_of name.Contact n edge = source.Contact n edge
source_of name.Equality n edge = source.Equality n
source_of name.Friction n edge = source.Friction n

-- its text is the one that a run writes
abbrev pub source_line : SourceTold → List ℕ
source_line s = source_text (source_of s.name s.number (edge_of s.edge))

pub record IsSource (bounds : Bool) (s : SourceTold) : Type 0 where
  pub name : IsNameOf bounds s.name
  pub number : IsBetween 1 (2 ^ 127 - 1) s.number
  pub edge : IsEdge s.name s.edge

-- ---- kinds: those of a step, and none of the inverse dynamics
abbrev pub all_kinds : List Quantity
all_kinds =
    kind.QuatNorm ∷ kind.FramePos ∷ kind.Arm ∷ kind.GeomNorm ∷ kind.Inertia ∷ kind.Column ∷ kind.Momentum ∷
    kind.Mass ∷ kind.DofMotion ∷ kind.BodyMotion ∷ kind.Wrench ∷ kind.Bias ∷ kind.TendonLength ∷ kind.TendonForce ∷
    kind.Applied ∷ kind.Pivot ∷ kind.Lower ∷ kind.Accel ∷ kind.Rows ∷ kind.Jacobian ∷ kind.Violation ∷
    kind.Reduced ∷ kind.Regularizer ∷ kind.Reference ∷ kind.DualVector ∷ kind.Force ∷ kind.Reach ∷ kind.Cost ∷
    kind.Shortfall ∷ kind.Box ∷ kind.Load ∷ kind.Velocity ∷ kind.Position ∷ kind.ErrorBound ∷ []

abbrev pub kind_named : List ℕ → Option Quantity
kind_named text = find (λ k. bytes_eq text (quantity_name k)) all_kinds

abbrev pub IsKind : Quantity → Type 0
IsKind kind.InverseRate = ⊥
IsKind kind.InverseForce = ⊥
IsKind kind.InverseLoad = ⊥
IsKind other = Unit {0}
