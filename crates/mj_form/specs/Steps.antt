-- A walk step by step. The walker keeps the first refusal, and from then on nothing is claimed of
-- what is read.
use Rattle.std.specs.Prelude.{◌≡◌, Option, Some, None, Ok}
use Rattle.mj_types.specs.declared.status.ModelFault.{ModelFault}
use Rattle.mj_form.specs.declared.refusal.Refusal.{Refusal}
use Rattle.mj_form.specs.Reading.{Read, Refuses}

-- a step from a walker's refusal to its next one, which gave x for this reading
abbrev pub StepIs : {A : Type 0} → Option (Refusal ModelFault) → Option (Refusal ModelFault) → A → Read A → Type 0
StepIs None None x reading = reading ≡ Ok x
StepIs None (Some refusal) x reading = Refuses refusal reading
StepIs (Some refusal) later x reading = later ≡ Some refusal

pub record Step {A : Type 0} (old new : Option (Refusal ModelFault)) (x : A) (reading : Read A) : Type 0 where
  pub is : StepIs old new x reading

-- the refusal that is kept: the first
abbrev pub first_refusal : Option (Refusal ModelFault) → Refusal ModelFault → Option (Refusal ModelFault)
first_refusal None refusal = Some refusal
first_refusal (Some first) refusal = Some first
