-- The steps of a walk, one after another: the proof of a table is a chain of these.
use Rattle.std.proofs.Common.{◌≡◌, Option, Some, None, Result, Ok, Err, refl, sym, ◌∙◌}
use Rattle.mj_types.specs.declared.status.ModelFault.{ModelFault}
use Rattle.mj_form.specs.declared.refusal.Refusal.{Refusal}
use Rattle.mj_form.specs.declared.refusal.Refusal.TheVariants.{Memory, Found}
use Rattle.mj_form.specs.Reading.{Read, Refuses, ◌>>=◌, ◌>>◌}
use Rattle.mj_form.specs.Steps.{StepIs, Step}

abbrev Kept : Type 0
Kept = Option (Refusal ModelFault)

module _ {A B : Type 0} where
  refuses-then : (refusal : Refusal ModelFault) (a : Read A) (f : A → Read B) → Refuses refusal a → Refuses refusal (a >>= f)
  refuses-then Memory a f h = tt
  refuses-then (Found fault) a f h = rw h

  then-is : (s0 s1 s2 : Kept) (x : A) (y : B) (a : Read A) (f : A → Read B) → StepIs s0 s1 x a → StepIs s1 s2 y (f x) → StepIs s0 s2 y (a >>= f)
  then-is None None s2 x y a f p q = rw p q
  then-is None (Some refusal) s2 x y a f p q = rw q (refuses-then refusal a f p)
  then-is (Some refusal) s1 s2 x y a f p q = let kept = rw p at q in kept

  -- a step whose value the rest uses
  pub step-then : {s0 s1 s2 : Kept} {x : A} {y : B} {a : Read A} (f : A → Read B) → Step s0 s1 x a → Step s1 s2 y (f x) → Step s0 s2 y (a >>= f)
  step-then {s0} {s1} {s2} {x} {y} {a} f p q = record { is = then-is s0 s1 s2 x y a f p.is q.is }

  -- a step whose value the rest doesn't use
  pub step-next : {s0 s1 s2 : Kept} {x : A} {y : B} {a : Read A} {b : Read B} → Step s0 s1 x a → Step s1 s2 y b → Step s0 s2 y (a >> b)
  step-next {s0} {s1} {s2} {x} {y} {a} {b} p q = step-then (λ _. b) p q

same-kept : {A : Type 0} (s : Kept) (x : A) → StepIs s s x (Ok x)
same-kept None x = refl
same-kept (Some refusal) x = refl

-- the end of a walk
pub step-end : {A : Type 0} {s : Kept} {x : A} → Step s s x (Ok x)
step-end {A} {s} {x} = record { is = same-kept s x }
