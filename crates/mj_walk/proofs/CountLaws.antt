-- Counts that are told up to 200.
use Rattle.std.proofs.Common.{◌≡◌, ℕ, ◌<◌, Bool, min, List, [], Option, nat_lt, ap, subst, ◌∙◌, arith}
use Rattle.std.specs.Prelude.{nat_le}
use Rattle.mj_types.specs.declared.status.ModelFault.{ModelFault}
use Rattle.mj_form.specs.declared.refusal.Refusal.{Refusal}
use Rattle.mj_form.specs.Steps.{Step}
use Rattle.mj_types.specs.declared.status.ModelCode.TheVariants as code
use Rattle.mj_form.specs.Reading.{at_key}
use Rattle.mj_judge.specs.Judged.{unless}
use Rattle.mj_walk.specs.Counts.{few, some_dof}
use Rattle.std.proofs.lemmas.Bool.Decides.{nat_tests}

told-le : (n most : ℕ) → most < 200 → nat_le (min 200 n) most ≡ nat_le n most
told-le n most h = grind (arith, nat_tests)

told-lt : (n : ℕ) → nat_lt 0 (min 200 n) ≡ nat_lt 0 n
told-lt n = grind (arith, nat_tests)

pub few-told : {s0 s1 : Option (Refusal ModelFault)} (key : List ℕ) (told n most : ℕ) → told ≡ min 200 n
    → Step s0 s1 tt (few key told most) → most < 200 → Step s0 s1 tt (few key n most)
few-told {s0} {s1} key told n most e step h =
    let P : Bool → Type 0 = λ b. Step s0 s1 tt (at_key key (unless b code.LimitPassed)) in
    subst P (ap (λ (k : ℕ). nat_le k most) e ∙ told-le n most h) step

pub some-told : {s0 s1 : Option (Refusal ModelFault)} (told n : ℕ) → told ≡ min 200 n
    → Step s0 s1 tt (some_dof told) → Step s0 s1 tt (some_dof n)
some-told {s0} {s1} told n e step =
    let P : Bool → Type 0 = λ b. Step s0 s1 tt (at_key [] (unless b code.EmptyModel)) in
    subst P (ap (λ (k : ℕ). nat_lt 0 k) e ∙ told-lt n) step
