-- Laws of the text of an end.
use Rattle.std.proofs.Common.{◌≡◌, ℕ, ◌+◌, ◌-◌, ◌^◌, ◌<◌, ◌≤◌, ◌++◌, codes, decimal, refl, ap, arith}
use Rattle.mj_types.specs.declared.range.Quantity.{Quantity}
use Rattle.mj_types.specs.declared.range.End.{End}
use Rattle.mj_types.specs.declared.range.End.TheVariants as finish
use Rattle.mj_types.specs.Ranges.{quantity_name}
use Rattle.mj_trace.specs.Trace.{end_text}
use Rattle.mj_reading.specs.Reading.{Any, IsBetween}
use Rattle.mj_check.specs.Lines.{IsEnd}
use Rattle.mj_check.specs.Sources.{IsKind}

pub done-text : end_text finish.Done ≡ codes "end done\n"
unfolding end_text
done-text = refl

pub early-text : (step : ℕ) (kind : Quantity) (index : ℕ) → end_text (finish.OutOfRange step kind index) ≡ ((((codes "end out-of-range step=" ++ decimal step) ++ codes " kind=") ++ quantity_name kind) ++ (codes " index=" ++ decimal index)) ++ codes "\n"
unfolding end_text
early-text step kind index = refl

-- all steps were done, where there are as many blocks
pub done-only : (count steps : ℕ) → steps ≤ count → (w : End) → IsEnd count steps w → w ≡ finish.Done
done-only count steps l finish.Done h = refl
done-only count steps l (finish.OutOfRange step kind index) h = absurd (omega (arith, h.0, h.1))

pub never-ends : (count steps : ℕ) → steps ≤ count → (count ≡ steps → ⊥) → (w : End) → IsEnd count steps w → ⊥
never-ends count steps l n finish.Done h = n h
never-ends count steps l n (finish.OutOfRange step kind index) h = omega (arith, h.0, h.1)

-- and else the next one was refused
abbrev pub Early : Type 0
Early = (((Unit {0} × Unit {0}) × Quantity) × (Unit {0} × ℕ)) × Unit {0}

abbrev pub end_early : ℕ → Early → End
end_early count a = finish.OutOfRange (count + 1) a.0.0.1 a.0.1.1

abbrev pub IsEarly : Early → Type 0
IsEarly a = (((Any a.0.0.0.0 × Any a.0.0.0.1) × IsKind a.0.0.1) × (Any a.0.1.0 × IsBetween 1 (2 ^ 127 - 1) a.0.1.1)) × Any a.1

pub early-only : (count steps : ℕ) → count < steps → (w : End) → IsEnd count steps w → (a : Early) × IsEarly a × (w ≡ end_early count a)
early-only count steps l finish.Done h = absurd (omega (arith, h))
early-only count steps l (finish.OutOfRange step kind index) h = (((((tt, tt), kind), (tt, index)), tt), ((((tt, tt), h.2), (tt, h.3)), tt), ap (λ (s : ℕ). finish.OutOfRange s kind index) h.0)

pub is-early : (count steps : ℕ) → count < steps → (a : Early) → IsEarly a → IsEnd count steps (end_early count a)
is-early count steps l a h = (refl, omega arith, h.0.0.1, h.0.1.1)
