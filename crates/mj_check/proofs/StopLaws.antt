-- Laws of the text of a stop.
use Rattle.std.proofs.Common.{◌≡◌, ℕ, ◌-◌, ◌^◌, ◌<◌, List, ◌++◌, codes, decimal, get_or, refl, sym, ap, ◌∙◌, append_assoc, arith}
use Rattle.mj_optimum.specs.declared.stop.Stop.{Stop}
use Rattle.mj_optimum.specs.declared.stop.Stop.TheVariants as stop
use Rattle.mj_trace.specs.Block.{stop_text}
use Rattle.mj_reading.specs.Reading.{Any, IsBetween}
use Rattle.mj_check.specs.Lines.{IsStop}

-- a word, a number and the line's end
abbrev pub Sweeps : Type 0
Sweeps = (Unit {0} × ℕ) × Unit {0}

abbrev pub AreSweeps : Sweeps → Type 0
AreSweeps a = (Any a.0.0 × IsBetween 1 (2 ^ 127 - 1) a.0.1) × Any a.1

no-limit : (n : ℕ) (behind rest r : List ℕ) → rest ≡ stop_text (stop.Limit n) ++ behind → rest ≡ codes "stop tolerance " ++ r → ⊥
no-limit n behind rest r e f =
    let d : ◌≡◌ {A = ℕ} 108 116 = ap (λ (t : List ℕ). get_or t 5 0) (sym e ∙ f) in
    omega arith

pub tolerance-only : (m : ℕ) (rest r : List ℕ) → 0 < m → rest ≡ codes "stop tolerance " ++ r → (w : Stop) (behind : List ℕ) → IsStop m w → rest ≡ stop_text w ++ behind → (a : Sweeps) × AreSweeps a × (w ≡ stop.Tolerance a.0.1)
tolerance-only m rest r l f stop.NoRows behind h e = absurd (omega (arith, h))
tolerance-only m rest r l f (stop.Tolerance n) behind h e = (((tt, n), tt), ((tt, h.1), tt), refl)
tolerance-only m rest r l f (stop.Limit n) behind h e = absurd (no-limit n behind rest r e f)

pub limit-only : (m : ℕ) (rest : List ℕ) → 0 < m → ((r : List ℕ) → rest ≡ codes "stop tolerance " ++ r → ⊥) → (w : Stop) (behind : List ℕ) → IsStop m w → rest ≡ stop_text w ++ behind → (a : Sweeps) × AreSweeps a × (w ≡ stop.Limit a.0.1)
limit-only m rest l never stop.NoRows behind h e = absurd (omega (arith, h))
limit-only m rest l never (stop.Tolerance n) behind h e = absurd (never (decimal n ++ (codes "\n" ++ behind)) (e ∙ append_assoc (codes "stop tolerance " ++ decimal n) (codes "\n") behind ∙ append_assoc (codes "stop tolerance ") (decimal n) (codes "\n" ++ behind)))
limit-only m rest l never (stop.Limit n) behind h e = (((tt, n), tt), ((tt, h.1), tt), refl)

pub none-only : (m : ℕ) → m ≡ 0 → (w : Stop) → IsStop m w → w ≡ stop.NoRows
none-only m z stop.NoRows h = refl
none-only m z (stop.Tolerance n) h = absurd (omega (arith, h.0))
none-only m z (stop.Limit n) h = absurd (omega (arith, h.0))
