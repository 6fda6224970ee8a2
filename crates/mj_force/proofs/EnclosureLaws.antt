-- The forces of a dual and their certificate, by the dual's own rows.
use Rattle.std.proofs.Common.{◌≡◌, ℕ, ◌<◌, ℤ, pos, Option, Some, Result, Ok, Err, ap, ◌∙◌}
use Rattle.fx_whole.specs.First.{refusal_of}
use Rattle.fx_whole.proofs.FirstLaws.{pass_first, stop_first}
use Rattle.mj_optimum.specs.Problem.{IsRegular, Problem}
use Rattle.mj_optimum.specs.Cost.{cost}
use Rattle.mj_optimum.specs.Feasible.{HoldsZero}
use Rattle.mj_optimum.specs.Shortfall.{bound2}
use Rattle.mj_optimum.specs.Box.{hi, lo}
use Rattle.mj_optimum.specs.Stop.{stop_of, sweeps_of}
use Rattle.mj_optimum.specs.Sweep.{iterate}
use Rattle.mj_optimum.specs.declared.stop.Stop.{Stop}
use Rattle.mj_optimum.proofs.BoundLaws.{bound_holds}
use Rattle.mj_optimum.proofs.BoxLaws.{box_holds}
use Rattle.mj_optimum.proofs.SweepLaws.{iterate_is_feasible}
use Rattle.mj_types.specs.declared.dual.Dual.{Dual}
use Rattle.mj_types.specs.declared.dual.Forces.{Forces}
use Rattle.mj_types.specs.declared.dual.Cert.{Cert}
use Rattle.mj_types.specs.declared.range.OutOfRange.{OutOfRange}
use Rattle.mj_types.specs.Parts.{number_at}
use Rattle.mj_types.specs.Problems.{forces, place, problem}
use Rattle.mj_types.specs.StepValues.{dual_values, own}
use Rattle.mj_pgs.specs.Answer.{answer}
use Rattle.mj_cert.specs.Certificate.{IsCertificate, certificate_fault}
use Rattle.mj_optimum.proofs.SameCertificates.{bound-same, high-same, low-same}
use Rattle.mj_optimum.proofs.SameSweeps.{cost-same, iterate-same, stop-same}
use Rattle.mj_force.specs.Enclosures.{IsEnclosed, enclosure_fault, force_of}
use Rattle.mj_force.proofs.FaultLaws.{answer-same, certificate_fault-same}
use Rattle.mj_force.proofs.OwnLaws.{own-place, own-rows}

-- ---- what a certificate is worth
pub enclosed : (p : Problem) (tolerance : ℤ) (limit : ℕ) → IsRegular p → HoldsZero p
    → IsEnclosed p (force_of p tolerance limit) (bound2 p (force_of p tolerance limit)) (lo p (force_of p tolerance limit)) (hi p (force_of p tolerance limit))
unfolding force_of
enclosed p tolerance limit regular holds =
    let f = iterate p (sweeps_of (stop_of p tolerance limit)) in
    record {
      feasible = iterate_is_feasible p (sweeps_of (stop_of p tolerance limit)) holds;
      bound_holds = bound_holds p f regular;
      box_holds = box_holds p f regular;
    }

-- ---- the forces that a solver leaves
pub record AreLeft (d : Dual) (tolerance : ℤ) (limit : ℕ) (x : Forces) (stop : Stop) : Type 0 where
  pub answers : Ok stop ≡ answer (problem d) (place d) tolerance limit
  pub stops : stop ≡ stop_of (problem d) tolerance limit
  pub swept : forces x ≡ iterate (problem d) (sweeps_of stop)

pub stop-is : (d : Dual) (tolerance : ℤ) (limit : ℕ) (stop : Stop) → stop ≡ stop_of (problem d) tolerance limit → stop ≡ stop_of (dual_values d).problem tolerance limit
stop-is d tolerance limit stop e = e ∙ stop-same (problem d) (own (problem d)) tolerance limit (own-rows (problem d))

pub force-is : (d : Dual) (tolerance : ℤ) (limit : ℕ) (x : Forces) (stop : Stop) → AreLeft d tolerance limit x stop → forces x ≡ force_of (dual_values d).problem tolerance limit
unfolding force_of
force-is d tolerance limit x stop left =
    left.swept
    ∙ ap (λ (s : Stop). iterate (problem d) (sweeps_of s)) (stop-is d tolerance limit stop left.stops)
    ∙ iterate-same (problem d) (own (problem d)) (sweeps_of (stop_of (own (problem d)) tolerance limit)) (own-rows (problem d))

-- ---- the first number out of range
same_answer : (d : Dual) (tolerance : ℤ) (limit : ℕ) → answer (problem d) (place d) tolerance limit ≡ answer (dual_values d).problem (dual_values d).place tolerance limit
same_answer d tolerance limit = answer-same (problem d) (own (problem d)) (place d) (dual_values d).place tolerance limit (own-rows (problem d)) (own-place d)

-- the solver refuses
pub fault-first : (d : Dual) (tolerance : ℤ) (limit : ℕ) (e : OutOfRange) → Err e ≡ answer (problem d) (place d) tolerance limit → Some e ≡ enclosure_fault (dual_values d) tolerance limit
unfolding enclosure_fault
fault-first d tolerance limit e h =
    stop_first (refusal_of (answer (dual_values d).problem (dual_values d).place tolerance limit))
    (certificate_fault (dual_values d).problem (dual_values d).place (force_of (dual_values d).problem tolerance limit))
    e (ap (λ (r : Result Stop OutOfRange). refusal_of r) (h ∙ same_answer d tolerance limit))

-- it doesn't, and the certificate refuses or not
pub fault-then : (d : Dual) (tolerance : ℤ) (limit : ℕ) (x : Forces) (stop : Stop) (r : Option OutOfRange) → AreLeft d tolerance limit x stop → r ≡ certificate_fault (problem d) (place d) (forces x) → r ≡ enclosure_fault (dual_values d) tolerance limit
unfolding enclosure_fault
fault-then d tolerance limit x stop r left h =
    pass_first (refusal_of (answer (dual_values d).problem (dual_values d).place tolerance limit))
    (certificate_fault (dual_values d).problem (dual_values d).place (force_of (dual_values d).problem tolerance limit)) r
    (ap (λ (r : Result Stop OutOfRange). refusal_of r) (left.answers ∙ same_answer d tolerance limit))
    (h ∙ certificate_fault-same (problem d) (own (problem d)) (place d) (dual_values d).place (forces x) (own-rows (problem d)) (own-place d)
    ∙ ap (λ (f : ℕ → ℤ). certificate_fault (dual_values d).problem (dual_values d).place f) (force-is d tolerance limit x stop left))

-- ---- the numbers of the certificate
pub cost-is : (d : Dual) (tolerance : ℤ) (limit : ℕ) (x : Forces) (stop : Stop) (c : Cert) → AreLeft d tolerance limit x stop → IsCertificate d x c
    → c.cost2 ≡ cost (dual_values d).problem (force_of (dual_values d).problem tolerance limit) (pos 1)
cost-is d tolerance limit x stop c left is =
    is.cost ∙ cost-same (problem d) (own (problem d)) (forces x) (pos 1) (own-rows (problem d))
    ∙ ap (λ (f : ℕ → ℤ). cost (dual_values d).problem f (pos 1)) (force-is d tolerance limit x stop left)

pub bound-is : (d : Dual) (tolerance : ℤ) (limit : ℕ) (x : Forces) (stop : Stop) (c : Cert) → AreLeft d tolerance limit x stop → IsCertificate d x c
    → c.bound2 ≡ bound2 (dual_values d).problem (force_of (dual_values d).problem tolerance limit)
bound-is d tolerance limit x stop c left is =
    is.bound ∙ bound-same (problem d) (own (problem d)) (forces x) (own-rows (problem d))
    ∙ ap (λ (f : ℕ → ℤ). bound2 (dual_values d).problem f) (force-is d tolerance limit x stop left)

pub low-is : (d : Dual) (tolerance : ℤ) (limit : ℕ) (x : Forces) (stop : Stop) (c : Cert) → AreLeft d tolerance limit x stop → IsCertificate d x c
    → (i : ℕ) → i < d.m → number_at c.lo i ≡ lo (dual_values d).problem (force_of (dual_values d).problem tolerance limit) i
low-is d tolerance limit x stop c left is i h =
    is.low i h ∙ low-same (problem d) (own (problem d)) (forces x) i (own-rows (problem d)) h
    ∙ ap (λ (f : ℕ → ℤ). lo (dual_values d).problem f i) (force-is d tolerance limit x stop left)

pub high-is : (d : Dual) (tolerance : ℤ) (limit : ℕ) (x : Forces) (stop : Stop) (c : Cert) → AreLeft d tolerance limit x stop → IsCertificate d x c
    → (i : ℕ) → i < d.m → number_at c.hi i ≡ hi (dual_values d).problem (force_of (dual_values d).problem tolerance limit) i
high-is d tolerance limit x stop c left is i h =
    is.high i h ∙ high-same (problem d) (own (problem d)) (forces x) i (own-rows (problem d)) h
    ∙ ap (λ (f : ℕ → ℤ). hi (dual_values d).problem f i) (force-is d tolerance limit x stop left)
