-- The first number out of range in two problems that have the same rows, at the same places.
use Rattle.std.proofs.Common.{◌≡◌, ℕ, suc, ◌+◌, ◌==◌, ◌<◌, ℤ, pos, cond, Option, Result, Ok, ap, ap₂, ◌∙◌, arith}
use Rattle.fx_whole.specs.First.{first_to, or_first}
use Rattle.fx_whole.proofs.FirstLaws.{first_ext}
use Rattle.mj_optimum.specs.Problem.{Problem}
use Rattle.mj_optimum.specs.Cost.{reach}
use Rattle.mj_optimum.specs.Limits.{box_limit, cost_limit, force_limit, reach_limit, shortfall_limit, where_open}
use Rattle.mj_optimum.specs.Sweep.{after_update, iterate, pass, sweep, update}
use Rattle.mj_optimum.specs.declared.stop.Stop.{Stop}
use Rattle.mj_optimum.specs.declared.stop.Stop.TheVariants.{NoRows, Limit}
use Rattle.mj_types.specs.declared.range.OutOfRange.{OutOfRange}
use Rattle.mj_types.specs.declared.range.Quantity.TheVariants as kind
use Rattle.mj_types.specs.Ranges.{limited}
use Rattle.mj_pgs.specs.Answer.{answer, ending, or_end, pass_fault, refused, row_fault, stopped, sweep_fault}
use Rattle.mj_cost.specs.Costs.{cost_fault}
use Rattle.mj_cert.specs.Certificate.{box_fault, certificate_fault, shortfall_fault}
use Rattle.mj_optimum.specs.Agreement.{HaveSameRows}
use Rattle.mj_optimum.proofs.SameCounts.{first-same}
use Rattle.mj_optimum.proofs.SameSweeps.{iterate-same, pass-same, put-same, reach-same, stop_after-same, sweep-same, update-same}
use Rattle.mj_optimum.proofs.SameCertificates.{pull_to-same, rise_down-same, rise_up-same, shortfall_to-same, weight_to-same}

-- the rows have the same numbers in the list of rows
abbrev pub AreNumberedAlike : Problem → (ℕ → ℕ) → (ℕ → ℕ) → Type 0
AreNumberedAlike p u v = (i : ℕ) → i < p.m → u i ≡ v i

-- ---- the solver
row_fault-same : (p q : Problem) (u v : ℕ → ℕ) (f : ℕ → ℤ) (i : ℕ) → HaveSameRows p q → AreNumberedAlike p u v → i < p.m → row_fault p u f i ≡ row_fault q v f i
unfolding row_fault
row_fault-same p q u v f i s e h = ap₂ (λ x y. or_first x y) force reaches
  where
    force : limited kind.Force (u i) force_limit (update p f i) ≡ limited kind.Force (v i) force_limit (update q f i)
    force = ap₂ (λ (n : ℕ) (x : ℤ). limited kind.Force n force_limit x) (e i h) (update-same p q f i s h)

    reaches : first_to p.nv (λ k. limited kind.Reach (k + 1) reach_limit (reach p (after_update p f i) k)) ≡ first_to q.nv (λ k. limited kind.Reach (k + 1) reach_limit (reach q (after_update q f i) k))
    reaches =
        first-same p.nv q.nv (λ k. limited kind.Reach (k + 1) reach_limit (reach p (after_update p f i) k)) (λ k. limited kind.Reach (k + 1) reach_limit (reach q (after_update q f i) k)) s.dofs
        (λ k l. ap (λ (x : ℤ). limited kind.Reach (k + 1) reach_limit x) (reach-same p q (after_update p f i) k s l ∙ ap (λ (f : ℕ → ℤ). reach q f k) (put-same p q f i s h)))

pass_fault-same : (p q : Problem) (u v : ℕ → ℕ) (f : ℕ → ℤ) → HaveSameRows p q → AreNumberedAlike p u v → pass_fault p u f ≡ pass_fault q v f
unfolding pass_fault
pass_fault-same p q u v f s e =
    first-same p.m q.m (λ i. row_fault p u (pass p f i) i) (λ i. row_fault q v (pass q f i) i) s.rows
    (λ i h. row_fault-same p q u v (pass p f i) i s e h ∙ ap (λ (f : ℕ → ℤ). row_fault q v f i) (pass-same p q f i s (omega arith)))

cost_fault-same : (p q : Problem) (u v : ℕ → ℕ) (f : ℕ → ℤ) (i : ℕ) → HaveSameRows p q → AreNumberedAlike p u v → i < p.m → cost_fault p u f i ≡ cost_fault q v f i
unfolding cost_fault
cost_fault-same p q u v f i s e h =
    ap₂ (λ x y. or_first x y)
    (ap₂ (λ (n x : ℕ). limited kind.Cost n cost_limit (pos x)) (e i h) (weight_to-same p q f (i + 1) s (omega arith)))
    (ap₂ (λ (n x : ℕ). limited kind.Cost n cost_limit (pos x)) (e i h) (pull_to-same p q f (i + 1) s (omega arith)))

sweep_fault-same : (p q : Problem) (u v : ℕ → ℕ) (f : ℕ → ℤ) → HaveSameRows p q → AreNumberedAlike p u v → sweep_fault p u f ≡ sweep_fault q v f
unfolding sweep_fault
sweep_fault-same p q u v f s e =
    ap₂ (λ x y. or_first x y) (pass_fault-same p q u v f s e)
    (first-same p.m q.m (cost_fault p u (sweep p f)) (cost_fault q v (sweep q f)) s.rows
    (λ i h. cost_fault-same p q u v (sweep p f) i s e h ∙ ap (λ (f : ℕ → ℤ). cost_fault q v f i) (sweep-same p q f s)))

ending-same : (p q : Problem) (u v : ℕ → ℕ) (tolerance : ℤ) (n : ℕ) → HaveSameRows p q → AreNumberedAlike p u v → ending p u tolerance n ≡ ending q v tolerance n
unfolding ending
ending-same p q u v tolerance n s e =
    ap₂ (λ (x : Option OutOfRange) (y : Option Stop). or_first (refused x) (stopped y))
    (sweep_fault-same p q u v (iterate p n) s e ∙ ap (λ (f : ℕ → ℤ). sweep_fault q v f) (iterate-same p q n s))
    (stop_after-same p q tolerance n s)

pub answer-same : (p q : Problem) (u v : ℕ → ℕ) (tolerance : ℤ) (limit : ℕ) → HaveSameRows p q → AreNumberedAlike p u v → answer p u tolerance limit ≡ answer q v tolerance limit
unfolding answer
answer-same p q u v tolerance limit s e =
    ap₂ (λ (m : ℕ) (x : Option (Result Stop OutOfRange)). cond (m == 0) (Ok NoRows) (or_end x (Ok (Limit limit)))) s.rows
    (first_ext limit (ending p u tolerance) (ending q v tolerance) (λ n _. ending-same p q u v tolerance n s e))

-- ---- the certificate
box_fault-same : (p q : Problem) (u v : ℕ → ℕ) (f : ℕ → ℤ) (i : ℕ) → HaveSameRows p q → AreNumberedAlike p u v → i < p.m → box_fault p u f i ≡ box_fault q v f i
box_fault-same p q u v f i s e h =
    ap₂ (λ x y. or_first x y)
    (ap₂ (λ (n x : ℕ). limited kind.Box n box_limit (pos x)) (e i h) (ap₂ (λ (high : Option ℤ) (k : ℕ). where_open high k) (s.high_bounds i h) (rise_up-same p q f i s h)))
    (ap₂ (λ (n x : ℕ). limited kind.Box n box_limit (pos x)) (e i h) (ap₂ (λ (low : Option ℤ) (k : ℕ). where_open low k) (s.low_bounds i h) (rise_down-same p q f i s h)))

pub certificate_fault-same : (p q : Problem) (u v : ℕ → ℕ) (f : ℕ → ℤ) → HaveSameRows p q → AreNumberedAlike p u v → certificate_fault p u f ≡ certificate_fault q v f
certificate_fault-same p q u v f s e =
    ap₂ (λ x y. or_first x y)
    (first-same p.m q.m (shortfall_fault p u f) (shortfall_fault q v f) s.rows (λ i h. ap₂ (λ (n : ℕ) (x : ℤ). limited kind.Shortfall n shortfall_limit x) (e i h) (shortfall_to-same p q f (suc i) s h)))
    (first-same p.m q.m (box_fault p u f) (box_fault q v f) s.rows (λ i h. box_fault-same p q u v f i s e h))
