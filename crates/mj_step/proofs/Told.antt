-- What a report holds, as the values of a step: numbers that were copied, the residual and the largest radii, the rows and their forces.
use Rattle.std.proofs.Common.{◌≡◌, ◌<◌, ◌≤◌, ℕ, zero, suc, ◌==◌, ℤ, pos, List, length, slice_index_or, inl, inr, refl, sym, ap, ◌∙◌, arith}
use Rattle.std.proofs.lemmas.Bool.{cases_lt, cond-false}
use Rattle.std.proofs.lemmas.Bool.Decides.{nat_tests}
use Rattle.std.proofs.Math.Path.{fun_ext}
use Rattle.fx_num.specs.declared.number.Number.{Number}
use Rattle.fx_whole.specs.Entries.{below}
use Rattle.fx_whole.proofs.EntryLaws.{below-within, below-past, below-is}
use Rattle.mj_factor.specs.Residuals.{greatest_to, residual_at}
use Rattle.mj_factor.proofs.ReadLaws.{Agree2, greatest-reads, residual-reads}
use Rattle.mj_force.specs.Enclosures.{force_of}
use Rattle.mj_optimum.specs.declared.stop.Stop.{Stop}
use Rattle.mj_optimum.specs.Problem.{Problem}
use Rattle.mj_optimum.specs.Stop.{stop_of, sweeps_of}
use Rattle.mj_optimum.specs.Sweep.{update, pass, iterate}
use Rattle.mj_types.specs.declared.rows.Row.{Row}
use Rattle.mj_types.specs.declared.rows.StepReport.{StepReport}
use Rattle.mj_types.specs.declared.state.State.{State}
use Rattle.mj_types.specs.Control.{Control}
use Rattle.mj_types.specs.Masses.{mass_at, no_near}
use Rattle.mj_types.specs.Parts.{number_at, plain}
use Rattle.mj_types.specs.Problems.{forces}
use Rattle.mj_types.specs.StepValues.{values_of, active_count}

-- a copy of a list
pub copied : (xs ys : List Control) → length xs ≡ length ys → ((i : ℕ) → i < length ys → number_at xs i ≡ number_at ys i)
    → number_at xs ≡ number_at ys
copied xs ys e same =
    below-is (λ (x : Control). x.mid) (plain (pos 0)) xs (length ys) (number_at ys) e same
    ∙ sym (below-is (λ (x : Control). x.mid) (plain (pos 0)) ys (length ys) (number_at ys) refl (λ i h. refl))

-- the residual of a matrix that holds f, and of two lists
pub residual_told : (n : ℕ) (x : List (Number ℕ 40)) (a s : List Control) (f : ℕ → ℕ → ℤ) (b t : ℕ → ℤ)
    → length a ≡ n → Agree2 n (mass_at n x) f → number_at a ≡ b → number_at s ≡ t
    → greatest_to (length a) (residual_at (length a) (mass_at (length a) x) (number_at a) (number_at s)) ≡ greatest_to n (residual_at n f b t)
residual_told n x a s f b t e same solved right =
    ap (λ k. greatest_to k (residual_at k (mass_at k x) (number_at a) (number_at s))) e
    ∙ residual-reads n (mass_at n x) f (number_at a) b (number_at s) t same (λ i h. ap (λ g. g i) solved) (λ i h. ap (λ g. g i) right)

-- the largest radius of a list
pub radius_told : (n : ℕ) (xs : List (Number ℕ 32)) (radius : ℕ → ℕ) → length xs ≡ n
    → ((i : ℕ) → i < n → (slice_index_or xs i no_near).rad ≡ radius i)
    → greatest_to (length xs) (λ i. (slice_index_or xs i no_near).rad) ≡ greatest_to n radius
radius_told n xs radius e same =
    ap (λ k. greatest_to k (λ i. (slice_index_or xs i no_near).rad)) e
    ∙ greatest-reads n (λ i. (slice_index_or xs i no_near).rad) radius same

-- ---- the forces of rows past a problem's are 0
pass-past : (p : Problem) (f : ℕ → ℤ) (n j : ℕ) → n ≤ j → pass p f n j ≡ f j
pass-past p f zero j h = refl
pass-past p f (suc n) j h = cond-false (j == n) (update p (pass p f n) n) (pass p f n j) (grind (arith, nat_tests)) ∙ pass-past p f n j (omega arith)

iterate-past : (p : Problem) (s j : ℕ) → p.m ≤ j → iterate p s j ≡ pos 0
unfolding iterate
iterate-past p zero j h = refl
iterate-past p (suc s) j h = pass-past p (iterate p s) p.m j h ∙ iterate-past p s j h

pub force-whole : (p : Problem) (tolerance : ℤ) (limit : ℕ) → below (pos 0) p.m (force_of p tolerance limit) ≡ force_of p tolerance limit
unfolding force_of
force-whole p tolerance limit =
    fun_ext (λ k. elim (cases_lt k p.m) [
      | inl l ↦ below-within (pos 0) p.m (force_of p tolerance limit) k l
      | inr l ↦ below-past (pos 0) p.m (force_of p tolerance limit) k l ∙ sym (iterate-past p (sweeps_of (stop_of p tolerance limit)) k l)
    ])

-- ---- the values of a step
pub values_told : (s : State) (r : StepReport) (accel : ℕ → ℤ) (residual mass bias : ℤ) (rows : List Row) (end : Stop) (force : ℕ → ℤ) (cost_ bound_ : ℤ) (low high : ℕ → ℤ)
    → number_at r.accel ≡ accel → r.residual ≡ residual → r.mass_radius ≡ mass → r.bias_radius ≡ bias
    → below (pos 0) (active_count r.rows.list) (forces r.forces) ≡ force → below (pos 0) (active_count r.rows.list) (number_at r.cert.lo) ≡ low
    → below (pos 0) (active_count r.rows.list) (number_at r.cert.hi) ≡ high → r.rows.list ≡ rows → r.stop ≡ end → r.cert.cost2 ≡ cost_ → r.cert.bound2 ≡ bound_
    → values_of s r ≡ record {
      q = number_at s.q;
      v = number_at s.v;
      accel = accel;
      residual = residual;
      mass_radius = mass;
      bias_radius = bias;
      rows = rows;
      stop = end;
      force = force;
      cost = cost_;
      bound = bound_;
      lo = low;
      hi = high;
    }
values_told s r accel residual mass bias rows end force cost_ bound_ low high e1 e2 e3 e4 e5 e6 e7 e8 e9 e10 e11 =
    rw (e1, e2, e3, e4, e5, e6, e7, e8, e9, e10, e11) refl
