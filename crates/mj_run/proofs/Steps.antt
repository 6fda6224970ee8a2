-- Laws of runs: the state after one more step, whether it is refused, and what it tells.
use Rattle.std.proofs.Common.{◌≡◌, ℕ, suc, ◌+◌, List, ◌++◌, Bool, true, false, Option, Some, None, refl, sym, ap, ◌∙◌, arith}
use Rattle.fx_whole.specs.First.{or_first, first_to}
use Rattle.mj_types.specs.declared.model.Model.{Model}
use Rattle.mj_types.specs.declared.range.OutOfRange.{OutOfRange}
use Rattle.mj_types.specs.declared.state.State.{State}
use Rattle.mj_types.specs.declared.wants.Wants.{Wants}
use Rattle.mj_types.specs.Control.{Control}
use Rattle.mj_inverse.specs.Separated.{inverse_fault}
use Rattle.mj_step.specs.Steps.{step_state, step_fault}
use Rattle.mj_run.specs.Course.{blocks_text}
use Rattle.mj_run.specs.Run.{state_at, refusal_at, course}
use Rattle.mj_run.specs.Told.{given_at, with_more, told_fault, told_text}
use Rattle.mj_run.proofs.CourseLaws.{passed-one, blocks-more}

module _ (m : Model) (controls : ℕ → List Control) where
  -- the state after one more step
  pub state-more : (k : ℕ) (s next : State) → s ≡ state_at m controls k → next ≡ step_state m s (controls k) → next ≡ state_at m controls (k + 1)
  unfolding state_at
  state-more k s next here e =
      let counted : suc k ≡ k + 1 = omega arith in
      e ∙ ap (λ x. step_state m x (controls k)) here ∙ ap (state_at m controls) counted

  -- a step that isn't refused
  pub passed-more : (k : ℕ) (s : State) → s ≡ state_at m controls k → first_to k (refusal_at m controls) ≡ None → step_fault m s (controls k) ≡ None → first_to (k + 1) (refusal_at m controls) ≡ None
  passed-more k s here before now = passed-one (refusal_at m controls) k before (ap (λ x. step_fault m x (controls k)) (sym here) ∙ now)

  -- a step that is refused
  pub refused-here : (k : ℕ) (s : State) (out : OutOfRange) → s ≡ state_at m controls k → step_fault m s (controls k) ≡ Some out → refusal_at m controls k ≡ Some out
  refused-here k s out here now = ap (λ x. step_fault m x (controls k)) (sym here) ∙ now

-- ---- with what is told beside
more-stop : (wants : Bool) (x y : Option OutOfRange) (e : OutOfRange) → Some e ≡ x → Some e ≡ with_more wants x y
more-stop true x y e h = ap (λ z. or_first z y) h
more-stop false x y e h = h

more-next : (wants : Bool) (x y r : Option OutOfRange) → None ≡ x → r ≡ with_more wants None y → r ≡ with_more wants x y
more-next true x y r h k = k ∙ ap (λ z. or_first z y) h
more-next false x y r h k = k ∙ h

more-none : (wants : Bool) (x y : Option OutOfRange) → with_more wants x y ≡ None → x ≡ None
more-none true None y h = refl
more-none true (Some e) y h = cc
more-none false x y h = h

-- the step is refused, or what is told beside is
pub told-stop : (wants : Wants) (m : Model) (s : State) (u : List Control) (e : OutOfRange) → Some e ≡ step_fault m s u → Some e ≡ told_fault wants m s u
told-stop wants m s u e h = more-stop wants.inverse (step_fault m s u) (inverse_fault (given_at m s u)) e h

pub told-next : (wants : Wants) (m : Model) (s : State) (u : List Control) (r : Option OutOfRange) → None ≡ step_fault m s u
    → r ≡ with_more wants.inverse None (inverse_fault (given_at m s u)) → r ≡ told_fault wants m s u
told-next wants m s u r h k = more-next wants.inverse (step_fault m s u) (inverse_fault (given_at m s u)) r h k

-- where neither is, the step isn't
pub told-none : (wants : Wants) (m : Model) (s : State) (u : List Control) → told_fault wants m s u ≡ None → step_fault m s u ≡ None
told-none wants m s u h = more-none wants.inverse (step_fault m s u) (inverse_fault (given_at m s u)) h

module _ (wants : Wants) (m : Model) (controls : ℕ → List Control) where
  pub told-passed : (k : ℕ) (s : State) → s ≡ state_at m controls k → first_to k (course wants m controls).refusal ≡ None → told_fault wants m s (controls k) ≡ None
      → first_to (k + 1) (course wants m controls).refusal ≡ None
  told-passed k s here before now = passed-one (course wants m controls).refusal k before (ap (λ x. told_fault wants m x (controls k)) (sym here) ∙ now)

  pub told-refused : (k : ℕ) (s : State) (out : OutOfRange) → s ≡ state_at m controls k → told_fault wants m s (controls k) ≡ Some out → (course wants m controls).refusal k ≡ Some out
  told-refused k s out here now = ap (λ x. told_fault wants m x (controls k)) (sym here) ∙ now

  pub told-more : (k : ℕ) (s : State) → s ≡ state_at m controls k
      → blocks_text (course wants m controls) (k + 1) ≡ blocks_text (course wants m controls) k ++ told_text wants m k s (controls k)
  told-more k s here = blocks-more (course wants m controls) k ∙ ap (λ x. blocks_text (course wants m controls) k ++ told_text wants m k x (controls k)) (sym here)
