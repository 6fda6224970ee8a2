-- Laws of courses: how many steps are done, how they end, and the text of their blocks.
use Rattle.std.proofs.Common.{◌≡◌, ℕ, ◌+◌, ◌-◌, ◌<◌, ◌≤◌, ◌⊎◌, inl, inr, List, ◌++◌, Option, Some, None, option_map, refl, sym, ap, ◌∙◌, arith}
use Rattle.std.specs.Option.{unwrap_or}
use Rattle.std.proofs.lemmas.Bool.{cases_lt}
use Rattle.fx_whole.specs.First.{first_to}
use Rattle.fx_whole.specs.Joined.{joined}
use Rattle.fx_whole.proofs.FirstLaws.{first_here, first_none, first_some, first_more, or_pass}
use Rattle.fx_whole.proofs.JoinedLaws.{joined-more, joined-split}
use Rattle.mj_types.specs.declared.range.OutOfRange.{OutOfRange}
use Rattle.mj_types.specs.declared.range.End.TheVariants as finish
use Rattle.mj_run.specs.Course.{Course, done_by, end_by, blocks_text}

-- where no row holds a fault, none is mapped
mapped_none : {F G : Type 0} (n : ℕ) (f : ℕ → Option F) (g : ℕ → F → G) → first_to n f ≡ None → first_to n (λ k. option_map (g k) (f k)) ≡ None
mapped_none n f g none = (first_none n (λ k. option_map (g k) (f k))).1 (λ k h. ap (option_map (g k)) ((first_none n f).0 none k h))

-- an option is none, or holds something
none_or_some : {F : Type 0} (o : Option F) → (o ≡ None) ⊎ ((e : F) × (o ≡ Some e))
none_or_some None = inl refl
none_or_some (Some e) = inr (e, refl)

-- the first fault is mapped
mapped_here : {F G : Type 0} (k n : ℕ) (f : ℕ → Option F) (g : ℕ → F → G) (e : F) → k < n → first_to k f ≡ None → f k ≡ Some e → first_to n (λ j. option_map (g j) (f j)) ≡ Some (g k e)
mapped_here k n f g e h none here = first_here k n (λ j. option_map (g j) (f j)) (g k e) h (mapped_none k f g none) (ap (option_map (g k)) here)

module _ (refusal : ℕ → Option OutOfRange) where
  -- a run in which no step is refused does them all
  pub done-whole : (n : ℕ) → first_to n refusal ≡ None → done_by refusal n ≡ n
  done-whole n none = ap (λ o. unwrap_or o n) (mapped_none n refusal (λ k _. k) none)

  pub end-whole : (n : ℕ) → first_to n refusal ≡ None → end_by refusal n ≡ finish.Done
  end-whole n none = ap (λ o. unwrap_or o finish.Done) (mapped_none n refusal (λ k out. finish.OutOfRange (k + 1) out.kind out.index) none)

  -- the same, where the count of steps was reached
  pub whole : (k n : ℕ) → k ≡ n → first_to k refusal ≡ None → (done_by refusal n ≡ k) × (end_by refusal n ≡ finish.Done)
  whole k n all none =
      let passed = ap (λ j. first_to j refusal) (sym all) ∙ none in
      (done-whole n passed ∙ sym all, end-whole n passed)

  -- a run stops before the step that is refused first, and names it
  pub done-early : (k n : ℕ) (out : OutOfRange) → k < n → first_to k refusal ≡ None → refusal k ≡ Some out → done_by refusal n ≡ k
  done-early k n out h none here = ap (λ o. unwrap_or o n) (mapped_here k n refusal (λ j _. j) out h none here)

  pub end-early : (k n : ℕ) (out : OutOfRange) → k < n → first_to k refusal ≡ None → refusal k ≡ Some out → end_by refusal n ≡ finish.OutOfRange (k + 1) out.kind out.index
  end-early k n out h none here = ap (λ o. unwrap_or o finish.Done) (mapped_here k n refusal (λ j out. finish.OutOfRange (j + 1) out.kind out.index) out h none here)

  -- the steps that weren't refused are done
  pub done-least : (k n : ℕ) → k ≤ n → first_to k refusal ≡ None → k ≤ done_by refusal n
  done-least k n h none =
      elim (none_or_some (first_to n refusal)) [
        | inl whole ↦ omega (arith, done-whole n whole)
        | inr early ↦
            let first = first_some n refusal early.0 early.1 in
            let done = done-early first.0 n early.0 first.1 ((first_none first.0 refusal).1 first.3) first.2 in
            elim (cases_lt first.0 k) [
              | inl within ↦ absurd (clash _ _ ((first_none k refusal).0 none first.0 within) first.2)
              | inr past ↦ omega arith
            ]
      ]
    where
      clash : (o : Option OutOfRange) (e : OutOfRange) → o ≡ None → o ≡ Some e → ⊥
      clash o e a b = cc

  -- and those that are done weren't refused
  pub going : (n k : ℕ) → k < done_by refusal n → refusal k ≡ None
  going n k h =
      elim (none_or_some (first_to n refusal)) [
        | inl whole ↦ (first_none n refusal).0 whole k (omega (arith, done-whole n whole))
        | inr early ↦
            let first = first_some n refusal early.0 early.1 in
            let done = done-early first.0 n early.0 first.1 ((first_none first.0 refusal).1 first.3) first.2 in
            first.3 k (omega (arith, done))
      ]

  -- one more step that isn't refused
  pub passed-one : (k : ℕ) → first_to k refusal ≡ None → refusal k ≡ None → first_to (k + 1) refusal ≡ None
  passed-one k before now = first_more k refusal ∙ or_pass (first_to k refusal) (refusal k) before ∙ now

-- ---- blocks
module _ (x : Course) where
  -- those of a longer run begin with those of a shorter one
  pub blocks-prefix : (k n : ℕ) → k ≤ n → (y : List ℕ) × (blocks_text x n ≡ blocks_text x k ++ y)
  blocks-prefix k n h =
      let parts : n ≡ k + (n - k) = omega arith in
      (joined (n - k) (λ i. x.block (k + i)), ap (blocks_text x) parts ∙ joined-split k (n - k) x.block)

  -- the text of one more step
  pub blocks-more : (k : ℕ) → blocks_text x (k + 1) ≡ blocks_text x k ++ x.block k
  blocks-more k = joined-more k x.block
