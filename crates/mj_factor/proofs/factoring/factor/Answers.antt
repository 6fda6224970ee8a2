use Rattle.std.proofs.Common.{ℕ, ◌≡◌, ◌<◌, ℤ, OnOk, ap, ◌∙◌, subst}
use Rattle.mj_types.specs.Forests.{above_in}
use Rattle.mj_types.specs.Parts.{number_at}
use Rattle.mj_factor.specs.Factors.{work, lower, pivot, factor_fault}
use Rattle.mj_factor.specs.Stored.{entry}
use Rattle.mj_factor.proofs.MakingLaws.{shifted_by_none}
use Rattle.mj_factor.proofs.factoring.factor.Goals as goal

pub returns-clause-first : goal.returns-clause-first
returns-clause-first c = c.factor_less.ensures.first ∙ ap (factor_fault c.args.model.now.nv) (shifted_by_none c.args.model.now c.args.mass.now)

pub returns-clause-pivots : goal.returns-clause-pivots
returns-clause-pivots c =
    let n = c.args.model.now.nv in
    let out = c.factor_less.new.out in
    subst (λ (y : ℕ → ℕ → ℤ). OnOk c.factor_less.result ((k : ℕ) → k < n → number_at out.d k ≡ pivot n y k)) (shifted_by_none c.args.model.now c.args.mass.now) c.factor_less.ensures.pivots

pub returns-clause-works : goal.returns-clause-works
returns-clause-works c =
    let n = c.args.model.now.nv in
    let out = c.factor_less.new.out in
    subst (λ (y : ℕ → ℕ → ℤ). OnOk c.factor_less.result ((k i : ℕ) → k < n → i < k → entry (above_in c.args.model.now) out.w k i ≡ work n y k i)) (shifted_by_none c.args.model.now c.args.mass.now) c.factor_less.ensures.works

pub returns-clause-lowers : goal.returns-clause-lowers
returns-clause-lowers c =
    let n = c.args.model.now.nv in
    let out = c.factor_less.new.out in
    subst (λ (y : ℕ → ℕ → ℤ). OnOk c.factor_less.result ((k i : ℕ) → k < n → i < k → entry (above_in c.args.model.now) out.l k i ≡ lower n y k i)) (shifted_by_none c.args.model.now c.args.mass.now) c.factor_less.ensures.lowers
