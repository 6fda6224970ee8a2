use Rattle.std.proofs.Common.{◌+◌, ◌^◌, ℤ, Some, None, ap, ◌∙◌, subst}
use Rattle.std.proofs.lemmas.Result.{err_from_is_err_and}
use Rattle.fx_whole.proofs.FirstLaws.{stop_first, pass_first}
use Rattle.mj_types.specs.declared.parts.Tendon.{Tendon}
use Rattle.mj_types.specs.declared.range.Quantity.TheVariants as kind
use Rattle.mj_types.specs.Parts.{no_tendon}
use Rattle.mj_types.specs.Ranges.{limited}
use Rattle.mj_passive.specs.Forces.{tendon_length, tendon_rate}
use Rattle.mj_passive.specs.Taken.{AreTerms}
use Rattle.mj_passive.proofs.TendonLaws.{are_terms, length_is, rate_is}
use Rattle.mj_passive.proofs.tendons.measure.Goals as goal

pub stretch-total-requires-clause-terms : goal.stretch-total-requires-clause-terms
stretch-total-requires-clause-terms c =
    subst (λ (x : Tendon). AreTerms c.args.model.now x.terms) (c.entry.ensures no_tendon) (are_terms c.args.model.now c.args.t c.requires.tendon)

pub returns-clause-length_ : goal.returns-clause-length_
returns-clause-length_ c =
    c.in_ok-length.ensures.value
    ∙ length_is c.args.model.now c.args.state.now c.args.t c.entry.result.now c.stretch-total.result.length.raw (c.entry.ensures no_tendon) c.stretch-total.ensures.length_

pub returns-clause-rate : goal.returns-clause-rate
returns-clause-rate c =
    c.in_ok-rate.ensures.value
    ∙ rate_is c.args.model.now c.args.state.now c.args.t c.entry.result.now c.stretch-total.result.rate.raw (c.entry.ensures no_tendon) c.stretch-total.ensures.rate

pub returns-in_err-length-clause-first : goal.returns-in_err-length-clause-first
returns-in_err-length-clause-first c =
    let m = c.args.model.now in
    let s = c.args.state.now in
    let r = err_from_is_err_and c.from_residual.result c.from_residual.ensures.1 in
    rw (r.1, r.2)
    (stop_first (limited kind.TendonLength (c.args.t + 1) (2 ^ 52) (tendon_length m s c.args.t)) (limited kind.TendonLength (c.args.t + 1) (2 ^ 52) (tendon_rate m s c.args.t)) _
    (c.in_err-length.ensures.first ∙ ap (λ (x : ℤ). limited kind.TendonLength (c.args.t + 1) (2 ^ 52) x)
    (length_is m s c.args.t c.entry.result.now c.stretch-total.result.length.raw (c.entry.ensures no_tendon) c.stretch-total.ensures.length_)))

pub returns-in_err-rate-clause-first : goal.returns-in_err-rate-clause-first
returns-in_err-rate-clause-first c =
    let m = c.args.model.now in
    let s = c.args.state.now in
    let r = err_from_is_err_and c.from_residual-in_err-rate.result c.from_residual-in_err-rate.ensures.1 in
    rw (r.1, r.2)
    (pass_first (limited kind.TendonLength (c.args.t + 1) (2 ^ 52) (tendon_length m s c.args.t)) (limited kind.TendonLength (c.args.t + 1) (2 ^ 52) (tendon_rate m s c.args.t)) (Some _)
    (c.in_ok-length.ensures.first ∙ ap (λ (x : ℤ). limited kind.TendonLength (c.args.t + 1) (2 ^ 52) x)
    (length_is m s c.args.t c.entry.result.now c.stretch-total.result.length.raw (c.entry.ensures no_tendon) c.stretch-total.ensures.length_))
    (c.in_err-rate.ensures.first ∙ ap (λ (x : ℤ). limited kind.TendonLength (c.args.t + 1) (2 ^ 52) x)
    (rate_is m s c.args.t c.entry.result.now c.stretch-total.result.rate.raw (c.entry.ensures no_tendon) c.stretch-total.ensures.rate)))

pub returns-clause-first : goal.returns-clause-first
returns-clause-first c =
    let m = c.args.model.now in
    let s = c.args.state.now in
    pass_first (limited kind.TendonLength (c.args.t + 1) (2 ^ 52) (tendon_length m s c.args.t)) (limited kind.TendonLength (c.args.t + 1) (2 ^ 52) (tendon_rate m s c.args.t)) None
    (c.in_ok-length.ensures.first ∙ ap (λ (x : ℤ). limited kind.TendonLength (c.args.t + 1) (2 ^ 52) x)
    (length_is m s c.args.t c.entry.result.now c.stretch-total.result.length.raw (c.entry.ensures no_tendon) c.stretch-total.ensures.length_))
    (c.in_ok-rate.ensures.first ∙ ap (λ (x : ℤ). limited kind.TendonLength (c.args.t + 1) (2 ^ 52) x)
    (rate_is m s c.args.t c.entry.result.now c.stretch-total.result.rate.raw (c.entry.ensures no_tendon) c.stretch-total.ensures.rate))
