use Rattle.std.proofs.Common.{◌+◌, ◌^◌, ℤ, pos, ap, ◌∙◌, Some, None}
use Rattle.std.proofs.lemmas.Result.{err_from_is_err_and}
use Rattle.fx_whole.proofs.FirstLaws.{stop_first, pass_first}
use Rattle.fx_num.specs.declared.number.Number.{Number}
use Rattle.mj_types.specs.declared.range.Quantity.TheVariants as kind
use Rattle.mj_types.specs.Parts.{no_tendon, plain}
use Rattle.mj_types.specs.Ranges.{limited}
use Rattle.mj_passive.specs.Forces.{stretch_fault, tension_from}
use Rattle.mj_passive.proofs.TendonLaws.{tension_is}
use Rattle.mj_passive.proofs.tendons.write_tendon.Goals as goal

pub returns-in_err-measured-clause-first : goal.returns-in_err-measured-clause-first
returns-in_err-measured-clause-first c =
    let m = c.args.model.now in
    let s = c.args.state.now in
    let r = err_from_is_err_and c.from_residual.result c.from_residual.ensures.1 in
    rw (r.1, r.2)
    (stop_first (stretch_fault m s c.args.t) (limited kind.TendonForce (c.args.t + 1) (2 ^ 52) (tension_from m s c.args.t c.args.motors.now.raw)) _ c.in_err-measured.ensures.first)

pub returns-in_err-force-clause-first : goal.returns-in_err-force-clause-first
returns-in_err-force-clause-first c =
    let m = c.args.model.now in
    let s = c.args.state.now in
    let r = err_from_is_err_and c.from_residual-in_err-force.result c.from_residual-in_err-force.ensures.1 in
    rw (r.1, r.2)
    (pass_first (stretch_fault m s c.args.t) (limited kind.TendonForce (c.args.t + 1) (2 ^ 52) (tension_from m s c.args.t c.args.motors.now.raw)) (Some _) c.in_ok-measured.ensures.first
    (c.in_err-force.ensures.first ∙ ap (λ (x : ℤ). limited kind.TendonForce (c.args.t + 1) (2 ^ 52) x)
    (tension_is m s c.args.t c.entry-tendon.result.now c.in_ok-measured.measured.length.mid c.in_ok-measured.measured.rate.mid c.args.motors.now.raw
    (c.entry-tendon.ensures no_tendon) c.in_ok-measured.ensures.length_ c.in_ok-measured.ensures.rate)))

pub returns-clause-force : goal.returns-clause-force
returns-clause-force c =
    c.in_ok-force.ensures.value
    ∙ tension_is c.args.model.now c.args.state.now c.args.t c.entry-tendon.result.now c.in_ok-measured.measured.length.mid c.in_ok-measured.measured.rate.mid c.args.motors.now.raw
    (c.entry-tendon.ensures no_tendon) c.in_ok-measured.ensures.length_ c.in_ok-measured.ensures.rate

pub returns-clause-first : goal.returns-clause-first
returns-clause-first c =
    let m = c.args.model.now in
    let s = c.args.state.now in
    pass_first (stretch_fault m s c.args.t) (limited kind.TendonForce (c.args.t + 1) (2 ^ 52) (tension_from m s c.args.t c.args.motors.now.raw)) None c.in_ok-measured.ensures.first
    (c.in_ok-force.ensures.first ∙ ap (λ (x : ℤ). limited kind.TendonForce (c.args.t + 1) (2 ^ 52) x)
    (tension_is m s c.args.t c.entry-tendon.result.now c.in_ok-measured.measured.length.mid c.in_ok-measured.measured.rate.mid c.args.motors.now.raw
    (c.entry-tendon.ensures no_tendon) c.in_ok-measured.ensures.length_ c.in_ok-measured.ensures.rate))

pub returns-clause-writes : goal.returns-clause-writes
returns-clause-writes c = record {
  length_ = ap (λ (x : Number (Unit {0}) 32). x.mid) (c.put.ensures.same (plain (pos 0))) ∙ c.in_ok-measured.ensures.length_;
  rate = ap (λ (x : Number (Unit {0}) 32). x.mid) (c.put-2.ensures.same (plain (pos 0))) ∙ c.in_ok-measured.ensures.rate;
  other_lengths = λ k n. ap (λ (x : Number (Unit {0}) 32). x.mid) (c.put.ensures.others (plain (pos 0)) k n);
  other_rates = λ k n. ap (λ (x : Number (Unit {0}) 32). x.mid) (c.put-2.ensures.others (plain (pos 0)) k n);
}
