use Rattle.std.proofs.Common.{arith, ap, ◌∙◌}
use Rattle.std.proofs.lemmas.Result.{err_from_is_err_and}
use Rattle.fx_whole.proofs.FirstLaws.{stop_first, pass_first}
use Rattle.fx_near.specs.Widths.{settled_radius}
use Rattle.mj_types.specs.Parts.{number_at}
use Rattle.mj_types.specs.Placed.{Placing, inertia_at, spatial_at}
use Rattle.mj_inertia.specs.MassEntries.{mass, mass_radius, mass_fault}
use Rattle.mj_bias.specs.Biases.{bias}
use Rattle.mj_bias.specs.Radii.{bias_radius}
use Rattle.mj_bias.specs.Faults.{bias_fault}
use Rattle.mj_step.specs.Steps.{mass_of, mass_radius_of, bias_of, bias_radius_of, weigh_fault}
use Rattle.mj_step.proofs.work.Work.weigh.Goals as goal

pub returns-in_err-frames-clause-first : goal.returns-in_err-frames-clause-first
unfolding weigh_fault
returns-in_err-frames-clause-first c =
    let r = err_from_is_err_and c.from_residual.result c.from_residual.ensures.1 in
    rw (r.1, r.2) (stop_first _ _ _ c.in_err-frames.ensures.first)

pub returns-in_err-mass_matrix-clause-first : goal.returns-in_err-mass_matrix-clause-first
unfolding weigh_fault
returns-in_err-mass_matrix-clause-first c =
    let m = c.args.model.now in
    let f = c.frames.new.out in
    let r = err_from_is_err_and c.from_residual-in_err-mass_matrix.result c.from_residual-in_err-mass_matrix.ensures.1 in
    rw (r.1, r.2)
    (pass_first _ _ _ c.in_ok-frames.ensures.first
    (stop_first _ _ _
    (c.in_err-mass_matrix.ensures.first (inertia_at f.inertia) c.composites.ensures.sums
    ∙ ap (λ xs. mass_fault m (spatial_at xs) (inertia_at f.inertia)) c.as_slice.ensures
    ∙ ap (λ (p : Placing). mass_fault m p.column p.inertia) c.in_ok-frames.ensures.values)))

pub returns-in_err-bias-clause-first : goal.returns-in_err-bias-clause-first
unfolding weigh_fault
returns-in_err-bias-clause-first c =
    let m = c.args.model.now in
    let s = c.args.state.now in
    let f = c.frames.new.out in
    let r = err_from_is_err_and c.from_residual-in_err-bias.result c.from_residual-in_err-bias.ensures.1 in
    rw (r.1, r.2)
    (pass_first _ _ _ c.in_ok-frames.ensures.first
    (pass_first _ _ _
    (c.in_ok-mass_matrix.ensures.first (inertia_at f.inertia) c.composites.ensures.sums
    ∙ ap (λ xs. mass_fault m (spatial_at xs) (inertia_at f.inertia)) c.as_slice.ensures
    ∙ ap (λ (p : Placing). mass_fault m p.column p.inertia) c.in_ok-frames.ensures.values)
    (c.in_err-bias.ensures.first ∙ ap (λ p. bias_fault settled_radius m p (number_at s.v)) c.in_ok-frames.ensures.values)))

pub returns-clause-first : goal.returns-clause-first
unfolding weigh_fault
returns-clause-first c =
    let m = c.args.model.now in
    let s = c.args.state.now in
    let f = c.frames.new.out in
    pass_first _ _ _ c.in_ok-frames.ensures.first
    (pass_first _ _ _
    (c.in_ok-mass_matrix.ensures.first (inertia_at f.inertia) c.composites.ensures.sums
    ∙ ap (λ xs. mass_fault m (spatial_at xs) (inertia_at f.inertia)) c.as_slice.ensures
    ∙ ap (λ (p : Placing). mass_fault m p.column p.inertia) c.in_ok-frames.ensures.values)
    (c.in_ok-bias.ensures.first ∙ ap (λ p. bias_fault settled_radius m p (number_at s.v)) c.in_ok-frames.ensures.values))

pub returns-clause-mass : goal.returns-clause-mass
unfolding mass_of mass_radius_of
returns-clause-mass c =
    let m = c.args.model.now in
    let f = c.frames.new.out in
    let sums = c.composites.ensures.sums in
    record {
      lawful = c.in_ok-mass_matrix.ensures.ranges;
      values = λ i j h k.
          c.in_ok-mass_matrix.ensures.values (inertia_at f.inertia) sums i j h k
          ∙ ap (λ xs. mass m (spatial_at xs) (inertia_at f.inertia) i j) c.as_slice.ensures
          ∙ ap (λ (p : Placing). mass m p.column p.inertia i j) c.in_ok-frames.ensures.values;
      radii = λ i j h k.
          c.in_ok-mass_matrix.ensures.radii (inertia_at f.inertia) sums i j h k
          ∙ ap (λ xs. mass_radius m (spatial_at xs) (inertia_at f.inertia) i j) c.as_slice.ensures
          ∙ ap (λ (p : Placing). mass_radius m p.column p.inertia i j) c.in_ok-frames.ensures.values;
      small = λ i j h k. omega (arith, c.in_ok-mass_matrix.ensures.small_radii i j h k);
    }

pub returns-clause-bias : goal.returns-clause-bias
unfolding bias_of bias_radius_of
returns-clause-bias c =
    let m = c.args.model.now in
    let s = c.args.state.now in
    let same = c.in_ok-frames.ensures.values in
    record {
      values = λ i h d. c.in_ok-bias.ensures.values.value_ i h d ∙ ap (λ p. bias m p (number_at s.v) i) same;
      radii = λ i h d. c.in_ok-bias.ensures.values.radius_ i h d ∙ ap (λ p. bias_radius settled_radius m p (number_at s.v) i) same;
      small = c.in_ok-bias.ensures.ranges.value_;
      small_radii = λ i h d. omega (arith, c.in_ok-bias.ensures.ranges.radius_ i h d);
    }

pub returns-clause-frames : goal.returns-clause-frames
returns-clause-frames c = record {
  values = c.in_ok-frames.ensures.values;
  ranges = c.in_ok-frames.ensures.ranges;
  units = c.in_ok-frames.ensures.units;
}
