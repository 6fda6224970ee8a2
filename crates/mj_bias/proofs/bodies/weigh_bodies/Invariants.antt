use Rattle.std.proofs.Common.{◌≡◌, ℕ, ◌+◌, ◌^◌, ◌<◌, length, None}
use Rattle.fx_whole.specs.First.{first_to}
use Rattle.fx_vec.specs.Views.{mids}
use Rattle.mj_types.specs.Placed.{inertia_at}
use Rattle.mj_bias.specs.Measures.{no_measure, totals_at, IsWithin}
use Rattle.mj_bias.specs.Steps.{body_wrench_there, body_fault_there}
use Rattle.mj_bias.proofs.bodies.weigh_bodies.Given as goal

abbrev pub invariant-loop-b : goal.invariant-loop-b
invariant-loop-b g l = record {
  len : length l.wrench ≡ length l.model.bodies + 1;
  world : totals_at g.K.Carry.wide_width l.wrench 0 ≡ no_measure;
  wrenches : (b : ℕ) → b < l.b → totals_at g.K.Carry.wide_width l.wrench (b + 1) ≡ body_wrench_there g.K.Carry.settled (mids l.model.gravity) (inertia_at l.frames.inertia b) (totals_at g.K.Carry.wide_width l.motion (b + 1)) (totals_at g.K.Carry.wide_width l.drift (b + 1));
  within : (b : ℕ) → b < l.b → IsWithin (totals_at g.K.Carry.wide_width l.wrench (b + 1)) (2 ^ 118) (2 ^ 106);
  passed : first_to l.b (λ b. body_fault_there g.K.Carry.settled (mids l.model.gravity) (inertia_at l.frames.inertia b) (totals_at g.K.Carry.wide_width l.motion (b + 1)) (totals_at g.K.Carry.wide_width l.drift (b + 1)) (b + 1)) ≡ None;
}
