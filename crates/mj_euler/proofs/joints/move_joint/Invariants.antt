use Rattle.std.proofs.Common.{◌≡◌, ◌⊎◌, ◌<◌, ◌≤◌, ◌+◌, ℕ, None, length, unsigned_abs}
use Rattle.fx_whole.specs.First.{first_to}
use Rattle.mj_types.specs.Lawful.{position_limit}
use Rattle.mj_types.specs.Parts.{joint, number_at}
use Rattle.mj_euler.specs.Advance.{after, place_count, place_fault}
use Rattle.mj_euler.proofs.joints.move_joint.Given as goal

abbrev pub invariant-loop-i : goal.invariant-loop-i
invariant-loop-i l = record {
  len : length l.q ≡ length l.fn.q;
  value : (i : ℕ) → i < l.i → number_at l.q (l.x.qadr + i) ≡ after l.model.h.mid (number_at l.state.q (l.x.qadr + i)) (number_at l.v (l.x.dadr + i));
  small : (i : ℕ) → i < l.i → unsigned_abs (number_at l.q (l.x.qadr + i)) ≤ position_limit l.x.kind i;
  others : (k : ℕ) → (k < l.x.qadr) ⊎ (l.x.qadr + place_count l.x.kind ≤ k) → number_at l.q k ≡ number_at l.fn.q k;
  passed : first_to l.i (place_fault l.model l.state (number_at l.v) l.x) ≡ None;
}
