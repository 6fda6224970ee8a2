-- More joints have more velocities.
use Rattle.std.proofs.Common.{ℕ, ◌≤◌, List}
use Rattle.fx_whole.proofs.SumLaws.{sum_ℕ_to-le}
use Rattle.mj_types.specs.declared.parts.Joint.{Joint}
use Rattle.mj_types.specs.Parts.{joint, velocity_count}
use Rattle.mj_types.specs.Lawful.{velocities_before}

pub velocities_grow : (joints : List Joint) (m n : ℕ) → m ≤ n → velocities_before joints m ≤ velocities_before joints n
velocities_grow joints m n h = sum_ℕ_to-le m n (λ i. velocity_count (joint joints i).kind) h
