use Rattle.std.proofs.Common.{◌≡◌, length, None}
use Rattle.fx_whole.specs.First.{first_to}
use Rattle.mj_types.specs.Parts.{body_of}
use Rattle.mj_types.specs.Placed.{spatial_at}
use Rattle.mj_bias.specs.Measures.{exact, totals_at}
use Rattle.mj_bias.specs.Steps.{load_there, force_there, force_radius_there, force_fault_there, Holds, AreSmall}
use Rattle.mj_bias.proofs.dofs.make_forces.Given as goal

abbrev pub invariant-loop-i : goal.invariant-loop-i
invariant-loop-i g l = record {
  len : length l.c ≡ l.model.nv;
  values : Holds g.K.Carry.width l.i l.c (λ i. force_there (exact (spatial_at l.column i)) (load_there g.K.Carry.settled (totals_at g.K.Carry.wide_width l.wrench (body_of l.model.dofs i))))
      (λ i. force_radius_there g.K.Carry.settled (exact (spatial_at l.column i)) (load_there g.K.Carry.settled (totals_at g.K.Carry.wide_width l.wrench (body_of l.model.dofs i))));
  small : AreSmall g.K.Carry.width l.i l.c;
  passed : first_to l.i (λ i. force_fault_there g.K.Carry.settled (exact (spatial_at l.column i)) (totals_at g.K.Carry.wide_width l.wrench (body_of l.model.dofs i)) i) ≡ None;
}
