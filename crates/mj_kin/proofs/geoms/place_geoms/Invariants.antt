use Rattle.std.proofs.Common.{◌≡◌, length, None}
use Rattle.fx_whole.specs.First.{first_to}
use Rattle.mj_kin.specs.Placings.{geom_fault}
use Rattle.mj_kin.specs.Working.{AreSet}
use Rattle.mj_kin.proofs.geoms.place_geoms.Given as goal

abbrev pub invariant-loop-g : goal.invariant-loop-g
invariant-loop-g l = record {
  places : length l.gpos ≡ length l.model.geoms;
  turns : length l.gquat ≡ length l.model.geoms;
  set : AreSet l.model l.state l.gpos l.gquat l.g;
  passed : first_to l.g (geom_fault l.model l.state) ≡ None;
}
