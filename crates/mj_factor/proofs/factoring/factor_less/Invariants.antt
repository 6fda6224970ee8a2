use Rattle.std.proofs.Common.{◌≡◌, ◌-◌, None}
use Rattle.fx_whole.specs.First.{first_to}
use Rattle.mj_types.specs.FactorRooms.{FactorRoom}
use Rattle.mj_factor.specs.Factors.{row_fault}
use Rattle.mj_factor.specs.Stored.{shifted_mass, HasRows}
use Rattle.mj_factor.proofs.factoring.factor_less.Given as goal

abbrev pub invariant-loop-s : goal.invariant-loop-s
invariant-loop-s l = record {
  room : FactorRoom l.model l.out;
  rows : HasRows l.shift.mid l.model l.mass (l.model.nv - l.s) l.out;
  passed : first_to l.s (λ s. row_fault l.model.nv (shifted_mass l.shift.mid l.model l.mass) (l.model.nv - 1 - s)) ≡ None;
}
