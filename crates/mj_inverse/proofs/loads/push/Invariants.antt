use Rattle.std.proofs.Common.{◌≡◌, ◌*◌, ◌^◌, ◌≤◌, unsigned_abs}
use Rattle.mj_types.specs.Parts.{number_at}
use Rattle.mj_inverse.specs.Carriers.{jacobian_of}
use Rattle.mj_inverse.specs.Separated.{push}
use Rattle.mj_inverse.proofs.loads.push.Given as goal

abbrev pub invariant-loop-k : goal.invariant-loop-k
invariant-loop-k l = record {
  total : l.total.raw ≡ push l.k (jacobian_of l.nv l.rows l.dual) (number_at l.x) l.i;
  size : unsigned_abs l.total.raw ≤ l.k * 2 ^ 98;
}
