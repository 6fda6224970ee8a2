-- The room of a block.
use Rattle.std.specs.Prelude.{◌≤◌, length}
use Rattle.mj_check.specs.declared.room.Room.{Room}
use Rattle.mj_check.specs.Stated as stated

-- room for 1,024 rows
pub record HasPlaces (x : Room) : Type 0 where
  pub rows : 1024 ≤ x.rows.most
  pub making : stated.HasPlaces x.making
  pub f : 1024 ≤ length x.forces.f
  pub u : 64 ≤ length x.forces.u
  pub lo : 1024 ≤ length x.cert.lo
  pub hi : 1024 ≤ length x.cert.hi
  pub slope : 1024 ≤ length x.cert.slope
  pub depth : 1024 ≤ length x.cert.depth
