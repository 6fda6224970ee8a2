-- Which bias forces are made for a model.
use Rattle.std.specs.Prelude.{◌≡◌, suc, length}
use Rattle.mj_types.specs.declared.model.Model.{Model}
use Rattle.mj_types.specs.declared.bias.Bias.{Bias}

pub record BiasRoom {K R W : Type 0} (m : Model) (x : Bias K R W) : Type 0 where
  pub c : length x.c ≡ m.nv
  pub column : length x.column ≡ m.nv
  pub turn : length x.turn ≡ m.nv
  pub rate : length x.rate ≡ m.nv
  -- the world's, and each body's
  pub motion : length x.motion ≡ suc (length m.bodies)
  pub drift : length x.drift ≡ suc (length m.bodies)
  pub wrench : length x.wrench ≡ suc (length m.bodies)
