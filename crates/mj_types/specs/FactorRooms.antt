-- Which factors are made for a model: their lists name the dofs above each dof, and have an entry for each.
use Rattle.std.specs.Prelude.{◌≡◌, length}
use Rattle.mj_tree.specs.Listing.{IsListing}
use Rattle.mj_types.specs.declared.model.Model.{Model}
use Rattle.mj_types.specs.declared.carriers.Factor.{Factor}
use Rattle.mj_types.specs.Forests.{above_in}

pub record FactorRoom (m : Model) (f : Factor) : Type 0 where
  pub listing : IsListing (above_in m) m.nv f.at f.above
  pub w : length f.w ≡ length f.above
  pub l : length f.l ≡ length f.above
  pub d : length f.d ≡ m.nv
