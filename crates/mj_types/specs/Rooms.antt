-- Which carriers are made for a model: their lists have the lengths of its bodies, dofs, geoms, joints, tendons or rows.
use Rattle.std.specs.Prelude.{◌≡◌, ◌*◌, length}
use Rattle.mj_types.specs.declared.model.Model.{Model}
use Rattle.mj_types.specs.declared.carriers.Frames.{Frames}
use Rattle.mj_types.specs.declared.carriers.Composite.{Composite}
use Rattle.mj_types.specs.declared.carriers.Mass.{Mass}
use Rattle.mj_types.specs.declared.carriers.Applied.{Applied}
use Rattle.mj_types.specs.declared.carriers.Contacts.{Contacts}

pub record FramesRoom (m : Model) (f : Frames) : Type 0 where
  pub pos_ : length f.pos ≡ length m.bodies
  pub quat : length f.quat ≡ length m.bodies
  pub com_ : length f.com ≡ length m.bodies
  pub inertia : length f.inertia ≡ length m.bodies
  pub column : length f.column ≡ m.nv
  pub gpos : length f.gpos ≡ length m.geoms
  pub gquat : length f.gquat ≡ length m.geoms
  pub anchor : length f.anchor ≡ length m.joints
  pub axis : length f.axis ≡ length m.joints

pub record CompositeRoom (m : Model) (c : Composite) : Type 0 where
  pub list : length c.list ≡ length m.bodies

pub record MassRoom (m : Model) (x : Mass) : Type 0 where
  pub m_ : length x.m ≡ m.nv * m.nv

pub record AppliedRoom (m : Model) (a : Applied) : Type 0 where
  pub tau : length a.tau ≡ m.nv
  pub length_ : length a.length ≡ length m.tendons
  pub rate : length a.rate ≡ length m.tendons

pub record ContactsRoom (m : Model) (c : Contacts) : Type 0 where
  pub most : c.list.most ≡ m.njmax
