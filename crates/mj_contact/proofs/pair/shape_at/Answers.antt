use Rattle.std.proofs.Common.{◌^◌, subst, arith}
use Rattle.fx_vec.specs.declared.vector.Vector3.{Vector3}
use Rattle.fx_vec.specs.declared.vector.Q4.{Q4}
use Rattle.fx_vec.specs.Quaternions.{quaternion}
use Rattle.fx_vec.specs.Sizes.{Within}
use Rattle.fx_vec.specs.Views.{mids}
use Rattle.mj_quat.specs.Rotation.{IsUnit}
use Rattle.mj_types.specs.Parts.{no_vector, no_quaternion}
use Rattle.mj_contact.proofs.pair.shape_at.Goals as goal

pub returns-clause-shape : goal.returns-clause-shape
returns-clause-shape c =
    let g = c.args.g in
    let near = c.requires.frames.geom_position g c.requires.geom in
    let P = λ (v : Vector3 (Unit {0}) 32). Within (mids v) (2 ^ 46) in
    let Q = λ (q : Q4). IsUnit (quaternion q) in
    record {
      center = subst P (c.at.ensures no_vector) (record { x = omega (arith, near.x); y = omega (arith, near.y); z = omega (arith, near.z) });
      turn = subst Q (c.at-2.ensures no_quaternion) (c.requires.units.each g c.requires.geom);
      radius = c.geom_at-geom.ensures.lawful.radius;
      half = c.geom_at-geom.ensures.lawful.half;
    }
