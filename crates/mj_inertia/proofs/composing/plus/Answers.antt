use Rattle.std.proofs.Common.{ℤ, ◌+ℤ◌, ◌^◌, ◌≤◌, unsigned_abs, FitsSigned, arith}
use Rattle.std.proofs.lemmas.Int.{ints}
use mir.Syntax.{w128}
use Rattle.mj_inertia.proofs.composing.plus.Goals as goal

fits : (a b : ℤ) → unsigned_abs a ≤ 2 ^ 70 → unsigned_abs b ≤ 2 ^ 70 → FitsSigned w128 (a +ℤ b)
fits a b h k = omega (arith, ints)

pub add10-requires : goal.add10-requires
add10-requires c =
    let a = c.requires.a in
    let b = c.requires.b in
    record {
      xx = fits c.args.a.now.xx c.args.b.now.xx a.row_x.x b.row_x.x;
      xy = fits c.args.a.now.xy c.args.b.now.xy a.row_x.y b.row_x.y;
      xz = fits c.args.a.now.xz c.args.b.now.xz a.row_x.z b.row_x.z;
      yy = fits c.args.a.now.yy c.args.b.now.yy a.row_y.y b.row_y.y;
      yz = fits c.args.a.now.yz c.args.b.now.yz a.row_y.z b.row_y.z;
      zz = fits c.args.a.now.zz c.args.b.now.zz a.row_z.z b.row_z.z;
      mx = fits c.args.a.now.mx c.args.b.now.mx a.moment.x b.moment.x;
      my = fits c.args.a.now.my c.args.b.now.my a.moment.y b.moment.y;
      mz = fits c.args.a.now.mz c.args.b.now.mz a.moment.z b.moment.z;
      mass = fits c.args.a.now.mass c.args.b.now.mass a.mass b.mass;
    }
