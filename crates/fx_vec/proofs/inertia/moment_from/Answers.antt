use Rattle.std.proofs.Common.{◌*ℤ◌}
use Rattle.fx_vec.proofs.Fitting.{less_turned}
use Rattle.fx_vec.proofs.Same.{same3}
use Rattle.fx_vec.proofs.inertia.moment_from.Goals as goal

pub returns-clause-mid : goal.returns-clause-mid
returns-clause-mid g c =
    let s = c.args.out.now in
    let i = c.args.i.now in
    let v = c.args.v.now in
    same3 _ _
    (less_turned s.x.mid c.moment_minor_into.new.out.mid (i.my *ℤ v.z.mid) (i.mz *ℤ v.y.mid) c.moment_minor_into.ensures.mid)
    (less_turned s.y.mid c.moment_minor_into-2.new.out.mid (i.mz *ℤ v.x.mid) (i.mx *ℤ v.z.mid) c.moment_minor_into-2.ensures.mid)
    (less_turned s.z.mid c.moment_minor_into-3.new.out.mid (i.mx *ℤ v.y.mid) (i.my *ℤ v.x.mid) c.moment_minor_into-3.ensures.mid)
