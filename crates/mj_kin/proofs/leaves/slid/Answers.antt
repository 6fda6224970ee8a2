use Rattle.std.proofs.Common.{◌*◌, ◌^◌}
use Rattle.fx_vec.specs.Sizes.{Within}
use Rattle.fx_vec.specs.Views.{mids}
use Rattle.fx_vec.proofs.Bounds.{stretched-within}
use Rattle.std.proofs.Common.{subst, sym}
use Rattle.mj_kin.proofs.leaves.slid.Goals as goal

pub returns-clause-linear : goal.returns-clause-linear
returns-clause-linear c limit h =
    let grown : Within (mids c.stretch.result) (4 * 2 ^ 44) =
    subst (λ v. Within v (4 * 2 ^ 44)) (sym c.stretch.ensures.value)
    (stretched-within (mids c.args.along.now) c.args.by.now.mid (2 ^ 44) 4 c.requires.along c.requires.by) in
    c.plus.ensures.linear limit (4 * 2 ^ 44) h grown
