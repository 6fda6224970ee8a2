use Rattle.std.proofs.Common.{rules}
use Rattle.mj_cert.proofs.CertificateLaws.{bound-fits}
use Rattle.mj_cert.proofs.certificate.fill.Goals as goal

pub minus-requires : goal.minus-requires
minus-requires c =
    let fits = bound-fits c.args.dual.now c.args.forces.now c.in_ok-total.total.raw c.requires.solved c.in_ok-total.ensures.total c.in_ok-total.ensures.limit in
    rw c.cost_of-cost.ensures (search (rules, fits))
