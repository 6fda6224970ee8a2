use Rattle.mj_cert.specs.Certificate.{IsCertificate}
use Rattle.mj_cert.proofs.CertificateLaws.{bound-holds, box-holds}
use Rattle.mj_cert.proofs.certificate.certify.Goals as goal

pub returns-clause-bound_holds : goal.returns-clause-bound_holds
returns-clause-bound_holds c =
    let f = c.in_ok-fill.ensures in
    let is : IsCertificate c.args.dual.now c.args.forces.now c.fill.new.out = record { cost = f.cost; bound = f.bound; low = f.low; high = f.high } in
    bound-holds c.args.dual.now c.args.forces.now c.fill.new.out is

pub returns-clause-box_holds : goal.returns-clause-box_holds
returns-clause-box_holds c =
    let f = c.in_ok-fill.ensures in
    let is : IsCertificate c.args.dual.now c.args.forces.now c.fill.new.out = record { cost = f.cost; bound = f.bound; low = f.low; high = f.high } in
    box-holds c.args.dual.now c.args.forces.now c.fill.new.out is
