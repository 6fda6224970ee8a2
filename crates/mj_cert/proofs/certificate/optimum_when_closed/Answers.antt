use Rattle.mj_cert.proofs.CertificateLaws.{least, only}
use Rattle.mj_cert.proofs.certificate.optimum_when_closed.Goals as goal

pub returns-clause-least : goal.returns-clause-least
returns-clause-least c = least c.args.dual.now c.args.forces.now c.args.cert.now c.requires.certified c.requires.closed

pub returns-clause-only : goal.returns-clause-only
returns-clause-only c = only c.args.dual.now c.args.forces.now c.args.cert.now c.requires.solved c.requires.certified c.requires.closed
