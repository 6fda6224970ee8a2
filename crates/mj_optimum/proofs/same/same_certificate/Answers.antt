use Rattle.mj_optimum.proofs.SameCertificates.{bound-same, high-same, low-same}
use Rattle.mj_optimum.proofs.SameSweeps.{cost-same}
use Rattle.mj_optimum.proofs.same.same_certificate.Goals as goal

pub returns : goal.returns
returns c = record { cost = cost-same; bound = bound-same; low = low-same; high = high-same }
