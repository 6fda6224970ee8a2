use Rattle.fx_text.proofs.Stops.{refused_bytes_stop}
use Rattle.fx_text.proofs.laws.refused_bytes_stop.Goals as goal

pub returns : goal.returns
returns c = refused_bytes_stop
