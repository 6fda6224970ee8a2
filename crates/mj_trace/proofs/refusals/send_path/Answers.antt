use Rattle.std.proofs.Common.{◌≡◌, ℕ, ◌==◌, false, List, [], ◌∷◌, ◌++◌, codes, length, refl}
use Rattle.mj_io.proofs.Sent.{sent-then}
use Rattle.mj_trace.specs.Refusal.{path_text}
use Rattle.mj_trace.proofs.refusals.send_path.Goals as goal

path-some : (path : List ℕ) → (length path == 0) ≡ false → path_text path ≡ codes " " ++ path
path-some [] e = cc
path-some (byte ∷ path) e = refl

pub returns-then-not-is_empty : goal.returns-then-not-is_empty
returns-then-not-is_empty g c = sent-then c.send.ensures.sent c.send-then-not-is_empty.ensures.sent (path-some c.args.path.now cc)
