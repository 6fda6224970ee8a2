use Rattle.std.proofs.Common.{◌≡◌, ℕ, List, replicate, decimal, take, refl, ◌∙◌, arith}
use Rattle.std.proofs.lemmas.List.{take-replicate}
use Rattle.mj_io.proofs.Sent.{sent-then}
use Rattle.mj_gen.proofs.chain.send_six_digits.Goals as goal

pub returns : goal.returns
returns g c =
    let digits : c.as_bytes-digits.result.now ≡ decimal c.args.n = c.as_bytes-digits.ensures.value ∙ c.format.ensures.text in
    let six : List ℕ = replicate 6 48 in
    let zeros : take c.saturating_sub.result six ≡ replicate c.saturating_sub.result 48 =
    take-replicate c.saturating_sub.result 6 48 (omega (arith, c.saturating_sub.ensures)) in
    sent-then c.send.ensures.sent c.send-2.ensures.sent (rw (zeros, c.saturating_sub.ensures, digits) refl)
