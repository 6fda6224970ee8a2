use Rattle.std.proofs.Common.{◌≡◌, ◌&&◌, pos, int_lt, nat_lt, unsigned_abs, refl, ◌∙◌, ap}
use Rattle.mj_io.proofs.Sent.{sent-then}
use Rattle.fx_text.specs.Places.{unit_count}
use Rattle.fx_text.proofs.print.send_decimal.Goals as goal

pub returns : goal.returns
returns g c =
    let raw = c.args.x.now.mid in
    let count : c.unit_count-count.result ≡ unit_count c.args.places (unsigned_abs raw) = c.unit_count-count.ensures in
    let minus : c.has_minus.result ≡ (int_lt raw (pos 0) && nat_lt 0 (unit_count c.args.places (unsigned_abs raw))) =
    c.has_minus.ensures ∙ ap (λ n. int_lt raw (pos 0) && nat_lt 0 n) count in
    sent-then c.send_minus.ensures c.send_places.ensures (rw (minus, count) refl)
