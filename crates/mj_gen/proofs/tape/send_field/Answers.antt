use Rattle.std.proofs.Common.{◌≡◌, sym, ap, ◌∙◌, refl}
use Rattle.mj_io.proofs.Sent.{sent-then}
use Rattle.fx_text.specs.Places.{decimal_text}
use Rattle.mj_quat.specs.Sine.{sine}
use Rattle.mj_gen.specs.Tape.{field_text, angle}
use Rattle.mj_trace.proofs.Joining.{sent-as}
use Rattle.mj_gen.proofs.tape.send_field.Goals as goal

pub returns : goal.returns
unfolding field_text
returns g c =
    let told : sine (angle c.args.seed c.args.row c.args.column) ≡ c.sin_cos.result.0.mid = ap sine (sym c.angle.ensures.value) ∙ sym c.sin_cos.ensures.sine in
    sent-then c.send_separator.ensures (sent-as (ap (decimal_text 6) told) c.send_decimal.ensures) refl
