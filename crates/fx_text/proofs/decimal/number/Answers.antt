use Rattle.std.proofs.Common.{◌≡◌, ◌∙◌, ap, arith}
use Rattle.std.proofs.lemmas.List.{take_all}
use Rattle.fx_text.specs.Decimal.{number}
use Rattle.fx_text.proofs.Sizes.{number_room, number-lt}
use Rattle.fx_text.proofs.decimal.number.Goals as goal

pub with_byte-n-requires : goal.with_byte-n-requires
with_byte-n-requires c =
    let h = number_room c.args.bytes.now c.loop-byte.byte-index c.requires in
    omega arith

pub returns-clause-small : goal.returns-clause-small
returns-clause-small c =
    let e : c.loop-byte.n ≡ number c.args.bytes.now = c.loop-byte.invariant ∙ ap number (take_all _ _ c.loop-byte-test.false) in
    rw e (number-lt c.args.bytes.now)
