use Rattle.std.proofs.Common.{◌≡◌, sym, ◌∙◌, ap, ◌≤◌, arith, rules}
use Rattle.std.proofs.lemmas.Int.{to_z-of_z}
use Rattle.fx_text.specs.Decimal.{mantissa, digit_count, in_range, apply_sign, is_negative}
use Rattle.fx_text.proofs.Faults.{in_range-cut, few_digits}
use Rattle.fx_text.proofs.decimal.value.Goals as goal

pub returns : goal.returns
returns c =
    let e : c.in_range.result ≡ in_range c.apply_sign.result = search (rules, to_z-of_z, c.in_range.ensures) in
    let s : c.apply_sign.result ≡ apply_sign (is_negative c.args.text.now) c.size_at.result = cc in
    let d : digit_count (mantissa c.args.text.now) ≤ 26 =
    let k : c.digit_count.result ≡ digit_count (mantissa c.args.text.now) = cc (c.digit_count.ensures, c.mark_place.ensures.value) in
    omega arith
    in
    e ∙ ap in_range s ∙ in_range-cut (is_negative c.args.text.now) _ _ c.size_at.ensures ∙ sym (few_digits (digit_count (mantissa c.args.text.now)) _ d)
