use Rattle.std.proofs.Common.{sym, ◌∙◌}
use Rattle.fx_text.proofs.Faults.{decimal-none, decimal-bad, decimal-value}
use Rattle.fx_text.proofs.decimal.raw_decimal.Goals as goal

pub returns-then-is_empty : goal.returns-then-is_empty
returns-then-is_empty c =
    sym (decimal-none c.args.scale c.args.text.now (sym c.is_empty.ensures ∙ c.if-is_empty.true))

pub returns-in-Some : goal.returns-in-Some
returns-in-Some c =
    sym (decimal-bad c.args.scale c.args.text.now c.in-Some.at (sym c.is_empty.ensures ∙ c.if-is_empty.false) c.in-Some.ensures)

pub returns-in-None : goal.returns-in-None
returns-in-None c =
    c.value.ensures ∙ sym (decimal-value c.args.scale c.args.text.now (sym c.is_empty.ensures ∙ c.if-is_empty.false) c.in-None.ensures)
