use Rattle.std.proofs.Common.{◌≡◌, take}
use Rattle.mj_form.specs.Forms.{raws}
use Rattle.mj_form.proofs.key.from_raws.Given as goal

abbrev pub invariant-loop-raw : goal.invariant-loop-raw
invariant-loop-raw g l = l.numbers.items ≡ raws g.row.F (take l.raw-index l.raws)
