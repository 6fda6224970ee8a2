use Rattle.std.proofs.Common.{ap, take, Some, None}
use Rattle.mj_types.specs.declared.range.Quantity.TheVariants as kind
use Rattle.mj_types.specs.Ranges.{quantity_name}
use Rattle.mj_reading.specs.Reading.{span, is_letter}
use Rattle.mj_reading.proofs.ReadingLaws.{name-found, name-missed}
use Rattle.mj_check.specs.Sources.{IsKind}
use Rattle.mj_check.proofs.TokenLaws.{kind-letters, kind-found}
use Rattle.mj_check.proofs.sources.read_kind.Goals as goal

pub returns-in-Some : goal.returns-in-Some
returns-in-Some c = name-found IsKind quantity_name c.args.scan.now c.pass_letters.new.self c.in-Some.kind kind-letters
    (kind-found (take (span is_letter c.args.scan.now.rest) c.args.scan.now.rest) c.letters.result.now (Some c.in-Some.kind) c.kind_named.result c.in-Some.is c.kind_named.ensures c.letters.ensures) c.pass_letters.ensures

pub returns-in-None : goal.returns-in-None
returns-in-None c = name-missed IsKind quantity_name c.args.scan.now c.stop.new.self kind.QuatNorm kind-letters
    (kind-found (take (span is_letter c.args.scan.now.rest) c.args.scan.now.rest) c.letters.result.now None c.kind_named.result c.in-None.is c.kind_named.ensures c.letters.ensures) (ap (λ a. a.going) c.stop.ensures)
