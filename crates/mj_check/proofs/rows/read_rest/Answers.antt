use Rattle.std.proofs.Common.{Some, None, IfSome, refl, ap, drop}
use Rattle.mj_check.specs.Rows.{IsTold, rest_line}
use Rattle.mj_reading.proofs.ReadingLaws.{read-any, read-case}
use Rattle.mj_check.proofs.RowLaws.{idle-only, told-only}
use Rattle.mj_check.proofs.rows.read_rest.Goals as goal

pub returns-then-begins : goal.returns-then-begins
returns-then-begins c = read-any (read-case (λ x. IfSome x (IsTold c.args.bounds)) (rest_line c.args.bounds) (λ u. None) (λ a. refl) (λ a f. tt) (idle-only c.args.bounds c.args.scan.now.rest (drop 5 c.args.scan.now.rest) (c.begins.ensures.yes c.if-begins.true)) (λ a e. refl) c.word.ensures)

pub returns-else-begins : goal.returns-else-begins
returns-else-begins c = read-case (λ x. IfSome x (IsTold c.args.bounds)) (rest_line c.args.bounds) (λ a. Some a) (λ a. refl) (λ a f. f)
    (told-only c.args.bounds c.args.scan.now.rest (λ r e. let t = c.begins.ensures.only r e in absurd cc))
    (λ a e. ap (λ y. Some y) e) c.read_told.ensures
