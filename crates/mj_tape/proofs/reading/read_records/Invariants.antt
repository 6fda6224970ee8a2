use Rattle.std.proofs.Common.{◌≡◌, ◌<◌, ℕ, List, Some, true}
use Rattle.csv.specs.Reading.{Ready, default_config, source_of, strip_bom}
use Rattle.csv.specs.declared.reader.Trim.TheVariants as trim
use Rattle.mj_types.specs.Control.{AreSmall}
use Rattle.mj_tape.proofs.Left.{Left}
use Rattle.mj_tape.proofs.reading.read_records.Given as goal

abbrev pub invariant-loop-row : goal.invariant-loop-row
invariant-loop-row l = (l.row-iterator.rdr.trim ≡ trim.None) × Ready l.row-iterator.rdr × (0 < l.row-iterator.left) × (l.row-iterator.rdr.config ≡ default_config)
    × (y : List ℕ) × (source_of (λ s. Some s.now) l.row-iterator.rdr ≡ Some y)
    × Left l.width l.room (strip_bom l.fn.bytes) l.count l.values.items l.row-iterator.rdr.state y
    × AreSmall l.values.items
    × (l.row-iterator.rdr.flexible ≡ true)
