use Rattle.std.proofs.Common.{◌∙◌}
use Rattle.mj_types.specs.Parts.{number_at, no_tendon}
use Rattle.mj_rows.proofs.RowLaws.{tendon_low_row, tendon_low_written, tendon_low_sound, are_terms}
use Rattle.mj_rows.proofs.limits.tendon_low.Goals as goal

pub write_terms-requires-clause-terms : goal.write_terms-requires-clause-terms
write_terms-requires-clause-terms c = are_terms c.args.model.now c.args.t c.entry.result.now c.requires.tendon (c.entry.ensures no_tendon)

pub returns-clause-row : goal.returns-clause-row
returns-clause-row c =
    tendon_low_row c.args.model.now (number_at c.args.applied.now.length) c.args.t c.tendon_extent-extent.result c.above_least.result.mid c.limit.result
    c.tendon_extent-extent.ensures.value c.above_least.ensures.value c.limit.ensures.row

pub returns-clause-written : goal.returns-clause-written
returns-clause-written c =
    tendon_low_written c.args.model.now (number_at c.args.applied.now.length) c.args.t c.entry.result.now c.write_terms.new.jacobian (c.entry.ensures no_tendon)
    (c.write_terms.auto.jacobian ∙ c.requires.room)
    c.write_terms.ensures.value
    c.write_terms.ensures.size

pub returns-clause-sound : goal.returns-clause-sound
returns-clause-sound c = tendon_low_sound c.args.model.now (number_at c.args.applied.now.length) c.args.t c.write_terms.new.jacobian (returns-clause-written c)
