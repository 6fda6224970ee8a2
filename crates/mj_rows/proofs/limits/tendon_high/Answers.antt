use Rattle.std.proofs.Common.{◌≤◌, ◌^◌, ℤ, neg_ℤ, unsigned_abs, ap, sym, subst, ◌∙◌, arith}
use Rattle.std.proofs.lemmas.Int.{ints}
use Rattle.mj_types.specs.Parts.{number_at, no_tendon}
use Rattle.mj_rows.proofs.RowLaws.{tendon_high_row, tendon_high_written, tendon_high_sound, are_terms}
use Rattle.mj_rows.proofs.limits.tendon_high.Goals as goal

pub write_terms-requires-clause-terms : goal.write_terms-requires-clause-terms
write_terms-requires-clause-terms c = are_terms c.args.model.now c.args.t c.entry.result.now c.requires.tendon (c.entry.ensures no_tendon)

pub returns-clause-row : goal.returns-clause-row
returns-clause-row c =
    tendon_high_row c.args.model.now (number_at c.args.applied.now.length) c.args.t c.tendon_extent-extent.result c.below_greatest.result.mid c.limit.result
    c.tendon_extent-extent.ensures.value c.below_greatest.ensures.value c.limit.ensures.row

pub returns-clause-written : goal.returns-clause-written
returns-clause-written c =
    tendon_high_written c.args.model.now (number_at c.args.applied.now.length) c.args.t c.entry.result.now c.negate.new.jacobian (c.entry.ensures no_tendon)
    (c.negate.auto.jacobian ∙ c.write_terms.auto.jacobian ∙ c.requires.room)
    (λ d. c.negate.ensures d ∙ ap (λ (n : ℤ). neg_ℤ n) (c.write_terms.ensures.value d))
    (λ d. let h = c.write_terms.ensures.size d in let e = c.negate.ensures d in subst (λ (n : ℤ). unsigned_abs n ≤ 2 ^ 48) (sym e) (omega (arith, ints, h)))

pub returns-clause-sound : goal.returns-clause-sound
returns-clause-sound c = tendon_high_sound c.args.model.now (number_at c.args.applied.now.length) c.args.t c.negate.new.jacobian (returns-clause-written c)
