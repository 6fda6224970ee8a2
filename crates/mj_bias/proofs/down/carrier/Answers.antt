use Rattle.std.proofs.Common.{rules, ◌≡◌, ℕ, ◌+◌, ◌^◌, ◌<◌, ◌≤◌, IfOk, length, refl, sym, ap, subst, ◌∙◌, arith}
use Rattle.fx_num.specs.Radii.{radius_limit}
use Rattle.mj_types.specs.declared.range.Quantity.TheVariants as kind
use Rattle.mj_types.specs.Parts.{dof}
use Rattle.mj_bias.specs.Measures.{Measured, numbers, totals, no_measure, numbers_at, settled_by, measure_fault, IsWithin}
use Rattle.mj_bias.proofs.SeenLaws.{seen-read}
use Rattle.mj_bias.proofs.StepLaws.{within_passes, base_there, carrier_shared, carrier_own}
use Rattle.mj_bias.proofs.down.carrier.Goals as goal

pub settle_vector-requires : goal.settle_vector-requires
settle_vector-requires g c = (c.requires.sums, (c.requires.motions, (refl, search rules)))

pub returns-then-base-j-clause-value : goal.returns-then-base-j-clause-value
returns-then-base-j-clause-value g c =
    let m = c.args.model.now in
    let x = c.args.out.now in
    let e = base_there m c.args.j c.entry.result.now c.entry.ensures in
    let below : (dof m.dofs c.args.j).base < c.args.j = omega arith in
    let there : c.entry.result.now.base < length x.turn = omega (arith, c.requires.room.turn) in
    sym (seen-read (numbers g.K.Carry.width) no_measure x.turn c.entry.result.now.base c.at.result there c.at.ensures)
    ∙ ap (λ (i : ℕ). numbers_at g.K.Carry.width x.turn i) (sym e)
    ∙ sym (carrier_shared g.K.Carry.settled g.K.Carry.width g.K.Carry.wide_width m x c.args.b c.args.j below)

pub returns-then-base-j-clause-within : goal.returns-then-base-j-clause-within
returns-then-base-j-clause-within g c =
    let x = c.args.out.now in
    let there : c.entry.result.now.base < length x.turn = omega (arith, c.requires.room.turn) in
    subst (λ (s : Measured). IsWithin s (2 ^ 48) radius_limit)
    (seen-read (numbers g.K.Carry.width) no_measure x.turn c.entry.result.now.base c.at.result there c.at.ensures)
    (c.requires.small c.entry.result.now.base (omega arith))

pub returns-then-base-j-clause-first : goal.returns-then-base-j-clause-first
returns-then-base-j-clause-first g c =
    let m = c.args.model.now in
    let x = c.args.out.now in
    let e = base_there m c.args.j c.entry.result.now c.entry.ensures in
    let below : (dof m.dofs c.args.j).base < c.args.j = omega arith in
    sym (ap (measure_fault kind.DofMotion (c.args.j + 1) (2 ^ 48)) (carrier_shared g.K.Carry.settled g.K.Carry.width g.K.Carry.wide_width m x c.args.b c.args.j below)
    ∙ within_passes kind.DofMotion (c.args.j + 1) (2 ^ 48) _ (c.requires.small (dof m.dofs c.args.j).base below))

pub returns-else-base-j-clause-value : goal.returns-else-base-j-clause-value
returns-else-base-j-clause-value g c =
    let m = c.args.model.now in
    let x = c.args.out.now in
    let e = base_there m c.args.j c.entry.result.now c.entry.ensures in
    let own : c.args.j ≤ (dof m.dofs c.args.j).base = omega arith in
    let there : c.args.b + 1 < length x.motion = omega (arith, c.requires.room.motion) in
    let s = sym (ap (settled_by g.K.Carry.settled 32) (seen-read (totals g.K.Carry.wide_width) no_measure x.motion (c.args.b + 1) c.entry-else-base-j.result.now there c.entry-else-base-j.ensures))
    ∙ sym (carrier_own g.K.Carry.settled g.K.Carry.width g.K.Carry.wide_width m x c.args.b c.args.j own) in
    subst (λ (t : Measured). IfOk c.settle_vector.result (λ r. numbers g.K.Carry.width r ≡ t)) s c.settle_vector.ensures.value

pub returns-else-base-j-clause-first : goal.returns-else-base-j-clause-first
returns-else-base-j-clause-first g c =
    let m = c.args.model.now in
    let x = c.args.out.now in
    let e = base_there m c.args.j c.entry.result.now c.entry.ensures in
    let own : c.args.j ≤ (dof m.dofs c.args.j).base = omega arith in
    let there : c.args.b + 1 < length x.motion = omega (arith, c.requires.room.motion) in
    let s = sym (ap (settled_by g.K.Carry.settled 32) (seen-read (totals g.K.Carry.wide_width) no_measure x.motion (c.args.b + 1) c.entry-else-base-j.result.now there c.entry-else-base-j.ensures))
    ∙ sym (carrier_own g.K.Carry.settled g.K.Carry.width g.K.Carry.wide_width m x c.args.b c.args.j own) in
    c.settle_vector.ensures.first ∙ ap (measure_fault kind.DofMotion (c.args.j + 1) (2 ^ 48)) s
