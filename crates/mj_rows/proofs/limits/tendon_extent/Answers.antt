use Rattle.std.proofs.Common.{◌^◌, ◌≤◌, unsigned_abs, pos, subst}
use Rattle.fx_num.specs.declared.number.Number.{Number}
use Rattle.mj_types.specs.declared.parts.Tendon.{Tendon}
use Rattle.mj_types.specs.Lawful.{HasRange, IsUpTo, IsSoft}
use Rattle.mj_types.specs.Parts.{no_tendon, plain}
use Rattle.mj_rows.proofs.limits.tendon_extent.Goals as goal

pub returns-clause-extent : goal.returns-clause-extent
returns-clause-extent c =
    let law = c.args.model.now.of_tendons.each c.args.t c.requires.tendon in
    let R = λ (x : Tendon). HasRange (2 ^ 52) x.range in
    let M = λ (x : Tendon). IsUpTo x.margin (2 ^ 42) in
    let S = λ (x : Tendon). IsSoft x.soft in
    let V = λ (x : Number (Unit {0}) 32). unsigned_abs x.mid ≤ 2 ^ 52 in
    record {
      range = subst R (c.entry-tendon.ensures no_tendon) law.range;
      margin = subst M (c.entry-tendon.ensures no_tendon) law.margin;
      soft = subst S (c.entry-tendon.ensures no_tendon) law.soft;
      value = subst V (c.at.ensures (plain (pos 0))) (c.requires.applied.length_ c.args.t c.requires.tendon);
    }
