use Rattle.std.proofs.Common.{◌-◌, ◌^◌, ap₂, sym, ◌∙◌, subst, lit<}
use Rattle.mj_bias.specs.Measures.{Measured, totals, no_measure, sum_of, IsWithin}
use Rattle.mj_bias.proofs.SeenLaws.{seen-read, seen-same, seen-other, same_measured}
use Rattle.mj_bias.proofs.MeasureLaws.{sizes_below}
use Rattle.mj_bias.proofs.SizeLaws.{fits6, narrow6}
use Rattle.mj_bias.proofs.up.add_to.Goals as goal

pub add6-requires : goal.add6-requires
add6-requires g c =
    let wide = g.K.Carry.wide_width in
    let xs = c.args.wrench.now in
    let old = subst (λ (s : Measured). IsWithin s (2 ^ 126) (2 ^ 126)) (seen-read (totals wide) no_measure xs c.args.to c.at-sum.result c.requires.to c.at-sum.ensures) c.requires.sum in
    let more = subst (λ (s : Measured). IsWithin s (2 ^ 126 - 1) (2 ^ 126)) (seen-read (totals wide) no_measure xs c.args.from c.entry.result.now c.requires.from c.entry.ensures) c.requires.added in
    (c.requires.sums, (fits6 _ _ (2 ^ 126) (2 ^ 126 - 1) old.value_ (sizes_below _ _ more.value_) (lit< tt), narrow6 _ _ (2 ^ 126) (2 ^ 126) old.width_ more.width_ (lit< tt)))

pub returns-clause-here : goal.returns-clause-here
returns-clause-here g c =
    let wide = g.K.Carry.wide_width in
    let xs = c.args.wrench.now in
    seen-same (totals wide) no_measure xs c.put.new.self c.args.to c.add6.new.out c.put.ensures.len c.requires.to c.put.ensures.same
    ∙ same_measured _ _ c.add6.ensures.mid c.add6.ensures.width
    ∙ sym (ap₂ (λ (s t : Measured). sum_of s t) (seen-read (totals wide) no_measure xs c.args.to c.at-sum.result c.requires.to c.at-sum.ensures) (seen-read (totals wide) no_measure xs c.args.from c.entry.result.now c.requires.from c.entry.ensures))

pub returns-clause-others : goal.returns-clause-others
returns-clause-others g c = λ i h.
    seen-other (totals g.K.Carry.wide_width) no_measure c.args.wrench.now c.put.new.self c.args.to i c.at-sum.result c.put.ensures.len c.put.ensures.others h
