use Rattle.std.proofs.Common.{◌≡◌, ◌∙◌, ℕ, length, ap, refl, arith, pos}
use Rattle.mj_types.specs.Parts.{number_at}
use Rattle.mj_pgs.specs.Holding.{HaveSamePlaces}
use Rattle.mj_pgs.proofs.StartLaws.{ready-more, started, zero-forces}
use Rattle.mj_pgs.proofs.start.start.Goals as goal

pub loop-i-preserved : goal.loop-i-preserved
loop-i-preserved c =
    let so = c.loop-i.invariant in
    let by = c.put.ensures in
    let used = c.put-in-loop-i.ensures in
    let row = c.row.ensures in (
      so.0,
      so.1,
      by.len ∙ so.2,
      used.len ∙ so.3,
      ready-more c.args.dual.now c.loop-i.out _ c.loop-i.i c.used.result c.divisor.result c.row.result.now c.loop-i-test.true (record { len = by.len; same = by.same; others = by.others }) (record { len = used.len; same = used.same; others = used.others })
          c.divisor.ensures row.width row.numbers c.used.ensures.within c.used.ensures.zero so.4,
    )

pub returns-clause-held : goal.returns-clause-held
returns-clause-held c =
    let so = c.loop-i.invariant in
    let e : c.loop-i.i ≡ c.args.dual.now.m = omega arith in
    started c.args.dual.now c.args.out.now c.loop-i.out c.requires.solvable c.requires.places
    (record { f = ap length so.0 ∙ c.clear.ensures.len; u = ap length so.1 ∙ c.clear-2.ensures.len; divisor = so.2; used = so.3 })
    (λ i. ap (λ l. number_at l i) so.0 ∙ c.clear.ensures.zero i) (λ k. ap (λ l. number_at l k) so.1 ∙ c.clear-2.ensures.zero k)
    (λ j h. so.4 j (omega arith))

pub returns-clause-forces : goal.returns-clause-forces
returns-clause-forces c = zero-forces c.loop-i.out.f (λ i. ap (λ l. number_at l i) c.loop-i.invariant.0 ∙ c.clear.ensures.zero i)
