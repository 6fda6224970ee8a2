use Rattle.std.proofs.Common.{◌-ℤ◌, pos, ap, ap₂, arith, ◌∙◌, slice_index_or}
use Rattle.fx_whole.proofs.EntryLaws.{below-within, below-is}
use Rattle.mj_passive.specs.Forces.{tau}
use Rattle.mj_types.specs.Control.{Control}
use Rattle.mj_types.specs.Masses.{no_near}
use Rattle.mj_types.specs.Parts.{number_at, plain}
use Rattle.mj_step.specs.Steps.{bias_of, free_load}
use Rattle.mj_step.proofs.work.Work.push.Goals as goal

pub returns-clause-load : goal.returns-clause-load
unfolding free_load
returns-clause-load c =
    let m = c.args.model.now in
    let s = c.args.state.now in
    let u = c.args.controls.now in
    record {
      value = below-is (λ (x : Control). x.mid) (plain (pos 0)) c.fill_free_load.new.load m.nv (λ i. tau m s u i -ℤ bias_of m s i) (omega (arith, c.fill_free_load.ensures.len, c.requires.made.free_load))
          (λ i h. c.fill_free_load.ensures.value i h
          ∙ ap₂ (λ x y. x -ℤ y) (ap (λ xs. number_at xs i) c.as_slice.ensures ∙ ap (λ f. f i) c.in_ok-applied.ensures.tau ∙ below-within (pos 0) m.nv (tau m s u) i h) (ap (λ xs. (slice_index_or xs i no_near).mid) c.as_slice-2.ensures ∙ c.requires.bias.values i h no_near));
      small = c.fill_free_load.ensures.small;
    }

pub returns-clause-applied : goal.returns-clause-applied
returns-clause-applied c = record { ranges = c.in_ok-applied.ensures.ranges; lengths = c.in_ok-applied.ensures.lengths }
