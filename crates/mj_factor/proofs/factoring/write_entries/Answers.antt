use Rattle.std.proofs.Common.{ℕ, ◌+◌, List, ap, sym, ◌∙◌, arith, inl, inr}
use Rattle.std.proofs.lemmas.Bool.{cases_eq}
use Rattle.std.proofs.lemmas.Result.{err_from_is_err_and}
use Rattle.fx_whole.proofs.FirstLaws.{stop_here, pass_more}
use Rattle.mj_tree.specs.Listing.{height, start}
use Rattle.mj_tree.proofs.ListingLaws.{start_more}
use Rattle.mj_types.specs.Forests.{above_in}
use Rattle.mj_types.specs.Parts.{number_at}
use Rattle.mj_factor.specs.Factors.{entry_fault}
use Rattle.mj_factor.specs.Stored.{work_there, lower_there}
use Rattle.mj_factor.proofs.factoring.write_entries.Goals as goal

pub returns-in_err-write_entry-clause-later_works : goal.returns-in_err-write_entry-clause-later_works
returns-in_err-write_entry-clause-later_works c = λ p h.
    c.write_entry.ensures.other_works p (λ e. omega (arith, e, h, start_more (above_in c.args.model.now) c.args.k))
    ∙ c.loop-c.invariant.later_works p h

pub returns-in_err-write_entry-clause-later_lowers : goal.returns-in_err-write_entry-clause-later_lowers
returns-in_err-write_entry-clause-later_lowers c = λ p h.
    c.write_entry.ensures.other_lowers p (λ e. omega (arith, e, h, start_more (above_in c.args.model.now) c.args.k))
    ∙ c.loop-c.invariant.later_lowers p h

pub returns-in_err-write_entry-clause-first : goal.returns-in_err-write_entry-clause-first
returns-in_err-write_entry-clause-first c =
    let m = c.args.model.now in
    let x = c.args.mass.now in
    let s = c.args.sums.now in
    let inv = c.loop-c.invariant in
    let fault = λ (names : List ℕ) (e : ℕ). entry_fault c.args.k (work_there m x names s c.args.k e) (lower_there m x names s c.args.by.now.d c.args.k e) in
    let r = err_from_is_err_and c.from_residual.result c.from_residual.ensures.1 in
    rw (r.1, r.2)
    (stop_here c.loop-c.c (height (above_in m) c.args.k) (fault c.args.out.now.above) _ (omega arith) inv.passed
    (c.in_err-write_entry.ensures.first ∙ ap (λ names. fault names c.loop-c.c) inv.names))

pub loop-c-preserved : goal.loop-c-preserved
loop-c-preserved c =
    let m = c.args.model.now in
    let x = c.args.mass.now in
    let s = c.args.sums.now in
    let k = c.args.k in
    let d = c.args.by.now.d in
    let inv = c.loop-c.invariant in
    let did = c.in_ok-write_entry.ensures in
    let here : ℕ → ℕ = λ (e : ℕ). start (above_in m) k + e in
    let fault = λ (names : List ℕ) (e : ℕ). entry_fault k (work_there m x names s k e) (lower_there m x names s d k e) in
    record {
      room = c.write_entry.ensures.room;
      names = c.write_entry.ensures.names ∙ inv.names;
      pivots = c.write_entry.ensures.pivots ∙ inv.pivots;
      works = λ e h. elim (cases_eq e c.loop-c.c) [
        | inl q ↦ ap (λ (y : ℕ). number_at c.write_entry.new.out.w (here y)) q ∙ did.work ∙ ap (λ names. work_there m x names s k c.loop-c.c) inv.names ∙ ap (work_there m x c.args.out.now.above s k) (sym q)
        | inr q ↦ c.write_entry.ensures.other_works (here e) (λ r. q (omega (arith, r))) ∙ inv.works e (omega arith)
      ];
      lowers = λ e h. elim (cases_eq e c.loop-c.c) [
        | inl q ↦ ap (λ (y : ℕ). number_at c.write_entry.new.out.l (here y)) q ∙ did.lower ∙ ap (λ names. lower_there m x names s d k c.loop-c.c) inv.names ∙ ap (lower_there m x c.args.out.now.above s d k) (sym q)
        | inr q ↦ c.write_entry.ensures.other_lowers (here e) (λ r. q (omega (arith, r))) ∙ inv.lowers e (omega arith)
      ];
      later_works = λ p h.
          c.write_entry.ensures.other_works p (λ e. omega (arith, e, h, start_more (above_in m) k)) ∙ inv.later_works p h;
      later_lowers = λ p h.
          c.write_entry.ensures.other_lowers p (λ e. omega (arith, e, h, start_more (above_in m) k)) ∙ inv.later_lowers p h;
      passed = pass_more c.loop-c.c (fault c.args.out.now.above) inv.passed (did.first ∙ ap (λ names. fault names c.loop-c.c) inv.names);
    }
