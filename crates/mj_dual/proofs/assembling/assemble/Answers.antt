use Rattle.std.proofs.Common.{refl, ap, ◌∙◌}
use Rattle.std.proofs.lemmas.Result.{err_from_is_err_and}
use Rattle.fx_whole.proofs.FirstLaws.{pass_first}
use Rattle.mj_types.specs.Placed.{placing_of}
use Rattle.mj_rows.specs.Constraints.{constraints_of}
use Rattle.mj_dual.specs.Reductions.{dynamics}
use Rattle.mj_dual.proofs.AssemblyLaws.{taken-all, first-all, dual-whole, count-whole}
use Rattle.mj_dual.proofs.assembling.assemble.Goals as goal

pub returns-in_err-take_all-clause-first : goal.returns-in_err-take_all-clause-first
returns-in_err-take_all-clause-first c =
    let m = c.args.model.now in
    let begun = record c.clear.new.rows { row = c.pivot_roots.new.roots } in
    let y = dynamics m c.args.state.now c.args.factor.now c.args.smooth.now in
    let cs = constraints_of m c.args.state.now c.args.frames.now c.args.applied.now c.args.contacts.now in
    let p = err_from_is_err_and c.from_residual-in_err-take_all.result c.from_residual-in_err-take_all.ensures.1 in
    rw (p.1, p.2)
    (pass_first _ _ _ (c.in_ok-judge_count.ensures.first (placing_of c.args.frames.now))
    (first-all m y cs begun c.take_all.new.rows c.clear.new.out c.take_all.new.out _ (ap (λ x. x.list) c.clear.ensures.list) c.in_err-take_all.ensures))

pub returns-clause-first : goal.returns-clause-first
returns-clause-first c =
    let m = c.args.model.now in
    let begun = record c.clear.new.rows { row = c.pivot_roots.new.roots } in
    let y = dynamics m c.args.state.now c.args.factor.now c.args.smooth.now in
    let cs = constraints_of m c.args.state.now c.args.frames.now c.args.applied.now c.args.contacts.now in
    pass_first _ _ _ (c.in_ok-judge_count.ensures.first (placing_of c.args.frames.now))
    (first-all m y cs begun c.take_all.new.rows c.clear.new.out c.take_all.new.out _ (ap (λ x. x.list) c.clear.ensures.list) c.in_ok-take_all.ensures)

pub returns-clause-rows : goal.returns-clause-rows
returns-clause-rows c =
    let m = c.args.model.now in
    let begun = record c.clear.new.rows { row = c.pivot_roots.new.roots } in
    let y = dynamics m c.args.state.now c.args.factor.now c.args.smooth.now in
    let cs = constraints_of m c.args.state.now c.args.frames.now c.args.applied.now c.args.contacts.now in
    (taken-all m y cs begun c.take_all.new.rows c.clear.new.out c.take_all.new.out (ap (λ x. x.list) c.clear.ensures.list) (ap (λ x. x.list) c.clear.ensures.jac)
    c.clear.ensures.empty (c.clear.ensures.room.nv ∙ c.requires.dual_room.nv) c.in_ok-take_all.ensures).listed

pub returns-clause-jacobians : goal.returns-clause-jacobians
returns-clause-jacobians c =
    let m = c.args.model.now in
    let begun = record c.clear.new.rows { row = c.pivot_roots.new.roots } in
    let y = dynamics m c.args.state.now c.args.factor.now c.args.smooth.now in
    let cs = constraints_of m c.args.state.now c.args.frames.now c.args.applied.now c.args.contacts.now in
    (taken-all m y cs begun c.take_all.new.rows c.clear.new.out c.take_all.new.out (ap (λ x. x.list) c.clear.ensures.list) (ap (λ x. x.list) c.clear.ensures.jac)
    c.clear.ensures.empty (c.clear.ensures.room.nv ∙ c.requires.dual_room.nv) c.in_ok-take_all.ensures).jacobians

pub returns-clause-dual : goal.returns-clause-dual
returns-clause-dual c =
    let m = c.args.model.now in
    let begun = record c.clear.new.rows { row = c.pivot_roots.new.roots } in
    let y = dynamics m c.args.state.now c.args.factor.now c.args.smooth.now in
    let cs = constraints_of m c.args.state.now c.args.frames.now c.args.applied.now c.args.contacts.now in
    dual-whole m y cs c.take_all.new.rows c.take_all.new.out refl
    (taken-all m y cs begun c.take_all.new.rows c.clear.new.out c.take_all.new.out (ap (λ x. x.list) c.clear.ensures.list) (ap (λ x. x.list) c.clear.ensures.jac)
    c.clear.ensures.empty (c.clear.ensures.room.nv ∙ c.requires.dual_room.nv) c.in_ok-take_all.ensures)

pub returns-clause-count : goal.returns-clause-count
returns-clause-count c =
    let m = c.args.model.now in
    let begun = record c.clear.new.rows { row = c.pivot_roots.new.roots } in
    let y = dynamics m c.args.state.now c.args.factor.now c.args.smooth.now in
    let cs = constraints_of m c.args.state.now c.args.frames.now c.args.applied.now c.args.contacts.now in
    count-whole m y cs c.take_all.new.rows c.take_all.new.out
    (taken-all m y cs begun c.take_all.new.rows c.clear.new.out c.take_all.new.out (ap (λ x. x.list) c.clear.ensures.list) (ap (λ x. x.list) c.clear.ensures.jac)
    c.clear.ensures.empty (c.clear.ensures.room.nv ∙ c.requires.dual_room.nv) c.in_ok-take_all.ensures)

pub returns-in_err-take_all-clause-solvable : goal.returns-in_err-take_all-clause-solvable
returns-in_err-take_all-clause-solvable c = c.in_err-take_all.ensures.open_.solvable

pub returns-clause-solvable : goal.returns-clause-solvable
returns-clause-solvable c = c.in_ok-take_all.ensures.open_.solvable
