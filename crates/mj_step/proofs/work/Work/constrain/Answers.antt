use Rattle.std.proofs.Common.{ap, ◌∙◌}
use Rattle.std.proofs.lemmas.Result.{err_from_is_err_and}
use Rattle.fx_whole.proofs.FirstLaws.{stop_first, pass_first}
use Rattle.mj_contact.specs.Lists.{contacts_fault}
use Rattle.mj_types.specs.Parts.{number_at}
use Rattle.mj_step.specs.Steps.{rows_fault}
use Rattle.mj_step.proofs.RowLaws.{constraints-are, same_dynamics, assembly_fault-is, rows-are}
use Rattle.mj_step.proofs.work.Work.constrain.Goals as goal

pub contacts-requires-clause-units : goal.contacts-requires-clause-units
contacts-requires-clause-units c = record { each = c.requires.frames.units.each }

pub returns-in_err-contacts-clause-first : goal.returns-in_err-contacts-clause-first
unfolding rows_fault
returns-in_err-contacts-clause-first c =
    let m = c.args.model.now in
    let r = err_from_is_err_and c.from_residual.result c.from_residual.ensures.1 in
    rw (r.1, r.2) (stop_first _ _ _ (c.in_err-contacts.ensures.first ∙ ap (contacts_fault m) c.requires.frames.values))

pub returns-in_err-assemble-clause-first : goal.returns-in_err-assemble-clause-first
unfolding rows_fault
returns-in_err-assemble-clause-first c =
    let m = c.args.model.now in
    let s = c.args.state.now in
    let u = c.args.controls.now in
    let w = c.args.self.now in
    let r = err_from_is_err_and c.from_residual-in_err-assemble.result c.from_residual-in_err-assemble.ensures.1 in
    let same = same_dynamics m s u w.factor c.as_slice.result.now c.requires.factor (ap (λ xs. number_at xs) c.as_slice.ensures.value ∙ c.requires.smooth.value) in
    let here = constraints-are m s w.frames w.applied c.contacts.new.out c.requires.frames c.requires.applied c.in_ok-contacts.ensures.list in
    rw (r.1, r.2)
    (pass_first _ _ _ (c.in_ok-contacts.ensures.first ∙ ap (contacts_fault m) c.requires.frames.values)
    (c.in_err-assemble.ensures.first ∙ assembly_fault-is m s u _ _ same here))

pub returns-clause-first : goal.returns-clause-first
unfolding rows_fault
returns-clause-first c =
    let m = c.args.model.now in
    let s = c.args.state.now in
    let u = c.args.controls.now in
    let w = c.args.self.now in
    let same = same_dynamics m s u w.factor c.as_slice.result.now c.requires.factor (ap (λ xs. number_at xs) c.as_slice.ensures.value ∙ c.requires.smooth.value) in
    let here = constraints-are m s w.frames w.applied c.contacts.new.out c.requires.frames c.requires.applied c.in_ok-contacts.ensures.list in
    pass_first _ _ _ (c.in_ok-contacts.ensures.first ∙ ap (contacts_fault m) c.requires.frames.values)
    (c.in_ok-assemble.ensures.first ∙ assembly_fault-is m s u _ _ same here)

pub returns-clause-rows : goal.returns-clause-rows
returns-clause-rows c =
    let m = c.args.model.now in
    let s = c.args.state.now in
    let u = c.args.controls.now in
    let w = c.args.self.now in
    let same = same_dynamics m s u w.factor c.as_slice.result.now c.requires.factor (ap (λ xs. number_at xs) c.as_slice.ensures.value ∙ c.requires.smooth.value) in
    let here = constraints-are m s w.frames w.applied c.contacts.new.out c.requires.frames c.requires.applied c.in_ok-contacts.ensures.list in
    rows-are m s u _ _ same here c.assemble.new.rows c.assemble.new.out
    c.in_ok-assemble.ensures.rows c.in_ok-assemble.ensures.jacobians c.in_ok-assemble.ensures.dual c.in_ok-assemble.ensures.count c.in_ok-assemble.ensures.solvable
