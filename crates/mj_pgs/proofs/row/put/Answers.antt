use Rattle.std.proofs.Common.{◌≡◌, ◌∙◌, ◌-ℤ◌, ap, sym, refl}
use Rattle.std.proofs.lemmas.Result.{err_from_is_err_and}
use Rattle.mj_types.specs.Problems.{problem, forces}
use Rattle.mj_pgs.proofs.RowLaws.{IsStep, step-fault, put-forces, put-held}
use Rattle.mj_pgs.proofs.row.put.Goals as goal

pub returns-in_err-shift-clause-first : goal.returns-in_err-shift-clause-first
returns-in_err-shift-clause-first c =
    let q = err_from_is_err_and c.from_residual.result c.from_residual.ensures.1 in
    let s : IsStep c.args.dual.now c.args.out.now c.args.i c.at.result c.row.result.now c.args.x.mid c.step.result.mid = record { held = c.requires.held; here = c.requires.row; numbers = c.row.ensures.numbers; used = c.at.ensures 0; from = c.step.ensures.value ∙ ap (λ a. c.args.x.mid -ℤ a) c.requires.force } in
    rw (q.1, q.2) (c.in_err-shift.ensures.first ∙ step-fault c.args.dual.now c.args.out.now c.args.i c.at.result c.row.result.now c.args.x.mid c.step.result.mid s)

pub returns-clause-first : goal.returns-clause-first
returns-clause-first c =
    let s : IsStep c.args.dual.now c.args.out.now c.args.i c.at.result c.row.result.now c.args.x.mid c.step.result.mid = record { held = c.requires.held; here = c.requires.row; numbers = c.row.ensures.numbers; used = c.at.ensures 0; from = c.step.ensures.value ∙ ap (λ a. c.args.x.mid -ℤ a) c.requires.force } in
    c.in_ok-shift.ensures.first ∙ step-fault c.args.dual.now c.args.out.now c.args.i c.at.result c.row.result.now c.args.x.mid c.step.result.mid s

pub returns-clause-held : goal.returns-clause-held
returns-clause-held c =
    let s : IsStep c.args.dual.now c.args.out.now c.args.i c.at.result c.row.result.now c.args.x.mid c.step.result.mid = record { held = c.requires.held; here = c.requires.row; numbers = c.row.ensures.numbers; used = c.at.ensures 0; from = c.step.ensures.value ∙ ap (λ a. c.args.x.mid -ℤ a) c.requires.force } in
    put-held c.args.dual.now c.args.out.now _ c.args.i c.at.result c.row.result.now c.args.x c.step.result.mid s (record { len = c.put.ensures.len; same = c.put.ensures.same; others = c.put.ensures.others }) c.requires.small c.in_ok-shift.ensures.len c.in_ok-shift.ensures.shifted refl refl

pub returns-clause-forces : goal.returns-clause-forces
returns-clause-forces c = put-forces c.args.out.now.f _ c.args.i c.args.x (record { len = c.put.ensures.len; same = c.put.ensures.same; others = c.put.ensures.others })
