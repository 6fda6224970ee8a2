use Rattle.std.proofs.Common.{refl, ◌≡◌, ℕ, ◌<◌, ◌+◌, ℤ, length, false, None, ap, subst, ◌∙◌, arith}
use Rattle.std.proofs.lemmas.Result.{err_from_is_err_and}
use Rattle.mj_types.specs.declared.model.Model.{Model}
use Rattle.mj_types.specs.declared.parts.Equality.{Equality}
use Rattle.mj_types.specs.declared.rows.Source.TheVariants as source
use Rattle.mj_types.specs.Lawful.{IsEquality}
use Rattle.mj_types.specs.Parts.{equality, no_equality}
use Rattle.mj_rows.specs.Constraint.{row_of, no_lever}
use Rattle.mj_rows.specs.Joints.{equality_slope}
use Rattle.mj_rows.proofs.RowLaws.{equality_row, equality_written, equality_refused, equality_passed}
use Rattle.mj_rows.proofs.joints.equality.Goals as goal

lawful : (m : Model) (e : ℕ) (x : Equality) → e < length m.equalities → equality m.equalities e ≡ x → IsEquality m.joints x
lawful m e x h is = subst (λ (y : Equality). IsEquality m.joints y) is (m.of_equalities.each e h)

pub violation-requires-clause-lawful : goal.violation-requires-clause-lawful
violation-requires-clause-lawful c = lawful c.args.model.now c.args.e c.entry-equality.result.now c.requires.equality (c.entry-equality.ensures no_equality)

pub write_equality-requires-clause-lawful : goal.write_equality-requires-clause-lawful
write_equality-requires-clause-lawful c = lawful c.args.model.now c.args.e c.entry-equality.result.now c.requires.equality (c.entry-equality.ensures no_equality)

pub returns-in_err-r-clause-first : goal.returns-in_err-r-clause-first
returns-in_err-r-clause-first c =
    let r = err_from_is_err_and c.from_residual.result c.from_residual.ensures.1 in
    rw (r.1, r.2)
    (equality_refused c.args.model.now c.args.state.now c.args.e c.args.number c.entry-equality.result.now (c.entry-equality.ensures no_equality) _ c.in_err-r.ensures.first)

pub returns-clause-row : goal.returns-clause-row
returns-clause-row c =
    equality_row c.args.model.now c.args.state.now c.args.e c.args.number c.entry-equality.result.now (c.entry-equality.ensures no_equality) _
    (ap (λ (n : ℤ). row_of false (record {
      source = source.Equality (c.args.e + 1);
      r = n;
      soft = c.entry-equality.result.now.soft;
      low = None;
      high = None;
      lever = no_lever;
      jacobian = equality_slope c.args.model.now c.entry-equality.result.now;
    })) c.in_ok-r.ensures.value)

pub returns-clause-ready : goal.returns-clause-ready
returns-clause-ready c =
    let w = c.in_ok-r.ensures.within in
    let l = lawful c.args.model.now c.args.e c.entry-equality.result.now c.requires.equality (c.entry-equality.ensures no_equality) in
    record { soft = l.soft; small = omega (arith, w); low_bound = refl; high_bound = refl }

pub returns-clause-written : goal.returns-clause-written
returns-clause-written c =
    equality_written c.args.model.now c.args.state.now c.args.e c.args.number c.entry-equality.result.now (c.entry-equality.ensures no_equality) c.write_equality.new.jacobian
    (c.write_equality.auto.jacobian ∙ c.requires.room) c.write_equality.ensures.value c.write_equality.ensures.size

pub returns-clause-first : goal.returns-clause-first
returns-clause-first c =
    equality_passed c.args.model.now c.args.state.now c.args.e c.args.number c.entry-equality.result.now (c.entry-equality.ensures no_equality) c.write_equality.new.jacobian
    c.in_ok-r.ensures.first (returns-clause-written c)
