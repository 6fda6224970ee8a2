use Rattle.std.proofs.Common.{◌≡◌, ℤ, pos, ◌≤ℤ◌, ap, sym, ◌∙◌, subst, arith}
use Rattle.std.proofs.lemmas.Int.{ints}
use Rattle.mj_types.specs.declared.dual.DualRow.{DualRow}
use Rattle.mj_types.specs.Duals.{IsWithinRanges, bound}
use Rattle.mj_dual.specs.Actives.{MayBeSolvedBy, regularizer}
use Rattle.mj_dual.proofs.RegularLaws.{impedance_high, high_in_range, low_in_range, regular}
use Rattle.mj_dual.proofs.active.active.Goals as goal

pub returns-clause-ranges : goal.returns-clause-ranges
returns-clause-ranges c =
    let s = c.args.row.now.soft in
    let d = c.impedance-d.result.mid in
    let soft = c.requires.row.soft in
    let value : c.in_ok-r.r.raw ≡ regularizer c.args.diag.now.raw d = ap (λ x. x.raw) c.in_ok-r.ensures.value ∙ c.regularizer.ensures in
    let some : pos 1 ≤ℤ c.in_ok-r.r.raw =
    subst (λ (z : ℤ). pos 1 ≤ℤ z) (sym value)
    (regular c.args.diag.now.raw d c.requires.some c.impedance-d.ensures.some (impedance_high s d soft c.impedance-d.ensures.between)) in
    subst (λ (x : DualRow). IsWithinRanges x) (sym c.dual_row.ensures) (record {
      regular = some;
      r_limit = omega (arith, ints, some, c.in_ok-r.ensures.within);
      b_limit = c.in_ok-b.ensures.within;
      low_bound = low_in_range (bound c.args.row.now.low) c.requires.row.low_bound;
      high_bound = high_in_range (bound c.args.row.now.high) c.requires.row.high_bound;
    })

pub returns-clause-solvable : goal.returns-clause-solvable
returns-clause-solvable c =
    subst (λ (x : DualRow). MayBeSolvedBy c.args.diag.now.raw x) (sym c.dual_row.ensures)
    (λ nv g e. record { diagonal = e; not_idle = c.requires.some; diag_limit = c.requires.diag; low_bound = c.requires.row.low_bound; high_bound = c.requires.row.high_bound })
