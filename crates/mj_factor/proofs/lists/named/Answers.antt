use Rattle.std.proofs.Common.{ℕ, ◌+◌, ap, arith, slice_index_or}
use Rattle.mj_tree.proofs.ListingLaws.{height_le, name_positive, name_le}
use Rattle.mj_types.specs.Forests.{above_in}
use Rattle.mj_factor.proofs.PlaceLaws.{few_dofs, row_within}
use Rattle.mj_factor.proofs.lists.named.Goals as goal

pub overflow_add-begin : goal.overflow_add-begin
overflow_add-begin c =
    omega (arith, height_le (above_in c.args.model.now) c.args.k, few_dofs c.args.model.now)

pub at-requires : goal.at-requires
at-requires c = omega (arith, row_within c.args.model.now c.args.factor.now c.requires.room c.args.k c.requires.dof)

pub overflow_sub-result : goal.overflow_sub-result
overflow_sub-result c =
    let m = c.args.model.now in
    let f = c.args.factor.now in
    let here = ap (λ (p : ℕ). slice_index_or f.above (p + c.args.c) 0) c.begin.ensures.start in
    omega (arith, here, c.at.ensures 0, name_positive (above_in m) m.nv f.at f.above c.requires.room.listing c.args.k c.args.c c.requires.dof c.requires.place)

pub returns-clause-listed : goal.returns-clause-listed
returns-clause-listed c =
    let f = c.args.factor.now in
    let here = ap (λ (p : ℕ). slice_index_or f.above (p + c.args.c) 0) c.begin.ensures.start in
    omega (arith, here, c.at.ensures 0)

pub returns-clause-before : goal.returns-clause-before
returns-clause-before c =
    let m = c.args.model.now in
    let f = c.args.factor.now in
    let here = ap (λ (p : ℕ). slice_index_or f.above (p + c.args.c) 0) c.begin.ensures.start in
    omega (
      arith,
      here,
      c.at.ensures 0,
      name_positive (above_in m) m.nv f.at f.above c.requires.room.listing c.args.k c.args.c c.requires.dof c.requires.place,
      name_le (above_in m) m.nv f.at f.above c.requires.room.listing c.args.k c.args.c c.requires.dof c.requires.place,
    )
