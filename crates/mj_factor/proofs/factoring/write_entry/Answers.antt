use Rattle.std.proofs.Common.{arith}
use Rattle.mj_factor.proofs.PlaceLaws.{place_small, places_small, row_within}
use Rattle.mj_factor.proofs.factoring.write_entry.Goals as goal

pub overflow_add-place : goal.overflow_add-place
overflow_add-place c = omega (arith, places_small c.args.model.now c.args.k c.args.c c.requires.dof c.requires.place)

pub offset_bounds-sums-c : goal.offset_bounds-sums-c
offset_bounds-sums-c c = omega (arith, place_small c.args.model.now c.args.k c.args.c c.requires.dof c.requires.place)

pub bounds-sums-c : goal.bounds-sums-c
bounds-sums-c c = omega (arith, place_small c.args.model.now c.args.k c.args.c c.requires.dof c.requires.place)

pub put-requires : goal.put-requires
put-requires c =
    omega (arith, c.requires.place, c.requires.room.w, row_within c.args.model.now c.args.out.now c.requires.room c.args.k c.requires.dof)

pub put-requires-2 : goal.put-requires-2
put-requires-2 c =
    omega (arith, c.requires.place, c.requires.room.l, row_within c.args.model.now c.args.out.now c.requires.room c.args.k c.requires.dof)
