use Rattle.std.proofs.Common.{◌≡◌, drop}
use Rattle.mj_form.proofs.Lists.{after}
use Rattle.mj_walk.specs.Walks.{each}
use Rattle.mj_walk.specs.Tables.{motor_item}
use Rattle.mj_walk.proofs.motors.judge_motors.Given as goal

-- those so far, and those that are left
abbrev pub invariant-loop-i : goal.invariant-loop-i
invariant-loop-i l =
    after l.found.items (each (motor_item l.joints l.tendons l.all) l.i (drop l.i l.all)) ≡ each (motor_item l.joints l.tendons l.all) 0 l.all
