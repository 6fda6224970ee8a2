use Rattle.std.proofs.Common.{◌≡◌, drop}
use Rattle.mj_form.proofs.Lists.{after}
use Rattle.mj_walk.specs.Walks.{each}
use Rattle.mj_walk.specs.Tables.{joint_item}
use Rattle.mj_walk.proofs.joints.judge_joints.Given as goal

-- those so far, and those that are left
abbrev pub invariant-loop-i : goal.invariant-loop-i
invariant-loop-i l =
    after l.found.items (each (joint_item l.before l.own l.number l.may_be_free) l.i (drop l.i l.own)) ≡ each (joint_item l.before l.own l.number l.may_be_free) 0 l.own
