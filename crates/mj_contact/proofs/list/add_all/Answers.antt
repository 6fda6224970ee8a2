use Rattle.std.proofs.Common.{length, arith}
use Rattle.std.proofs.lemmas.Result.{err_from_is_err_and}
use Rattle.mj_types.specs.Placed.{placing_of}
use Rattle.mj_contact.specs.Lists.{found_with_later}
use Rattle.mj_contact.proofs.GrowingLaws.{turn-start, turn-more, turn-stop}
use Rattle.mj_contact.proofs.list.add_all.Goals as goal

pub loop-a-init : goal.loop-a-init
loop-a-init c = record {
  added = turn-start c.args.out.now (found_with_later c.args.model.now (placing_of c.args.frames.now)) c.requires.within;
  reach = c.requires.reach;
}

pub returns-in_err-add_with_later-clause-added : goal.returns-in_err-add_with_later-clause-added
returns-in_err-add_with_later-clause-added c =
    let m = c.args.model.now in
    let p = err_from_is_err_and c.from_residual.result c.from_residual.ensures.1 in
    rw (p.1, p.2)
    (turn-stop c.args.out.now c.loop-a.out c.add_with_later.new.out c.loop-a.a (length m.geoms) (found_with_later m (placing_of c.args.frames.now)) _ (omega arith) c.loop-a.invariant.added c.in_err-add_with_later.ensures.added)

pub loop-a-preserved : goal.loop-a-preserved
loop-a-preserved c = record {
  added = turn-more c.args.out.now c.loop-a.out c.add_with_later.new.out c.loop-a.a (found_with_later c.args.model.now (placing_of c.args.frames.now)) _ c.loop-a.invariant.added c.in_ok-add_with_later.ensures.added;
  reach = c.add_with_later.ensures.reach;
}
