use Rattle.std.proofs.Common.{◌+◌, ◌-◌, length, arith}
use Rattle.std.proofs.lemmas.Result.{err_from_is_err_and}
use Rattle.mj_types.specs.Placed.{placing_of}
use Rattle.mj_contact.specs.Lists.{found}
use Rattle.mj_contact.proofs.GrowingLaws.{turn-start, turn-more, turn-stop}
use Rattle.mj_contact.proofs.list.add_with_later.Goals as goal

pub loop-i-init : goal.loop-i-init
loop-i-init c = record {
  added = turn-start c.args.out.now (λ i. found c.args.model.now (placing_of c.args.frames.now) c.args.a (c.args.a + 1 + i)) c.requires.within;
  reach = c.requires.reach;
}

pub returns-in_err-add_pair-clause-added : goal.returns-in_err-add_pair-clause-added
returns-in_err-add_pair-clause-added c =
    let m = c.args.model.now in
    let a = c.args.a in
    let p = err_from_is_err_and c.from_residual.result c.from_residual.ensures.1 in
    rw (p.1, p.2)
    (turn-stop c.args.out.now c.loop-i.out c.add_pair.new.out c.loop-i.i (length m.geoms - (a + 1)) (λ i. found m (placing_of c.args.frames.now) a (a + 1 + i)) _ (omega arith) c.loop-i.invariant.added c.in_err-add_pair.ensures.added)

pub loop-i-preserved : goal.loop-i-preserved
loop-i-preserved c =
    let m = c.args.model.now in
    let a = c.args.a in
    record {
      added = turn-more c.args.out.now c.loop-i.out c.add_pair.new.out c.loop-i.i (λ i. found m (placing_of c.args.frames.now) a (a + 1 + i)) _ c.loop-i.invariant.added c.in_ok-add_pair.ensures.added;
      reach = c.add_pair.ensures.reach;
    }
