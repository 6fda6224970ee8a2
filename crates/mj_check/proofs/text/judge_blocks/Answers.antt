use Rattle.std.proofs.Common.{◌≡◌, ◌+◌, ℕ, Ok, refl, subst, arith}
use Rattle.std.proofs.lemmas.Result.{err_from_is_err_and}
use Rattle.mj_check.specs.Judging.{Each}
use Rattle.mj_check.specs.Verdict.{IsBlock}
use Rattle.mj_check.proofs.JudgingLaws.{each-more}
use Rattle.mj_check.proofs.text.judge_blocks.Goals as goal

pub loop-k-init : goal.loop-k-init
loop-k-init c = record { going = c.requires.going; room = c.requires.room; nv = c.requires.nv; small = omega arith; blocks = refl }

pub judge_block-requires-clause-few : goal.judge_block-requires-clause-few
judge_block-requires-clause-few c = let s = c.loop-k.invariant.small in let n = c.requires.header.steps.1 in omega arith

pub returns-in_err-line-clause-blocks : goal.returns-in_err-line-clause-blocks
returns-in_err-line-clause-blocks c =
    let q = err_from_is_err_and c.from_residual.result c.from_residual.ensures.1 in
    rw (q.1, q.2) (c.loop-k.k, (c.loop-k.line, c.loop-k.scan.rest), c.loop-k.invariant.blocks, c.loop-k-test.true, c.begins_step.ensures.yes c.if-not-begins_step.false, c.in_err-line.ensures.block)

pub returns-then-not-begins_step-clause-blocks : goal.returns-then-not-begins_step-clause-blocks
returns-then-not-begins_step-clause-blocks c = (c.loop-k.invariant.blocks, omega arith, λ l b. let t = c.begins_step.ensures.only b in absurd cc)

pub loop-k-preserved : goal.loop-k-preserved
loop-k-preserved c = record {
  going = c.in_ok-line.ensures.going;
  room = c.judge_block.ensures.room;
  nv = c.judge_block.ensures.nv;
  small = let n = c.in_ok-line.ensures.next in let s = c.loop-k.invariant.small in omega arith;
  blocks = each-more (λ j. IsBlock c.args.header.now (j + 1)) c.loop-k.k (2, c.args.scan.now.rest) (c.loop-k.line, c.loop-k.scan.rest) (Ok (c.in_ok-line.line, c.judge_block.new.scan.rest)) c.loop-k.invariant.blocks c.in_ok-line.ensures.block;
}

pub returns-clause-small : goal.returns-clause-small
returns-clause-small c = let s = c.loop-k.invariant.small in omega arith

pub returns-clause-blocks : goal.returns-clause-blocks
returns-clause-blocks c =
    let e : c.loop-k.k ≡ c.args.header.now.steps = omega arith in
    (subst (λ (n : ℕ). Each (λ j. IsBlock c.args.header.now (j + 1)) n (2, c.args.scan.now.rest) (Ok (c.loop-k.line, c.loop-k.scan.rest))) e c.loop-k.invariant.blocks, omega arith, λ l b. absurd (omega arith))
