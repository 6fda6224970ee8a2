use Rattle.std.proofs.Common.{rules, arith, length, get_or, refl, ◌≤◌, subst}
use Rattle.std.specs.Bool.{IsTrue}
use Rattle.std.specs.Int.{IsInRange}
use Rattle.fx_text.proofs.DigitLaws.{none-reads, none-begins, none-digits, natural-read, none-large, value-more, digits-more, all-value}
use Rattle.fx_text.proofs.raw.read_natural.Goals as goal

pub returns-then-not-may_begin : goal.returns-then-not-may_begin
returns-then-not-may_begin c = none-reads c.args.most c.args.text.now (omega arith) (none-begins c.args.text.now (λ some lead. let t = c.may_begin.ensures.only some lead in absurd cc))

pub returns-then-not-is_digit : goal.returns-then-not-is_digit
returns-then-not-is_digit c = none-reads c.args.most c.args.text.now (omega arith) (none-digits c.args.text.now c.loop-byte.byte-index (omega arith) (λ d. let t = c.is_digit.ensures.1 d in absurd cc))

pub loop-byte-preserved : goal.loop-byte-preserved
loop-byte-preserved c =
    let d : IsInRange 48 57 (get_or c.args.text.now c.loop-byte.byte-index 0) = c.is_digit.ensures.0 c.if-not-is_digit.false in
    record {
      digits = λ j l. digits-more c.args.text.now c.loop-byte.byte-index j c.loop-byte.invariant.digits d l;
      number = value-more c.args.text.now c.loop-byte.byte-index c.loop-byte.n c.with_digit-n.result (get_or c.args.text.now c.loop-byte.byte-index 0) (omega arith) refl d c.loop-byte.invariant.number c.with_digit-n.ensures;
    }

pub returns-then-n-most : goal.returns-then-n-most
returns-then-n-most c =
    natural-read c.args.most c.loop-byte.n c.args.text.now c.requires
    (λ i l. c.loop-byte.invariant.digits i (omega arith))
    (c.may_begin.ensures.some c.if-not-may_begin.false) (c.may_begin.ensures.lead c.if-not-may_begin.false)
    (all-value c.args.text.now c.loop-byte.byte-index c.loop-byte.n (omega arith) c.loop-byte.invariant.number) c.if-n-most.true

pub returns-else-n-most : goal.returns-else-n-most
returns-else-n-most c =
    none-large c.args.most c.loop-byte.n c.args.text.now c.requires
    (all-value c.args.text.now c.loop-byte.byte-index c.loop-byte.n (omega arith) c.loop-byte.invariant.number) (omega arith)
