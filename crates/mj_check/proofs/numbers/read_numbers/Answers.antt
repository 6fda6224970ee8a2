use Rattle.std.proofs.Common.{refl, arith, ap, ◌∙◌, pos, subst, ◌≡◌, ℕ}
use Rattle.mj_types.specs.Duals.{wide_at}
use Rattle.mj_trace.specs.Lines.{numbers_text}
use Rattle.mj_reading.specs.Reading.{Read, NoNumber}
use Rattle.mj_check.specs.Lines.{Agree, AreWide}
use Rattle.mj_check.proofs.NumberLaws.{read-none, read-more}
use Rattle.mj_check.proofs.numbers.read_numbers.Goals as goal

pub loop-i-init : goal.loop-i-init
loop-i-init c = record { len = refl; read = read-none c.args.scan.now (wide_at c.args.out.now) }

pub loop-i-preserved : goal.loop-i-preserved
loop-i-preserved c = record {
  len = c.put.ensures.len ∙ c.loop-i.invariant.len;
  read = read-more c.loop-i.i (wide_at c.loop-i.out) (wide_at c.put.new.self) c.read_spaced.result c.loop-i.invariant.read c.read_spaced.ensures
      (λ k l. ap (λ x. x.raw) (c.put.ensures.others (record { raw = pos 0 }) k (λ e. absurd (omega arith))))
      (ap (λ x. x.raw) (c.put.ensures.same (record { raw = pos 0 })));
}

pub returns : goal.returns
returns c =
    let e : c.loop-i.i ≡ c.args.n = omega arith in
    record {
      len = c.loop-i.invariant.len;
      read = subst (λ (n : ℕ). Read (Agree n) (AreWide n) (numbers_text n) NoNumber c.args.scan.now (wide_at c.loop-i.out) c.loop-i.scan) e c.loop-i.invariant.read;
    }
