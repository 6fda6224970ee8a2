use Rattle.std.proofs.Common.{◌≤◌, ◌∙◌, inl, inr, refl, Bor, List, ℕ, Some, [], ⊎_elim, rules, arith}
use Rattle.std.proofs.lemmas.Result.{err_from_is_err_and}
use Rattle.csv.specs.Records.{fields_of}
use Rattle.csv.specs.Reading.{default_config, strip_bom}
use Rattle.csv.proofs.ReadFacts.{rows-end}
use Rattle.mj_tape.proofs.Left.{left-start, left-step, left-fault, left-end, row-taken, strip_bom-le}
use Rattle.mj_tape.proofs.reading.read_records.Goals as goal

pub overflow_add-count : goal.overflow_add-count
overflow_add-count c =
    let total = c.loop-row.invariant.6.total in
    let s = strip_bom-le c.args.bytes.now in
    let n : c.loop-row.count ≤ 67108865 = omega arith in
    search (rules, n)

pub loop-row-init : goal.loop-row-init
loop-row-init c =
    let fr = c.from_reader-rdr.ensures in
    let e = c.has_headers.ensures in
    let f = c.flexible.ensures in
    let start = c.into_iter-row-iterator.ensures.into_iter_gives ∙ refl in
    let rdr = c.into_byte_records-row-items.ensures.rdr in
    let left = c.into_byte_records-row-items.ensures.left in
    let text = strip_bom c.args.bytes.now in
    rw (start, rdr, c.new-values.ensures.items) (
      rw (f, e) at fr.trim ∙ c.new.ensures.trim,
      inr (inr (rw (f, e) at fr.has_headers, fr.headers)),
      left,
      rw (f, e) at fr.config ∙ c.new.ensures.config,
      text,
      fr.source,
      rw fr.state (left-start c.args.width c.args.room text),
      λ k d h. absurd (omega arith),
      rw f at fr.flexible,
    )

pub loop-row-preserved : goal.loop-row-preserved
loop-row-preserved c =
    let inv = c.loop-row.invariant in
    let s = rw (c.in-Some.is, c.in_ok-fields.ensures) at ((c.next.ensures.steps inv.2 inv.0).0 inv.1) in
    let t = row-taken (λ (s : Bor (List ℕ)). Some s.now) c.loop-row.row-iterator.rdr c.next.new.self.rdr (fields_of c.in_ok-fields.fields) default_config inv.4 inv.3 inv.5 s.0 in
    let p = c.in_ok-push_record.ensures in (
      s.0.3 ∙ inv.0,
      inl s.1,
      s.2,
      s.0.2 ∙ inv.3,
      t.0.2,
      t.4,
      left-step c.args.width c.args.room (strip_bom c.args.bytes.now) c.loop-row.count _ c.loop-row.values.items _ c.loop-row.row-iterator.rdr.state _ inv.4 t.0 (fields_of c.in_ok-fields.fields) inv.6 t.1 t.2 t.3 refl p.judged p.grew,
      p.small inv.7,
      rw (c.in-Some.is, c.in_ok-fields.ensures) at ((c.next.ensures.steps inv.2 inv.0).3) ∙ inv.8,
    )

pub returns-in_err-push_record-clause-judged : goal.returns-in_err-push_record-clause-judged
returns-in_err-push_record-clause-judged c =
    let inv = c.loop-row.invariant in
    let s = rw (c.in-Some.is, c.in_ok-fields.ensures) at ((c.next.ensures.steps inv.2 inv.0).0 inv.1) in
    let t = row-taken (λ (s : Bor (List ℕ)). Some s.now) c.loop-row.row-iterator.rdr c.next.new.self.rdr (fields_of c.in_ok-fields.fields) default_config inv.4 inv.3 inv.5 s.0 in
    let r = err_from_is_err_and c.from_residual-in_err-push_record.result c.from_residual-in_err-push_record.ensures.1 in
    rw (r.1, r.2) (⊎_elim inl
    (λ bad. inr (left-fault c.args.width c.args.room (strip_bom c.args.bytes.now) c.loop-row.count _ c.loop-row.values.items c.loop-row.row-iterator.rdr.state inv.4 t.0 (fields_of c.in_ok-fields.fields) c.in_err-push_record.field-0.0 inv.6 t.1 t.2 refl bad))
    c.in_err-push_record.ensures.judged)

pub returns-clause-judged : goal.returns-clause-judged
returns-clause-judged c =
    let inv = c.loop-row.invariant in
    let s = rw c.in-None.is at ((c.next.ensures.steps inv.2 inv.0).0 inv.1) in
    (left-end c.args.width c.args.room (strip_bom c.args.bytes.now) c.loop-row.count c.loop-row.values.items _ inv.4 inv.6 (rows-end (λ (s : Bor (List ℕ)). Some s.now) c.loop-row.row-iterator.rdr c.next.new.self.rdr [] default_config inv.4 inv.3 inv.5 s)).0

pub returns-clause-held : goal.returns-clause-held
returns-clause-held c =
    let inv = c.loop-row.invariant in
    let s = rw c.in-None.is at ((c.next.ensures.steps inv.2 inv.0).0 inv.1) in
    let e = left-end c.args.width c.args.room (strip_bom c.args.bytes.now) c.loop-row.count c.loop-row.values.items _ inv.4 inv.6 (rows-end (λ (s : Bor (List ℕ)). Some s.now) c.loop-row.row-iterator.rdr c.next.new.self.rdr [] default_config inv.4 inv.3 inv.5 s) in
    (e.1, e.2)
