use Rattle.mj_types.proofs.DualLaws.{rows-more, solvable-more}
use Rattle.mj_types.proofs.dual.Dual.push.Goals as goal

pub invariant_of-self : goal.invariant_of-self
invariant_of-self c =
    let s = c.args.self.now in
    let q = c.requires.room in
    let p = c.put.ensures in
    let d = c.put-2.ensures in
    let r = c.put-3.ensures in
    let b = c.put-4.ensures in
    let l = c.put-5.ensures in
    let h = c.put-6.ensures in
    record {
      rows = rows-more s.m s.nv s.place _ s.g _ s.diag _ s.r _ s.b _ s.low _ s.high _ c.args.numbers.now c.args.row s.rows c.requires.lawful q.few_rows q.place q.g q.diag q.r q.b q.low q.high
          (record { len = p.len; same = p.same; others = p.others })
          (record { len = c.copy_into.ensures.len; here = λ k i. c.copy_into.ensures.here k (rw c.requires.lawful.width i); before = c.copy_into.ensures.before })
          (record { len = d.len; same = d.same; others = d.others })
          (record { len = r.len; same = r.same; others = r.others })
          (record { len = b.len; same = b.same; others = b.others })
          (record { len = l.len; same = l.same; others = l.others })
          (record { len = h.len; same = h.same; others = h.others });
    }

pub returns-clause-solvable : goal.returns-clause-solvable
returns-clause-solvable c solvable may =
    let s = c.args.self.now in
    let d = c.put-2.ensures in
    let l = c.put-5.ensures in
    let h = c.put-6.ensures in
    solvable-more s.m s.nv s.g _ s.diag _ s.low _ s.high _ c.args.numbers.now c.args.row
    (record { len = c.copy_into.ensures.len; here = λ k i. c.copy_into.ensures.here k (rw c.requires.lawful.width i); before = c.copy_into.ensures.before })
    (record { len = d.len; same = d.same; others = d.others })
    (record { len = l.len; same = l.same; others = l.others })
    (record { len = h.len; same = h.same; others = h.others })
    solvable may
