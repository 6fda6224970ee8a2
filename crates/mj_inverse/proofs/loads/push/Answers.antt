use Rattle.std.proofs.Common.{◌≡◌, ℕ, ◌+◌, ◌-◌, ◌*◌, ◌<◌, ◌≤◌, ◌^◌, ℤ, pos, ◌+ℤ◌, ◌*ℤ◌, unsigned_abs, length, slice_index_or, sym, ap, ap₂, ◌∙◌, subst, arith}
use Rattle.fx_whole.proofs.SumLaws.{sum_to-more}
use Rattle.mj_types.specs.Duals.{entry_at}
use Rattle.mj_types.specs.Parts.{plain, number_at}
use Rattle.mj_types.specs.Problems.{place}
use Rattle.mj_inverse.proofs.ReadLaws.{entry-there}
use Rattle.mj_inverse.proofs.loads.push.Goals as goal

pub bounds-jacobians-row : goal.bounds-jacobians-row
bounds-jacobians-row c =
    let nv = c.args.nv in
    let jac = c.args.rows.now.jac.list in
    let k = c.loop-k.k in
    let h = c.loop-k-test.true in
    let at : place c.args.dual.now k ≡ c.at-row.result = c.at-row.ensures 0 in
    subst (λ xs. (c.at-row.result - 1) * nv + c.args.i < length xs) (sym c.as_slice-jacobians.ensures.items)
    (entry-there c.at-row.result nv c.args.i (length jac) (subst (λ (q : ℕ). 1 ≤ q) at (c.requires.listed.some_place k h))
    (subst (λ (q : ℕ). q * nv ≤ length jac) at (c.requires.listed.place_there k h)) c.requires.dof)

pub plus_product-total-requires-clause-j : goal.plus_product-total-requires-clause-j
plus_product-total-requires-clause-j c =
    let nv = c.args.nv in
    let jac = c.args.rows.now.jac.list in
    let k = c.loop-k.k in
    let at : place c.args.dual.now k ≡ c.at-row.result = c.at-row.ensures 0 in
    subst (λ xs. unsigned_abs (slice_index_or xs ((c.at-row.result - 1) * nv + c.args.i) (plain {F = 32} (pos 0))).mid ≤ 2 ^ 48) (sym c.as_slice-jacobians.ensures.items)
    (subst (λ (q : ℕ). unsigned_abs (entry_at nv jac (q - 1) c.args.i) ≤ 2 ^ 48) at (c.requires.listed.small k c.args.i c.loop-k-test.true c.requires.dof))

pub loop-k-preserved : goal.loop-k-preserved
loop-k-preserved c =
    let nv = c.args.nv in
    let jac = c.args.rows.now.jac.list in
    let d = c.args.dual.now in
    let x = c.args.x.now in
    let k = c.loop-k.k in
    let at : place d k ≡ c.at-row.result = c.at-row.ensures 0 in
    let jacobian : (slice_index_or c.as_slice-jacobians.result.now ((c.at-row.result - 1) * nv + c.args.i) (plain {F = 32} (pos 0))).mid ≡ entry_at nv jac (place d k - 1) c.args.i =
    ap (λ xs. (slice_index_or xs ((c.at-row.result - 1) * nv + c.args.i) (plain {F = 32} (pos 0))).mid) c.as_slice-jacobians.ensures.items
    ∙ ap (λ (q : ℕ). entry_at nv jac (q - 1) c.args.i) (sym at) in
    let force : c.entry.result.now.mid ≡ number_at x k = ap (λ z. z.mid) (sym (c.entry.ensures (plain {F = 20} (pos 0)))) in
    record {
      total = c.plus_product-total.ensures.value
          ∙ ap₂ (λ (a b : ℤ). a +ℤ b) c.loop-k.invariant.total (ap₂ (λ (a b : ℤ). a *ℤ b) jacobian force)
          ∙ sym (sum_to-more k (λ (k : ℕ). entry_at nv jac (place d k - 1) c.args.i *ℤ number_at x k));
      size = omega (arith, c.plus_product-total.ensures.size, c.loop-k.invariant.size);
    }
