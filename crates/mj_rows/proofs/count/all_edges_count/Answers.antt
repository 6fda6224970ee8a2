use Rattle.std.proofs.Common.{◌≡◌, ℕ, ◌+◌, length, ap, sym, subst, ◌∙◌, arith}
use Rattle.std.proofs.lemmas.List.Elements.{All-get_or}
use Rattle.fx_whole.specs.Joined.{joined}
use Rattle.mj_types.specs.declared.carriers.Contact.{Contact}
use Rattle.mj_contact.specs.Sizes.{IsUsable}
use Rattle.mj_rows.specs.Constraints.{contact, no_contact}
use Rattle.mj_rows.specs.Edges.{edges, edge_of, edge_count, first_edge}
use Rattle.mj_rows.proofs.CountLaws.{count_none, count_more, count_ones}
use Rattle.mj_rows.proofs.count.all_edges_count.Goals as goal

pub loop-k-init : goal.loop-k-init
loop-k-init c = record { counted = λ x. count_none (λ (k : ℕ). edges c.args.model.now x (contact c.args.contacts.now.list.list k) k); few = omega arith }

pub edge_count-count-requires : goal.edge_count-count-requires
edge_count-count-requires c =
    let P = IsUsable (length c.args.model.now.geoms) in
    subst P (c.entry.ensures no_contact) (All-get_or P c.args.contacts.now.list.list c.loop-k.k no_contact (omega arith) c.requires.usable)

pub loop-k-preserved : goal.loop-k-preserved
loop-k-preserved c =
    let m = c.args.model.now in
    let cs = c.args.contacts.now.list.list in
    let k = c.loop-k.k in
    record {
      counted = λ x.
          let y = contact cs k in
          count_more k c.loop-k.count c.edge_count-count.result (λ (i : ℕ). edges m x (contact cs i) i) (c.loop-k.invariant.counted x)
          (c.edge_count-count.ensures.value ∙ ap (λ (z : Contact). edge_count m z) (sym (c.entry.ensures no_contact)) ∙ sym (count_ones (edge_count m y) (λ i. edge_of m x y k (first_edge m y + i))));
      few = omega (arith, c.loop-k.invariant.few, c.edge_count-count.ensures.few);
    }

pub returns-clause-value : goal.returns-clause-value
returns-clause-value c x =
    let m = c.args.model.now in
    let cs = c.args.contacts.now.list.list in
    let whole : c.loop-k.k ≡ length cs = omega (arith, c.loop-k-test.false, c.loop-k.auto.k-end, c.len-k-end.ensures.count) in
    c.loop-k.invariant.counted x ∙ ap (λ (n : ℕ). length (joined n (λ k. edges m x (contact cs k) k))) whole
