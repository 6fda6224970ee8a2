use Rattle.std.proofs.Common.{◌≡◌, ℕ, ◌+◌, ◌≤◌, None, refl, length, subst, sym, ap, arith}
use Rattle.std.proofs.lemmas.List.Elements.{All-get_or}
use Rattle.std.proofs.lemmas.Result.{err_from_is_err_and}
use Rattle.fx_whole.specs.Joined.{joined}
use Rattle.mj_types.specs.declared.carriers.Contact.{Contact}
use Rattle.mj_types.specs.Placed.{placing_of}
use Rattle.mj_contact.specs.Sizes.{IsUsable}
use Rattle.mj_rows.specs.Constraints.{contact, no_contact}
use Rattle.mj_rows.specs.Edges.{edges}
use Rattle.mj_dual.specs.Reductions.{dynamics}
use Rattle.mj_dual.specs.Taking.{HasAdded}
use Rattle.mj_dual.proofs.TakingLaws.{added-same, turn-start, turn-more, turn-stop, turn-spare}
use Rattle.mj_dual.proofs.contacts.take_contacts.Goals as goal

pub loop-k-init : goal.loop-k-init
loop-k-init c = record { added = turn-start c.args.model.now (dynamics c.args.model.now c.args.state.now c.args.factor.now c.args.smooth.now) c.args.rows.now c.args.out.now (λ (k : ℕ). edges c.args.model.now (placing_of c.args.frames.now) (contact c.args.contacts.now.list.list k) k) c.requires.open_ }

pub take_contact-requires-clause-usable : goal.take_contact-requires-clause-usable
take_contact-requires-clause-usable c =
    let P = IsUsable (length c.args.model.now.geoms) in
    subst P (c.entry.ensures no_contact) (All-get_or P c.args.contacts.now.list.list c.loop-k.k no_contact (omega arith) c.requires.usable)

pub take_contact-requires-clause-place : goal.take_contact-requires-clause-place
take_contact-requires-clause-place c = omega (arith, c.len-k-end.ensures.count, c.len-k-end.ensures.most, c.requires.contacts_room.most, c.args.model.now.of_options.few_rows)

pub take_contact-requires-clause-open_ : goal.take_contact-requires-clause-open_
take_contact-requires-clause-open_ c = c.loop-k.invariant.added.open_

pub take_contact-requires-clause-spare : goal.take_contact-requires-clause-spare
take_contact-requires-clause-spare c =
    let cs = c.args.contacts.now.list.list in
    subst (λ (z : Contact). length c.loop-k.rows.list.list + length (edges c.args.model.now (placing_of c.args.frames.now) z c.loop-k.k) ≤ c.args.model.now.njmax) (c.entry.ensures no_contact)
    (turn-spare (length c.args.rows.now.list.list) (length c.loop-k.rows.list.list) c.args.model.now.njmax c.loop-k.k (length cs) (λ (k : ℕ). edges c.args.model.now (placing_of c.args.frames.now) (contact c.args.contacts.now.list.list k) k)
    c.requires.spare (c.loop-k.invariant.added.count refl) (omega (arith, c.len-k-end.ensures.count)))

pub returns-in_err-take_contact : goal.returns-in_err-take_contact
returns-in_err-take_contact c =
    let cs = c.args.contacts.now.list.list in
    let p = err_from_is_err_and c.from_residual.result c.from_residual.ensures.1 in
    rw (p.1, p.2)
    (turn-stop c.args.model.now (dynamics c.args.model.now c.args.state.now c.args.factor.now c.args.smooth.now) c.args.rows.now c.loop-k.rows c.take_contact.new.rows c.args.out.now c.loop-k.out c.take_contact.new.out
    c.loop-k.k (length cs) (λ (k : ℕ). edges c.args.model.now (placing_of c.args.frames.now) (contact c.args.contacts.now.list.list k) k) _ (omega (arith, c.len-k-end.ensures.count)) c.loop-k.invariant.added
    (added-same c.args.model.now (dynamics c.args.model.now c.args.state.now c.args.factor.now c.args.smooth.now) c.loop-k.rows c.take_contact.new.rows c.loop-k.out c.take_contact.new.out _ _ _
    (ap (λ (z : Contact). edges c.args.model.now (placing_of c.args.frames.now) z c.loop-k.k) (sym (c.entry.ensures no_contact))) c.in_err-take_contact.ensures))

pub loop-k-preserved : goal.loop-k-preserved
loop-k-preserved c = record {
  added = turn-more c.args.model.now (dynamics c.args.model.now c.args.state.now c.args.factor.now c.args.smooth.now) c.args.rows.now c.loop-k.rows c.take_contact.new.rows c.args.out.now c.loop-k.out c.take_contact.new.out
      c.loop-k.k (λ (k : ℕ). edges c.args.model.now (placing_of c.args.frames.now) (contact c.args.contacts.now.list.list k) k) None c.loop-k.invariant.added
      (added-same c.args.model.now (dynamics c.args.model.now c.args.state.now c.args.factor.now c.args.smooth.now) c.loop-k.rows c.take_contact.new.rows c.loop-k.out c.take_contact.new.out _ _ None
      (ap (λ (z : Contact). edges c.args.model.now (placing_of c.args.frames.now) z c.loop-k.k) (sym (c.entry.ensures no_contact))) c.in_ok-take_contact.ensures);
}

pub returns : goal.returns
returns c =
    let last : c.loop-k.k ≡ length c.args.contacts.now.list.list = omega (arith, c.loop-k-test.false, c.loop-k.auto.k-end, c.len-k-end.ensures.count) in
    subst (λ (k : ℕ). HasAdded c.args.model.now (dynamics c.args.model.now c.args.state.now c.args.factor.now c.args.smooth.now) (joined k (λ (k : ℕ). edges c.args.model.now (placing_of c.args.frames.now) (contact c.args.contacts.now.list.list k) k)) None c.args.rows.now c.loop-k.rows c.args.out.now c.loop-k.out)
    last c.loop-k.invariant.added
