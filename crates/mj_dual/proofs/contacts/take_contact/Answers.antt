use Rattle.std.proofs.Common.{ℕ, ◌+◌, refl, ap}
use Rattle.std.proofs.lemmas.Result.{err_from_is_err_and}
use Rattle.mj_types.specs.Placed.{placing_of}
use Rattle.mj_dual.specs.Reductions.{dynamics}
use Rattle.mj_dual.proofs.ContactLaws.{contact-out}
use Rattle.mj_dual.proofs.contacts.take_contact.Goals as goal

pub returns-in_err-contact_slopes : goal.returns-in_err-contact_slopes
returns-in_err-contact_slopes c =
    let at = ap (λ (k : ℕ). k + 1) c.len-place.ensures.count in
    let p = err_from_is_err_and c.from_residual.result c.from_residual.ensures.1 in
    rw (p.1, p.2)
    (contact-out c.args.model.now (dynamics c.args.model.now c.args.state.now c.args.factor.now c.args.smooth.now) (placing_of c.args.frames.now) c.args.contact.now c.args.k c.args.rows.now c.args.out.now _ _ c.requires.open_ at refl c.in_err-contact_slopes.ensures.first)

pub returns : goal.returns
returns c = c.take_edges.ensures
