use Rattle.std.proofs.Common.{length, sym, subst}
use Rattle.std.specs.Prelude.{All}
use Rattle.std.proofs.lemmas.List.Elements.{All-push}
use Rattle.fx_list.specs.Held.{Held}
use Rattle.mj_types.specs.declared.carriers.Contact.{Contact}
use Rattle.mj_contact.specs.Sizes.{IsUsable}
use Rattle.mj_contact.proofs.pair.push.Goals as goal

pub returns-then-len-most-clause-reach : goal.returns-then-len-most-clause-reach
returns-then-len-most-clause-reach c =
    let P = IsUsable (length c.args.model.now.geoms) in
    let Q = λ (h : Held Contact). All P h.list in
    subst Q (sym c.push.ensures) (All-push P c.args.out.now.list c.args.x c.requires.reach c.requires.usable)
