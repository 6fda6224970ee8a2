use Rattle.std.proofs.Common.{pos, refl}
use Rattle.mj_quat.proofs.SineLaws.{cosine-start, cosine-two, cosine-whole}
use Rattle.mj_quat.proofs.sine.cosine_sum.Goals as goal

pub returns-clause-value : goal.returns-clause-value
returns-clause-value c =
    let t = pos c.args.rest in
    let z = pos c.args.square in
    let third = cosine-two z 0 2 12 _ _ _ _ (cosine-start z _ refl) refl refl c.add_two-third.ensures.term c.add_two-third.ensures.total in
    let fifth = cosine-two z 2 30 56 _ _ _ _ third refl refl c.add_two-fifth.ensures.term c.add_two-fifth.ensures.total in
    let seventh = cosine-two z 4 90 132 _ _ _ _ fifth refl refl c.add_two-seventh.ensures.term c.add_two-seventh.ensures.total in
    let ninth = cosine-two z 6 182 240 _ _ _ _ seventh refl refl c.add_two-ninth.ensures.term c.add_two-ninth.ensures.total in
    cosine-whole t z _ _ c.requires.square ninth
