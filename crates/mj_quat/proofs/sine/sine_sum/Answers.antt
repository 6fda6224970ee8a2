use Rattle.std.proofs.Common.{pos, refl}
use Rattle.mj_quat.proofs.SineLaws.{sine-start, sine-two, sine-whole}
use Rattle.mj_quat.proofs.sine.sine_sum.Goals as goal

pub returns-clause-value : goal.returns-clause-value
returns-clause-value c =
    let t = pos c.args.rest in
    let z = pos c.args.square in
    let third = sine-two t z 0 6 20 _ _ _ _ (sine-start t z) refl refl c.add_two-third.ensures.term c.add_two-third.ensures.total in
    let fifth = sine-two t z 2 42 72 _ _ _ _ third refl refl c.add_two-fifth.ensures.term c.add_two-fifth.ensures.total in
    let seventh = sine-two t z 4 110 156 _ _ _ _ fifth refl refl c.add_two-seventh.ensures.term c.add_two-seventh.ensures.total in
    let ninth = sine-two t z 6 210 272 _ _ _ _ seventh refl refl c.add_two-ninth.ensures.term c.add_two-ninth.ensures.total in
    sine-whole t z _ _ c.requires.square ninth
