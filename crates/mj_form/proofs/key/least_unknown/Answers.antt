use Rattle.std.proofs.Common.{◌≡◌, ◌∷◌, ◌∙◌, sym, ap, arith, true, false, map, string_bytes}
use Rattle.std.proofs.lemmas.Grind.{common_steps}
use Rattle.std.specs.List.Sorted.{IsStrictlySortedBy}
use Rattle.mj_form.specs.Keys.{is_one_of}
use Rattle.mj_form.proofs.Unknown.{least-first, least-later}
use Rattle.mj_form.proofs.key.least_unknown.Goals as goal

pub returns-then-not-is_one_of : goal.returns-then-not-is_one_of
returns-then-not-is_one_of c =
    let key = c.in-Some.key.now in
    let value = c.in-Some._value.now in
    let keys = map (λ k. k.now) c.args.keys.now in
    let left : c.members.key-iterator ≡ (key, value) ∷ c.next.new.self = grind (arith, common_steps) in
    let unknown : is_one_of (string_bytes key) keys ≡ false = rw (← c.as_str.ensures.value) cc in
    let least = least-first keys (key, value) c.next.new.self (rw left at c.members.invariant.2) unknown in
    rw c.as_str-then-not-is_one_of.ensures.value (sym least ∙ (rw left at c.members.invariant.3))

pub members-preserved : goal.members-preserved
unfolding IsStrictlySortedBy
members-preserved c =
    let key = c.in-Some.key.now in
    let value = c.in-Some._value.now in
    let keys = map (λ k. k.now) c.args.keys.now in
    let left : c.members.key-iterator ≡ (key, value) ∷ c.next.new.self = grind (arith, common_steps) in
    let known : is_one_of (string_bytes key) keys ≡ true = rw (← c.as_str.ensures.value) cc in
    let sorted = rw left at c.members.invariant.2 in
    (tt, tt, sorted.1, sym (least-later keys (key, value) c.next.new.self known) ∙ (rw left at c.members.invariant.3))
