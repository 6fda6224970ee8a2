use Rattle.std.proofs.Common.{◌≡◌, drop, map}
use Rattle.mj_form.specs.Keys.{is_one_of}
use Rattle.mj_form.proofs.key.is_one_of.Given as goal

abbrev pub invariant-keys : goal.invariant-keys
invariant-keys l = is_one_of l.key (map (λ k. k.now) (drop l.known-index l.keys)) ≡ is_one_of l.key (map (λ k. k.now) l.keys)
