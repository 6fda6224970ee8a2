use Rattle.std.proofs.Common.{ℕ, length, List, replicate, ◌≡◌, ap, ◌∙◌, arith}
use Rattle.std.proofs.lemmas.List.{length-replicate}
use Rattle.mj_types.proofs.bias.Bias.new.Goals as goal

-- a list of n times x has n entries
many : {A : Type 0} (xs : List A) (n : ℕ) (x : A) → xs ≡ replicate n x → length xs ≡ n
many xs n x e = ap length e ∙ length-replicate n x

pub returns : goal.returns
returns g c = record {
  room = record {
    c = many _ _ _ c.in_ok-filled.ensures;
    column = many _ _ _ c.in_ok-filled-2.ensures;
    turn = many _ _ _ c.in_ok-filled-3.ensures;
    rate = many _ _ _ c.in_ok-filled-4.ensures;
    motion = omega (arith, many _ _ _ c.in_ok-filled-5.ensures);
    drift = omega (arith, many _ _ _ c.in_ok-filled-6.ensures);
    wrench = omega (arith, many _ _ _ c.in_ok-filled-7.ensures);
  };
}
