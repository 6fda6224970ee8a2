-- One number more.
use Rattle.std.proofs.Common.{◌≡◌, ℕ, suc, ◌+◌, arith}
use Rattle.mj_gen.specs.Numbers.{number, number_after}

-- the number before the first is the seed
pub number-first : (seed x : ℕ) → x ≡ seed → x ≡ number seed 0
unfolding number
number-first seed x h = h

pub number-more : (seed x next k : ℕ) → x ≡ number seed k → next ≡ number_after x → next ≡ number seed (k + 1)
unfolding number
number-more seed x next k h e =
    let s : k + 1 ≡ suc k = omega arith in
    rw (s, ← h) e
