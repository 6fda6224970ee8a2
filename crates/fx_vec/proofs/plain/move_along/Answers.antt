use Rattle.std.proofs.Common.{◌≡◌, ◌+◌, ◌*◌, ◌^◌, ◌≤◌, ℕ, ℤ, unsigned_abs, sym, subst}
use Rattle.fx_vec.specs.Sizes.{Within}
use Rattle.fx_vec.specs.Settling.{moved}
use Rattle.fx_vec.specs.Vectors.{Triple}
use Rattle.fx_vec.specs.Views.{mids}
use Rattle.fx_vec.proofs.Bounds.{moved-within}
use Rattle.fx_vec.proofs.Same.{same3}
use Rattle.fx_vec.proofs.plain.move_along.Goals as goal

by_value : (v p n : Triple ℤ) (k : ℤ) (m h t : ℕ) → v.x ≡ (moved p n k).x → v.y ≡ (moved p n k).y → v.z ≡ (moved p n k).z → Within p m → Within n (t * 2 ^ 32) → unsigned_abs k ≤ h → Within v (m + t * h)
by_value v p n k m h t x y z i j l = subst (λ u. Within u (m + t * h)) (sym (same3 v (moved p n k) x y z)) (moved-within p n k m h t i j l)

pub returns-clause-size : goal.returns-clause-size
returns-clause-size c =
    by_value (record { x = c.move_one.result.mid; y = c.move_one-2.result.mid; z = c.move_one-3.result.mid }) (mids c.args.c.now) (mids c.args.n.now) c.args.k.now.mid (2 ^ 61) (2 ^ 59) 4
    c.move_one.ensures c.move_one-2.ensures c.move_one-3.ensures c.requires.c c.requires.n c.requires.k

pub returns-clause-near : goal.returns-clause-near
returns-clause-near c i j l =
    by_value (record { x = c.move_one.result.mid; y = c.move_one-2.result.mid; z = c.move_one-3.result.mid }) (mids c.args.c.now) (mids c.args.n.now) c.args.k.now.mid (2 ^ 45) (2 ^ 44) 2
    c.move_one.ensures c.move_one-2.ensures c.move_one-3.ensures i j l

pub returns-clause-linear : goal.returns-clause-linear
returns-clause-linear c m h i j l =
    by_value (record { x = c.move_one.result.mid; y = c.move_one-2.result.mid; z = c.move_one-3.result.mid }) (mids c.args.c.now) (mids c.args.n.now) c.args.k.now.mid m h 2
    c.move_one.ensures c.move_one-2.ensures c.move_one-3.ensures i j l
