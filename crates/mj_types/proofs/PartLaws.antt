-- Lists of numbers that are all 0.
use Rattle.std.proofs.Common.{◌≡◌, ℕ, pos, replicate, ap, arith, inl, inr}
use Rattle.std.proofs.lemmas.Bool.{cases_lt}
use Rattle.std.proofs.lemmas.List.{get_or-replicate, get_or_past, length-replicate}
use Rattle.fx_num.specs.declared.number.Wide.{Wide}
use Rattle.mj_types.specs.Duals.{wide_at}

-- each place of a list of zeros, and past it
pub none_begun : (F n c : ℕ) → wide_at {F = F} (replicate n (record { raw = pos 0 })) c ≡ pos 0
none_begun F n c =
    elim (cases_lt c n) [
      | inl h ↦ ap (λ (y : Wide F). y.raw) (get_or-replicate n c (record { raw = pos 0 }) (record { raw = pos 0 }) h)
      | inr h ↦ ap (λ (y : Wide F). y.raw) (get_or_past (replicate n (record { raw = pos 0 })) c (record { raw = pos 0 }) (omega (arith, length-replicate {A = Wide F} n (record { raw = pos 0 }))))
    ]
