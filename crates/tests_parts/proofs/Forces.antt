-- Springs, motors and the advance of a state.
use Rattle.std.proofs.Common.{◌≡◌, ℕ, ◌^◌, ℤ, pos, neg_ℤ, List, [], ◌∷◌, Some, None, refl}
use Rattle.fx_whole.specs.Nearest.{nearest}
use Rattle.fx_num.specs.Settled.{settled_mid}
use Rattle.mj_types.specs.declared.parts.Range.{Range}
use Rattle.mj_types.specs.declared.parts.Tendon.{Tendon}
use Rattle.mj_types.specs.declared.parts.Term.{Term}
use Rattle.mj_types.specs.declared.range.Quantity.TheVariants as kind
use Rattle.mj_types.specs.Parts.{plain, no_soft}
use Rattle.mj_types.specs.Ranges.{limited}
use Rattle.mj_euler.specs.Advance.{after}
use Rattle.mj_passive.specs.Forces.{held, over_terms, pull, tension_of}

abbrev one : ℤ
one = pos 4294967296

-- a tendon of 2 q, stiffness 3, spring length 1, at q = 1
abbrev terms : List Term
terms = record { joint = 1; coef = plain (pos 8589934592) } ∷ []

abbrev tendon : Tendon
tendon = record {
  terms = terms;
  range = None;
  margin = plain (pos 0);
  stiffness = plain (pos 12884901888);
  damping = plain one;
  springlength = plain one;
  soft = no_soft;
}

length_is : settled_mid (over_terms terms (λ number. one)) 32 ≡ pos 8589934592
unfolding nearest
length_is = refl

pulls_back : tension_of tendon (pos 8589934592) (pos 0) (pos 0) ≡ neg_ℤ (pos 12884901888)
unfolding tension_of nearest
pulls_back = refl

at_its_joint : settled_mid (pull terms (neg_ℤ (pos 12884901888)) 1) 32 ≡ neg_ℤ (pos 25769803776)
unfolding nearest
at_its_joint = refl

-- ---- a control within -1 and 1
abbrev range : Range
range = record { least = plain (neg_ℤ one); greatest = plain one }

held_above : held (Some range) (pos 8589934592) ≡ one
held_above = refl

held_below : held (Some range) (neg_ℤ (pos 8589934592)) ≡ neg_ℤ one
held_below = refl

free : held None (pos 8589934592) ≡ pos 8589934592
free = refl

-- ---- a quarter of a second
abbrev quarter : ℤ → ℤ → ℤ
quarter = after (pos (2 ^ 30))

-- with 8 m/s^2 a body falls with 2 m/s, and then by half a metre
falls : quarter (pos 0) (neg_ℤ (pos 34359738368)) ≡ neg_ℤ (pos 8589934592)
unfolding nearest
falls = refl

moves_on : quarter (pos 0) (neg_ℤ (pos 8589934592)) ≡ neg_ℤ (pos 2147483648)
unfolding nearest
moves_on = refl

-- a tie goes to the number nearer to zero
tie : quarter (pos 10) (pos 2) ≡ pos 10
unfolding nearest
tie = refl

past_tie : quarter (pos 10) (neg_ℤ (pos 3)) ≡ pos 9
unfolding nearest
past_tie = refl

far : limited kind.Position 3 (2 ^ 44) (quarter (pos (2 ^ 44)) (pos 4)) ≡ Some (record { kind = kind.Position; index = 3 })
unfolding nearest
far = refl

near : limited kind.Position 3 (2 ^ 52) (quarter (pos (2 ^ 44)) (pos 4)) ≡ None
unfolding nearest
near = refl
