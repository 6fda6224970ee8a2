-- Laws of judging line by line.
use Rattle.std.proofs.Common.{◌≡◌, ℕ, zero, suc, ◌+◌, ◌≤◌, true, false, List, Result, Ok, Err, refl, sym, subst, arith, add-one, inl, inr}
use Rattle.std.proofs.lemmas.Bool.{cases_eq}
use Rattle.mj_types.specs.declared.verdict.Reason.TheVariants as reason
use Rattle.mj_reading.specs.Reading.{Ahead, Anything, Read}
use Rattle.mj_check.specs.declared.rejection.Rejection.{Rejection}
use Rattle.mj_check.specs.Judging.{at_line, Line, Passes, Each}

-- ---- a line, which ends with a line feed
pub line-found : {V : Type 0} {S : V → V → Type 0} {F : V → Type 0} {T : V → List ℕ} {from to : Ahead} {v : V} (line : ℕ) → Read S F T Anything from v to → to.going ≡ true → Line F T line from.rest (Ok (v, to.rest))
line-found line p g = (p.good g, p.found g)

pub line-missed : {V : Type 0} {S : V → V → Type 0} {F : V → Type 0} {T : V → List ℕ} {from to : Ahead} {v : V} (line : ℕ) → Read S F T Anything from v to → from.going ≡ true → to.going ≡ false → Line F T line from.rest (Err (at_line line reason.Form))
line-missed line p g f = ((λ w behind h e. let o = p.only g w behind h tt e in absurd cc), refl)

-- of which nothing is kept
pub passed-found : {V : Type 0} {S : V → V → Type 0} {F : V → Type 0} {T : V → List ℕ} {from to : Ahead} {v : V} (line : ℕ) → Read S F T Anything from v to → to.going ≡ true → Passes F T line from.rest (Ok to.rest)
passed-found {v = v} line p g = (v, p.good g, p.found g)

pub passed-missed : {V : Type 0} {S : V → V → Type 0} {F : V → Type 0} {T : V → List ℕ} {from to : Ahead} {v : V} (line : ℕ) → Read S F T Anything from v to → from.going ≡ true → to.going ≡ false → Passes F T line from.rest (Err (at_line line reason.Form))
passed-missed line p g f = ((λ w behind h e. let o = p.only g w behind h tt e in absurd cc), refl)

-- ---- one after another
pub each-more : {S : Type 0} (One : ℕ → S → Result S Rejection → Type 0) (k : ℕ) (from mid : S) (r : Result S Rejection) → Each One k from (Ok mid) → One k mid r → Each One (k + 1) from r
each-more One k from mid r p q = subst (λ (n : ℕ). Each One n from r) (sym (add-one k)) (inl (mid, p, q))

pub each-stops : {S : Type 0} (One : ℕ → S → Result S Rejection → Type 0) (n k : ℕ) (from : S) (e : Rejection) → k ≤ n → Each One k from (Err e) → Each One n from (Err e)
each-stops One zero k from e l p = let z : k ≡ 0 = omega arith in subst (λ (m : ℕ). Each One m from (Err e)) z p
each-stops One (suc n) k from e l p = elim (cases_eq k (suc n)) [ inl z ↦ subst (λ (m : ℕ). Each One m from (Err e)) z p | inr d ↦ inr (e, each-stops One n k from e (omega arith) p, refl) ]
