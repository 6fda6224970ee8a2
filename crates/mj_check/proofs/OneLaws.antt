-- A text has one verdict.
use Rattle.std.proofs.Common.{◌≡◌, ◌⊎◌, ℕ, zero, suc, ◌+◌, ◌<◌, ◌≤◌, ◌^◌, ℤ, pos, ◌≤ℤ◌, unsigned_abs, codes, IfSome, Bool, List, [], ◌∷◌, ◌++◌, length, Result, Ok, Err, refl, sym, ap, ◌∙◌, subst, arith, inl, inr}
use Rattle.std.specs.List.{AllZip}
use Rattle.std.proofs.lemmas.Bool.{cases_eq}
use Rattle.std.proofs.lemmas.List.Elements.{AllZip-push}
use Rattle.fx_whole.specs.First.{refusal_of}
use Rattle.mj_optimum.specs.Problem.{Problem}
use Rattle.mj_types.specs.declared.verdict.Reason.TheVariants as reason
use Rattle.mj_trace.specs.Block.{stop_text}
use Rattle.mj_trace.specs.Trace.{end_text}
use Rattle.mj_reading.specs.Reading.{Anything, Is, Both, Any, IsRaw}
use Rattle.mj_check.specs.declared.rejection.Rejection.{Rejection}
use Rattle.mj_check.specs.declared.header.Header.{Header}
use Rattle.mj_check.specs.declared.numbers.Pair.{Pair}
use Rattle.mj_check.specs.declared.counts.Counts.{Counts}
use Rattle.mj_check.specs.declared.rows.ActiveRow.{ActiveRow}
use Rattle.mj_check.specs.Alike.{Alike}
use Rattle.mj_check.specs.Judging.{at_line, Line, Passes, Limited, Then, Each}
use Rattle.mj_check.specs.Lines.{IsHeader, header_line, step_line, Agree, AreWide, IsPair, numbers_line, residual_line, pair_line, IsMotion, IsStop, IsCost, cost_line, head_line, DualTold, IsDualTold, SameDualTold, DualWithin, dual_line, IsDualRowAt, IsNextDualRow, AreDualRows, IsBall, ball_line, IsEnd}
use Rattle.mj_check.specs.Numbers.{AreNumbersOf, IsJudgedBy, Printed, dual_at}
use Rattle.mj_check.specs.Rows.{AreCounts, counts_line, IsRow, row_line, RowWithin, ToldWithin, row_at, with_row, IsRowAt, IsNextRow, AreRows}
use Rattle.mj_check.specs.Verdict.{Place, BeginsStep, IsDual, IsBallAt, IsClosed, IsBlock, AreBlocks, EndsText, IsEnding, IsJudgedRest, IsJudged, tells_bounds}
use Rattle.mj_check.proofs.FaultLaws.{HaveSameNumbers, fault-same}
use Rattle.mj_check.proofs.TellsLaws.{Tells, tells-word, tells-as, tells-header, tells-numbers_line, tells-residual, tells-pair, tells-cost, tells-counts, SameTold, tells-row, tells-dual, tells-stop, tells-ball, tells-end}

-- ---- two results of a judgement
abbrev pub SameResult : {A : Type 0} → (A → A → Type 0) → Result A Rejection → Result A Rejection → Type 0
SameResult S (Ok x) (Ok y) = S x y
SameResult S (Err e) (Err f) = e ≡ f
SameResult S (Ok x) (Err f) = ⊥
SameResult S (Err e) (Ok y) = ⊥

-- what either of two judgements finds is the same
abbrev pub Across : {A : Type 0} → (A → A → Type 0) → (Result A Rejection → Type 0) → (Result A Rejection → Type 0) → Type 0
Across {A = A} S J K = (a b : Result A Rejection) → J a → K b → SameResult S a b

given : {A : Type 0} (S : A → A → Type 0) (a b c d : Result A Rejection) → a ≡ c → b ≡ d → SameResult S c d → SameResult S a b
given S a b c d e f s = subst (λ x. SameResult S x b) (sym e) (subst (λ y. SameResult S c y) (sym f) s)

-- a value that is told
told-one : {A : Type 0} (S : A → A → Type 0) (x y : A) → S x y → Across S (λ r. r ≡ Ok x) (λ r. r ≡ Ok y)
told-one S x y s a b e f = given S a b (Ok x) (Ok y) e f s

then-one : {A B : Type 0} (S : A → A → Type 0) (R : B → B → Type 0) (F G : Result A Rejection → Type 0) (N M : A → Result B Rejection → Type 0) → Across S F G → ((x y : A) → S x y → Across R (N x) (M y)) → Across R (Then F N) (Then G M)
then-one S R F G N M p h a b (inl (x, f, n)) (inl (y, g, m)) = h x y (p (Ok x) (Ok y) f g) a b n m
then-one S R F G N M p h a b (inl (x, f, n)) (inr (e, g, m)) = absurd (p (Ok x) (Err e) f g)
then-one S R F G N M p h a b (inr (e, f, n)) (inl (y, g, m)) = absurd (p (Err e) (Ok y) f g)
then-one S R F G N M p h a b (inr (e, f, n)) (inr (d, g, m)) = given R a b (Err e) (Err d) n m (p (Err e) (Err d) f g)

each-one : {S : Type 0} (R : S → S → Type 0) (One : ℕ → S → Result S Rejection → Type 0) → ((k : ℕ) (x y : S) → R x y → Across R (One k x) (One k y)) → (n : ℕ) (x y : S) → R x y → Across R (Each One n x) (Each One n y)
each-one R One h zero x y s = told-one R x y s
each-one R One h (suc n) x y s = then-one R R (Each One n x) (Each One n y) (One n) (One n) (each-one R One h n x y s) (h n)

-- ---- lines
line-one : {V : Type 0} (S : V → V → Type 0) (F : V → Type 0) (T : V → List ℕ) → Tells S F T Anything → (line : ℕ) (rest : List ℕ) → Across (Both S Is) (Line F T line rest) (Line F T line rest)
line-one S F T t line rest (Ok x) (Ok y) (f, e) (g, d) = let o = t.one x.0 y.0 x.1 y.1 f g tt tt (sym e ∙ d) in (o.1, o.0)
line-one S F T t line rest (Ok x) (Err d) (f, e) (n, z) = n x.0 x.1 f e
line-one S F T t line rest (Err d) (Ok y) (n, z) (g, e) = n y.0 y.1 g e
line-one S F T t line rest (Err d) (Err e) (n, z) (m, w) = z ∙ sym w

passes-one : {V : Type 0} (S : V → V → Type 0) (F : V → Type 0) (T : V → List ℕ) → Tells S F T Anything → (line : ℕ) (rest : List ℕ) → Across Is (Passes F T line rest) (Passes F T line rest)
passes-one S F T t line rest (Ok b) (Ok c) (v, f, e) (w, g, d) = (t.one v w b c f g tt tt (sym e ∙ d)).0
passes-one S F T t line rest (Ok b) (Err d) (v, f, e) (n, z) = n v b f e
passes-one S F T t line rest (Err d) (Ok c) (n, z) (w, g, e) = n w c g e
passes-one S F T t line rest (Err d) (Err e) (n, z) (m, w) = z ∙ sym w

-- and what goes on with what is behind them, or with all that was found
line-rest : {V B : Type 0} (S : V → V → Type 0) (F : V → Type 0) (T : V → List ℕ) → Tells S F T Anything → (line : ℕ) (rest : List ℕ) (R : B → B → Type 0) (N : List ℕ → Result B Rejection → Type 0) → ((r : List ℕ) → Across R (N r) (N r)) → Across R (Then (Line F T line rest) (λ x. N x.1)) (Then (Line F T line rest) (λ x. N x.1))
line-rest S F T t line rest R N h = then-one (Both S Is) R (Line F T line rest) (Line F T line rest) (λ x. N x.1) (λ x. N x.1) (line-one S F T t line rest) (λ x y s. subst (λ (r : List ℕ). Across R (N x.1) (N r)) s.1 (h x.1))

line-whole : {V B : Type 0} (F : V → Type 0) (T : V → List ℕ) → Tells Is F T Anything → (line : ℕ) (rest : List ℕ) (R : B → B → Type 0) (N : V × List ℕ → Result B Rejection → Type 0) → ((x : V × List ℕ) → Across R (N x) (N x)) → Across R (Then (Line F T line rest) N) (Then (Line F T line rest) N)
line-whole F T t line rest R N h = then-one (Both Is Is) R (Line F T line rest) (Line F T line rest) N N (line-one Is F T t line rest) (λ x y s. subst (λ z. Across R (N x) (N z)) (λ i. (s.0 i, s.1 i)) (h x))

same-then : {A B : Type 0} (R : B → B → Type 0) (F : Result A Rejection → Type 0) (N : A → Result B Rejection → Type 0) → Across Is F F → ((x : A) → Across R (N x) (N x)) → Across R (Then F N) (Then F N)
same-then R F N p h = then-one Is R F F N N p (λ x y s. subst (λ z. Across R (N x) (N z)) s (h x))

limited-one : {A : Type 0} (S : A → A → Type 0) (W : A → Type 0) (line : ℕ) (x y : A × List ℕ) → Both S Is x y → (W x.0 → W y.0) → (W y.0 → W x.0) → Across (Both S Is) (Limited W line x) (Limited W line y)
limited-one S W line x y s f g a b (inl (w, e)) (inl (v, d)) = given (Both S Is) a b (Ok x) (Ok y) e d s
limited-one S W line x y s f g a b (inl (w, e)) (inr (v, d)) = absurd (v (f w))
limited-one S W line x y s f g a b (inr (w, e)) (inl (v, d)) = absurd (w (g v))
limited-one S W line x y s f g a b (inr (w, e)) (inr (v, d)) = given (Both S Is) a b (Err (at_line line reason.Limit)) (Err (at_line line reason.Limit)) e d refl

-- ---- the lines of a step
abbrev Radius : ℕ → List ℕ → Result (List ℕ) Rejection → Type 0
Radius at r = Then (Line IsPair (pair_line (codes "radius ")) (at + 5) r) (λ radius result. result ≡ Ok radius.1)

abbrev Residual : ℕ → List ℕ → Result (List ℕ) Rejection → Type 0
Residual at r = Then (Line IsRaw residual_line (at + 4) r) (λ residual. Radius at residual.1)

abbrev Accel : Header → ℕ → List ℕ → Result (List ℕ) Rejection → Type 0
Accel h at r = Then (Line (AreWide h.nv) (numbers_line (codes "a") h.nv) (at + 3) r) (λ a. Residual at a.1)

abbrev Speed : Header → ℕ → List ℕ → Result (List ℕ) Rejection → Type 0
Speed h at r = Then (Line (AreWide h.nv) (numbers_line (codes "v") h.nv) (at + 2) r) (λ v. Accel h at v.1)

abbrev Posed : Header → ℕ → List ℕ → Result (List ℕ) Rejection → Type 0
Posed h at r = Then (Line (AreWide h.nq) (numbers_line (codes "q") h.nq) (at + 1) r) (λ q. Speed h at q.1)

motion-one : (h : Header) (k at : ℕ) (rest : List ℕ) → Across Is (IsMotion h k at rest) (IsMotion h k at rest)
motion-one h k at rest =
    line-rest Is Any (λ (u : Unit {0}). step_line k) (tells-word (step_line k)) at rest Is (Posed h at) (λ r.
    line-rest (Agree h.nq) (AreWide h.nq) (numbers_line (codes "q") h.nq) (tells-numbers_line (codes "q") h.nq) (at + 1) r Is (Speed h at) (λ r.
    line-rest (Agree h.nv) (AreWide h.nv) (numbers_line (codes "v") h.nv) (tells-numbers_line (codes "v") h.nv) (at + 2) r Is (Accel h at) (λ r.
    line-rest (Agree h.nv) (AreWide h.nv) (numbers_line (codes "a") h.nv) (tells-numbers_line (codes "a") h.nv) (at + 3) r Is (Residual at) (λ r.
    line-rest Is IsRaw residual_line tells-residual (at + 4) r Is (Radius at) (λ r.
    line-rest Is IsPair (pair_line (codes "radius ")) (tells-pair (codes "radius ")) (at + 5) r Is (λ s result. result ≡ Ok s) (λ s.
    told-one Is s s refl))))))

-- ---- the rows
row-one : (bounds : Bool) (c : Counts) (i active at : ℕ) (rest : List ℕ) → Across (Both SameTold Is) (IsRowAt bounds c i active at rest) (IsRowAt bounds c i active at rest)
row-one bounds c i active at rest =
    then-one (Both SameTold Is) (Both SameTold Is) (Line (IsRow bounds c i active) (row_line bounds (i + 1)) at rest) (Line (IsRow bounds c i active) (row_line bounds (i + 1)) at rest) (Limited RowWithin at) (Limited RowWithin at)
    (line-one SameTold (IsRow bounds c i active) (row_line bounds (i + 1)) (tells-as (λ x. x) (λ w g. refl) (λ w g. g.row) (λ v w s. s) (tells-row bounds (i + 1))) at rest)
    (λ x y s. limited-one SameTold RowWithin at x y s (subst (λ o. IfSome o ToldWithin) s.0) (subst (λ o. IfSome o ToldWithin) (sym s.0)))

next-row-one : (bounds : Bool) (c : Counts) (at i : ℕ) (from : List ActiveRow × List ℕ) → Across Is (IsNextRow bounds c at i from) (IsNextRow bounds c at i from)
next-row-one bounds c at i from =
    then-one (Both SameTold Is) Is (IsRowAt bounds c i (length from.0) (at + i) from.1) (IsRowAt bounds c i (length from.0) (at + i) from.1)
    (λ found result. result ≡ Ok (with_row (i + 1) found.0.told from.0, found.1)) (λ found result. result ≡ Ok (with_row (i + 1) found.0.told from.0, found.1))
    (row-one bounds c i (length from.0) (at + i) from.1)
    (λ x y s. told-one Is (with_row (i + 1) x.0.told from.0, x.1) (with_row (i + 1) y.0.told from.0, y.1) (λ j. (with_row (i + 1) (s.0 j) from.0, s.1 j)))

each-same : {S : Type 0} (One : ℕ → S → Result S Rejection → Type 0) → ((k : ℕ) (x : S) → Across Is (One k x) (One k x)) → (n : ℕ) (x : S) → Across Is (Each One n x) (Each One n x)
each-same One h n x = each-one Is One (λ k y z s. subst (λ w. Across Is (One k y) (One k w)) s (h k y)) n x x refl

rows-one : (bounds : Bool) (c : Counts) (at : ℕ) (rest : List ℕ) → Across Is (AreRows bounds c at rest) (AreRows bounds c at rest)
rows-one bounds c at rest = each-same (IsNextRow bounds c at) (next-row-one bounds c at) c.rows ([], rest)

-- ---- the dual
abbrev SameDuals : ℕ → List DualTold × List ℕ → List DualTold × List ℕ → Type 0
SameDuals nv x y = AllZip (SameDualTold nv) x.0 y.0 × (x.1 ≡ y.1)

within-over : (nv : ℕ) (c d : DualTold) → SameDualTold nv c d → DualWithin nv c → DualWithin nv d
within-over nv c d s w = record {
  sides = record {
    least = subst (λ (x : ℤ). pos 1 ≤ℤ x) s.r w.sides.least;
    most = subst (λ (x : ℤ). x ≤ℤ pos (2 ^ 72)) s.r w.sides.most;
    side = subst (λ (x : ℤ). unsigned_abs x ≤ 2 ^ 56) s.b w.sides.side;
  };
  g = λ k l. subst (λ (x : ℤ). unsigned_abs x ≤ 2 ^ 44) (s.g k l) (w.g k l);
}

turned : (nv : ℕ) (c d : DualTold) → SameDualTold nv c d → SameDualTold nv d c
turned nv c d s = record { r = sym s.r; b = sym s.b; g = λ k l. sym (s.g k l) }

dual-row-one : (bounds : Bool) (nv : ℕ) (row : ActiveRow) (at : ℕ) (rest : List ℕ) → Across (Both (SameDualTold nv) Is) (IsDualRowAt bounds nv row at rest) (IsDualRowAt bounds nv row at rest)
dual-row-one bounds nv row at rest =
    then-one (Both (SameDualTold nv) Is) (Both (SameDualTold nv) Is) (Line (IsDualTold nv) (dual_line bounds nv row) at rest) (Line (IsDualTold nv) (dual_line bounds nv row) at rest) (Limited (DualWithin nv) at) (Limited (DualWithin nv) at)
    (line-one (SameDualTold nv) (IsDualTold nv) (dual_line bounds nv row) (tells-dual bounds nv row) at rest)
    (λ x y s. limited-one (SameDualTold nv) (DualWithin nv) at x y s (within-over nv x.0 y.0 s.0) (within-over nv y.0 x.0 (turned nv x.0 y.0 s.0)))

next-dual-one : (bounds : Bool) (nv : ℕ) (rows : List ActiveRow) (at k : ℕ) (x y : List DualTold × List ℕ) → SameDuals nv x y → Across (SameDuals nv) (IsNextDualRow bounds nv rows at k x) (IsNextDualRow bounds nv rows at k y)
next-dual-one bounds nv rows at k x y s =
    then-one (Both (SameDualTold nv) Is) (SameDuals nv) (IsDualRowAt bounds nv (row_at rows k) (at + k) x.1) (IsDualRowAt bounds nv (row_at rows k) (at + k) y.1)
    (λ found result. result ≡ Ok (x.0 ++ (found.0 ∷ []), found.1)) (λ found result. result ≡ Ok (y.0 ++ (found.0 ∷ []), found.1))
    (subst (λ (r : List ℕ). Across (Both (SameDualTold nv) Is) (IsDualRowAt bounds nv (row_at rows k) (at + k) x.1) (IsDualRowAt bounds nv (row_at rows k) (at + k) r)) s.1 (dual-row-one bounds nv (row_at rows k) (at + k) x.1))
    (λ f g t. told-one (SameDuals nv) (x.0 ++ (f.0 ∷ []), f.1) (y.0 ++ (g.0 ∷ []), g.1) (AllZip-push (SameDualTold nv) x.0 y.0 f.0 g.0 s.0 t.0, t.1))

dual-one : (bounds : Bool) (nv : ℕ) (rows : List ActiveRow) (at : ℕ) (rest : List ℕ) → Across (SameDuals nv) (IsDual bounds nv rows at rest) (IsDual bounds nv rows at rest)
dual-one bounds nv rows at rest =
    line-rest Is Any (λ (u : Unit {0}). head_line bounds (length rows) nv) (tells-word (head_line bounds (length rows) nv)) at rest (SameDuals nv) (AreDualRows bounds nv rows (length rows) (at + 1)) (λ r.
    each-one (SameDuals nv) (IsNextDualRow bounds nv rows (at + 1)) (next-dual-one bounds nv rows (at + 1)) (length rows) ([], r) ([], r) (tt, refl))

-- ---- the numbers
zip-at : (nv : ℕ) (c d : List DualTold) (k : ℕ) → AllZip (SameDualTold nv) c d → SameDualTold nv (dual_at c k) (dual_at d k)
zip-at nv [] [] k z = record { r = refl; b = refl; g = λ k l. refl }
zip-at nv [] (y ∷ ys) k z = absurd z
zip-at nv (x ∷ xs) [] k z = absurd z
zip-at nv (x ∷ xs) (y ∷ ys) zero z = z.0
zip-at nv (x ∷ xs) (y ∷ ys) (suc k) z = zip-at nv xs ys k z.1

pub zip-same : (nv : ℕ) (c : List DualTold) → AllZip (SameDualTold nv) c c
zip-same nv [] = tt
zip-same nv (x ∷ xs) = (record { r = refl; b = refl; g = λ k l. refl }, zip-same nv xs)

-- two readings of the numbers that the same lines tell
pub numbers-over : (nv : ℕ) (rows : List ActiveRow) (c d : List DualTold) (told : Pair) (p q : Problem) (place at : ℕ → ℕ) (x y : Printed) → AllZip (SameDualTold nv) c d → AreNumbersOf nv rows c told p place x → AreNumbersOf nv rows d told q at y → HaveSameNumbers p q place at x y
numbers-over nv rows c d told p q place at x y z a b =
    let l : (i : ℕ) → i < p.m → i < length rows = λ i h. omega (arith, a.m) in
    let w : (k : ℕ) → k < p.nv → k < nv = λ k h. omega (arith, a.nv) in
    let s : (i : ℕ) → SameDualTold nv (dual_at c i) (dual_at d i) = λ i. zip-at nv c d i z in
    record {
      rows = record {
        rows = a.m ∙ sym b.m;
        dofs = a.nv ∙ sym b.nv;
        numbers = λ i k h v. (a.each i (l i h)).g k (w k v) ∙ (s i).g k (w k v) ∙ sym ((b.each i (l i h)).g k (w k v));
        regularizers = λ i h. (a.each i (l i h)).r ∙ (s i).r ∙ sym (b.each i (l i h)).r;
        right_sides = λ i h. (a.each i (l i h)).b ∙ (s i).b ∙ sym (b.each i (l i h)).b;
        low_bounds = λ i h. (a.each i (l i h)).low ∙ sym (b.each i (l i h)).low;
        high_bounds = λ i h. (a.each i (l i h)).high ∙ sym (b.each i (l i h)).high;
      };
      place = λ i h. (a.each i (l i h)).place ∙ sym (b.each i (l i h)).place;
      f = λ i h. (a.each i (l i h)).f ∙ sym (b.each i (l i h)).f;
      cost = a.cost ∙ sym b.cost;
      bound = a.bound ∙ sym b.bound;
      lo = λ i h. (a.each i (l i h)).lo ∙ sym (b.each i (l i h)).lo;
      hi = λ i h. (a.each i (l i h)).hi ∙ sym (b.each i (l i h)).hi;
    }

refused-one : (a b : Result (Unit {0}) Rejection) → refusal_of a ≡ refusal_of b → SameResult Alike a b
refused-one (Ok x) (Ok y) e = tt
refused-one (Ok x) (Err f) e = absurd cc
refused-one (Err f) (Ok y) e = absurd cc
refused-one (Err f) (Err g) e = cc

judged-one : (nv : ℕ) (rows : List ActiveRow) (c d : List DualTold) (told : Pair) (first cost_line : ℕ) → AllZip (SameDualTold nv) c d → Across Alike (IsJudgedBy nv rows c told first cost_line) (IsJudgedBy nv rows d told first cost_line)
judged-one nv rows c d told first cost_line z a b (p, place, x, n, e) (q, at, y, m, f) =
    refused-one a b (e ∙ fault-same p q place at x y (numbers-over nv rows c d told p q place at x y z n m) first cost_line ∙ sym f)

-- ---- a block
ball-one : (at : ℕ) (rest : List ℕ) → Across Is (IsBallAt at rest) (IsBallAt at rest)
ball-one at rest a b (inl (s, t)) (inl (r, u)) =
    same-then Is (Passes IsBall ball_line at rest) (λ behind found. found ≡ Ok (at + 1, behind)) (passes-one Alike IsBall ball_line tells-ball at rest) (λ x. told-one Is (at + 1, x) (at + 1, x) refl) a b t u
ball-one at rest a b (inl (s, t)) (inr (r, u)) = absurd (r s)
ball-one at rest a b (inr (s, t)) (inl (r, u)) = absurd (s r)
ball-one at rest a b (inr (s, t)) (inr (r, u)) = told-one Is (at, rest) (at, rest) refl a b t u

abbrev Judged : ℕ → ℕ → List ActiveRow → ℕ → Pair → List DualTold × List ℕ → Result Place Rejection → Type 0
Judged nv first rows at told dual = Then (IsJudgedBy nv rows dual.0 told first (at + 1)) (λ u. IsBallAt (at + 3 + length rows) dual.1)

abbrev Costed : Bool → ℕ → ℕ → List ActiveRow → ℕ → Pair × List ℕ → Result Place Rejection → Type 0
Costed bounds nv first rows at cost = Then (IsDual bounds nv rows (at + 2) cost.1) (Judged nv first rows at cost.0)

abbrev Stopped : Bool → ℕ → ℕ → List ActiveRow → ℕ → List ℕ → Result Place Rejection → Type 0
Stopped bounds nv first rows at stop = Then (Line (IsCost (length rows)) cost_line (at + 1) stop) (Costed bounds nv first rows at)

told-numbers-one : (nv first : ℕ) (rows : List ActiveRow) (at : ℕ) (told : Pair) (x y : List DualTold × List ℕ) → SameDuals nv x y → Across Is (Judged nv first rows at told x) (Judged nv first rows at told y)
told-numbers-one nv first rows at told x y s =
    then-one Alike Is (IsJudgedBy nv rows x.0 told first (at + 1)) (IsJudgedBy nv rows y.0 told first (at + 1)) (λ u. IsBallAt (at + 3 + length rows) x.1) (λ u. IsBallAt (at + 3 + length rows) y.1)
    (judged-one nv rows x.0 y.0 told first (at + 1) s.0)
    (λ u v t. subst (λ (r : List ℕ). Across Is (IsBallAt (at + 3 + length rows) x.1) (IsBallAt (at + 3 + length rows) r)) s.1 (ball-one (at + 3 + length rows) x.1))

costed-one : (bounds : Bool) (nv first : ℕ) (rows : List ActiveRow) (at : ℕ) (cost : Pair × List ℕ) → Across Is (Costed bounds nv first rows at cost) (Costed bounds nv first rows at cost)
costed-one bounds nv first rows at cost =
    then-one (SameDuals nv) Is (IsDual bounds nv rows (at + 2) cost.1) (IsDual bounds nv rows (at + 2) cost.1) (Judged nv first rows at cost.0) (Judged nv first rows at cost.0)
    (dual-one bounds nv rows (at + 2) cost.1) (told-numbers-one nv first rows at cost.0)

closed-one : (bounds : Bool) (nv first : ℕ) (rows : List ActiveRow) (at : ℕ) (rest : List ℕ) → Across Is (IsClosed bounds nv first rows at rest) (IsClosed bounds nv first rows at rest)
closed-one bounds nv first rows at rest =
    same-then Is (Passes (IsStop (length rows)) stop_text at rest) (Stopped bounds nv first rows at) (passes-one Alike (IsStop (length rows)) stop_text (tells-stop (length rows)) at rest) (λ stop.
    line-whole (IsCost (length rows)) cost_line (tells-cost (length rows)) (at + 1) stop Is (Costed bounds nv first rows at) (costed-one bounds nv first rows at))

abbrev Rowed : Header → Place → Counts → List ActiveRow × List ℕ → Result Place Rejection → Type 0
Rowed h from counts rows = IsClosed (tells_bounds h) h.nv (from.0 + 6) rows.0 (from.0 + 7 + counts.rows) rows.1

abbrev Counted : Header → Place → Counts × List ℕ → Result Place Rejection → Type 0
Counted h from counts = Then (AreRows (tells_bounds h) counts.0 (from.0 + 7) counts.1) (Rowed h from counts.0)

abbrev Moved : Header → Place → List ℕ → Result Place Rejection → Type 0
Moved h from motion = Then (Line AreCounts counts_line (from.0 + 6) motion) (Counted h from)

pub block-one : (h : Header) (k : ℕ) (from : Place) → Across Is (IsBlock h k from) (IsBlock h k from)
block-one h k from =
    same-then Is (IsMotion h k from.0 from.1) (Moved h from) (motion-one h k from.0 from.1) (λ motion.
    line-whole AreCounts counts_line tells-counts (from.0 + 6) motion Is (Counted h from) (λ counts.
    same-then Is (AreRows (tells_bounds h) counts.0 (from.0 + 7) counts.1) (Rowed h from counts.0) (rows-one (tells_bounds h) counts.0 (from.0 + 7) counts.1) (λ rows.
    closed-one (tells_bounds h) h.nv (from.0 + 6) rows.0 (from.0 + 7 + counts.0.rows) rows.1)))

-- ---- the blocks
order : (a b : ℕ) → (a < b) ⊎ ((a ≡ b) ⊎ (b < a))
order zero zero = inr (inl refl)
order zero (suc b) = inl (omega arith)
order (suc a) zero = inr (inr (omega arith))
order (suc a) (suc b) = elim (order a b) [ inl l ↦ inl (omega arith) | inr (inl e) ↦ inr (inl (ap suc e)) | inr (inr l) ↦ inr (inr (omega arith)) ]

-- of so many one after another, each was found
each-before : {S : Type 0} (One : ℕ → S → Result S Rejection → Type 0) (n m : ℕ) (from y : S) → Each One m from (Ok y) → n < m → (x : S) × (z : S) × Each One n from (Ok x) × One n x (Ok z)
each-before One n zero from y e l = absurd (omega (arith, l))
each-before One n (suc m) from y (inr x) l = absurd cc
each-before {S = S} One n (suc m) from y (inl (mid, e, o)) l =
    elim (cases_eq n m) [
      | inl s ↦ subst (λ (k : ℕ). (x : S) × (z : S) × Each One k from (Ok x) × One k x (Ok z)) (sym s) (mid, y, e, o)
      | inr d ↦ each-before One n m from mid e (omega arith)
    ]

module _ (h : Header) (from : Place) where
  abbrev Block : ℕ → Place → Result Place Rejection → Type 0
  Block k at = IsBlock h (k + 1) at

  chain-one : (n : ℕ) (x y : Place) → Each Block n from (Ok x) → Each Block n from (Ok y) → x ≡ y
  chain-one n x y e f = each-same Block (λ k at. block-one h (k + 1) at) n from (Ok x) (Ok y) e f

  -- a block that is accepted begins as its step does
  begins : (k : ℕ) (at to : Place) → IsBlock h k at (Ok to) → BeginsStep k at.1
  begins k at to (inl (motion, inl (step, l, m), b)) = (step.1, l.1)
  begins k at to (inl (motion, inr x, b)) = absurd cc
  begins k at to (inr x) = absurd cc

  -- no block is accepted where none begins
  never-more : (n m : ℕ) (x y : Place) → Each Block n from (Ok x) → (BeginsStep (n + 1) x.1 → ⊥) → Each Block m from (Ok y) → n < m → ⊥
  never-more n m x y e never f l =
      let t = each-before Block n m from y f l in
      never (subst (λ (p : Place). BeginsStep (n + 1) p.1) (chain-one n t.0 x t.2 e) (begins (n + 1) t.0 t.1 t.3))

  -- and none where it is rejected
  never-past : (n m : ℕ) (x y : Place) (d : Rejection) → Each Block n from (Ok x) → IsBlock h (n + 1) x (Err d) → Each Block m from (Ok y) → n < m → ⊥
  never-past n m x y d e j f l =
      let t = each-before Block n m from y f l in
      block-one h (n + 1) x (Err d) (Ok t.1) j (subst (λ (p : Place). IsBlock h (n + 1) p (Ok t.1)) (chain-one n t.0 x t.2 e) t.3)

  moved : (n m : ℕ) (x : Place) → n ≡ m → Each Block n from (Ok x) → Each Block m from (Ok x)
  moved n m x s e = subst (λ (k : ℕ). Each Block k from (Ok x)) s e

  clash : (x : ℕ × Place) (d : Rejection) → AreBlocks h from (Ok x) → AreBlocks h from (Err d) → ⊥
  clash x d (e, l, n) (k, at, f, m, b, j) =
      elim (order x.0 k) [
        | inl q ↦ never-more x.0 k x.1 at e (n (omega arith)) f q
        | inr (inl q) ↦ n (omega arith) (subst (λ (i : ℕ). BeginsStep (i + 1) x.1.1) (sym q) (subst (λ (p : Place). BeginsStep (k + 1) p.1) (chain-one k at x.1 f (moved x.0 k x.1 q e)) b))
        | inr (inr q) ↦ never-past k x.0 at x.1 d f j e q
      ]

  blocks-one : Across Is (AreBlocks h from) (AreBlocks h from)
  blocks-one (Ok x) (Err d) a b = clash x d a b
  blocks-one (Err d) (Ok x) a b = clash x d b a
  blocks-one (Ok x) (Ok y) (e, l, n) (f, m, o) =
      elim (order x.0 y.0) [
        | inl q ↦ absurd (never-more x.0 y.0 x.1 y.1 e (n (omega arith)) f q)
        | inr (inl q) ↦ (let s = chain-one y.0 x.1 y.1 (moved x.0 y.0 x.1 q e) f in λ i. (q i, s i))
        | inr (inr q) ↦ absurd (never-more y.0 x.0 y.1 x.1 f (o (omega arith)) e q)
      ]
  blocks-one (Err d) (Err g) (k, at, e, l, b, j) (i, to, f, m, c, o) =
      elim (order k i) [
        | inl q ↦ absurd (never-past k i at to d e j f q)
        | inr (inl q) ↦ (let s = chain-one i at to (moved k i at q e) f in
            let here : IsBlock h (i + 1) to (Err d) = subst (λ (p : Place). IsBlock h (i + 1) p (Err d)) s (subst (λ (n : ℕ). IsBlock h (n + 1) at (Err d)) q j) in
            block-one h (i + 1) to (Err d) (Err g) here o)
        | inr (inr q) ↦ absurd (never-past i k to at g f o e q)
      ]

-- ---- the end, and the whole
ends-one : (line : ℕ) (behind : List ℕ) → Across Alike (EndsText line behind) (EndsText line behind)
ends-one line behind a b (inl (z, e)) (inl (w, f)) = told-one Alike tt tt tt a b e f
ends-one line behind a b (inl (z, e)) (inr (w, f)) = absurd (w z)
ends-one line behind a b (inr (z, e)) (inl (w, f)) = absurd (z w)
ends-one line behind a b (inr (z, e)) (inr (w, f)) = given Alike a b (Err (at_line (line + 1) reason.Form)) (Err (at_line (line + 1) reason.Form)) e f refl

ending-one : (count steps : ℕ) (from : Place) → Across Alike (IsEnding count steps from) (IsEnding count steps from)
ending-one count steps from =
    same-then Alike (Passes (IsEnd count steps) end_text from.0 from.1) (EndsText from.0) (passes-one Alike (IsEnd count steps) end_text (tells-end count steps) from.0 from.1) (ends-one from.0)

abbrev Ended : Header → ℕ × Place → Result ℕ Rejection → Type 0
Ended h blocks = Then (IsEnding blocks.0 h.steps blocks.1) (λ end result. result ≡ Ok blocks.0)

rest-one : (h : Header) (rest : List ℕ) → Across Is (IsJudgedRest h rest) (IsJudgedRest h rest)
rest-one h rest =
    same-then Is (AreBlocks h (2, rest)) (Ended h) (blocks-one h (2, rest)) (λ blocks.
    then-one Alike Is (IsEnding blocks.0 h.steps blocks.1) (IsEnding blocks.0 h.steps blocks.1) (λ end result. result ≡ Ok blocks.0) (λ end result. result ≡ Ok blocks.0) (ending-one blocks.0 h.steps blocks.1)
    (λ u v s. told-one Is blocks.0 blocks.0 refl))

text-one : (text : List ℕ) → Across Is (IsJudged text) (IsJudged text)
text-one text = line-whole IsHeader header_line tells-header 1 text Is (λ header. IsJudgedRest header.0 header.1) (λ header. rest-one header.0 header.1)

same-result : {A : Type 0} (a b : Result A Rejection) → SameResult Is a b → a ≡ b
same-result (Ok x) (Ok y) s = ap Ok s
same-result (Err e) (Err f) s = ap Err s
same-result (Ok x) (Err f) s = absurd s
same-result (Err e) (Ok y) s = absurd s

pub judged-same : (text : List ℕ) (a b : Result ℕ Rejection) → IsJudged text a → IsJudged text b → a ≡ b
judged-same text a b j k = same-result a b (text-one text a b j k)
