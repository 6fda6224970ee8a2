-- What the verdict of a text promises.
use Rattle.std.proofs.Common.{◌≡◌, ℕ, zero, suc, ◌+◌, ◌<◌, pos, ◌≤ℤ◌, Bool, None, List, [], ◌∷◌, ◌++◌, length, Ok, Err, refl, sym, ap, ◌∙◌, subst, arith, inl, inr, length-append}
use Rattle.std.specs.List.{All}
use Rattle.std.proofs.lemmas.Int.{ints}
use Rattle.std.proofs.lemmas.List.Elements.{All-nil, All-push}
use Rattle.mj_optimum.specs.Problem.{IsRegular}
use Rattle.mj_types.specs.declared.verdict.Verdict.{Verdict}
use Rattle.mj_types.specs.declared.verdict.Verdict.TheVariants as verdict
use Rattle.mj_check.specs.declared.header.Header.{Header}
use Rattle.mj_check.specs.declared.numbers.Pair.{Pair}
use Rattle.mj_check.specs.declared.rows.ActiveRow.{ActiveRow}
use Rattle.mj_check.specs.Judging.{Each}
use Rattle.mj_check.specs.Lines.{DualTold, DualWithin, AreDualRows}
use Rattle.mj_check.specs.Numbers.{IsJudgedBy, dual_at, no_dual, numbers_fault}
use Rattle.mj_check.specs.Verdict.{Place, IsDual, IsBlock, BlockHolds, HoldEach, BlocksHold, IsJudged, IsVerdict, VerdictHolds, verdict_of, KeepsPromise, tells_bounds}
use Rattle.mj_check.proofs.FaultLaws.{fault-same}
use Rattle.mj_check.proofs.NumberLaws.{accepted_numbers_hold}
use Rattle.mj_check.proofs.OneLaws.{judged-same, numbers-over, zip-same}

-- ---- the rows of a dual that was found are within their limits
abbrev Within : ℕ → ℕ → List DualTold → Type 0
Within nv m duals = (length duals ≡ m) × All (DualWithin nv) duals

duals-within : (bounds : Bool) (nv : ℕ) (rows : List ActiveRow) (m at : ℕ) (rest : List ℕ) (found : List DualTold × List ℕ) → AreDualRows bounds nv rows m at rest (Ok found) → Within nv m found.0
duals-within bounds nv rows zero at rest found e =
    let z : found.0 ≡ [] = cc in
    subst (Within nv 0) (sym z) (refl, All-nil (DualWithin nv))
duals-within bounds nv rows (suc m) at rest found (inr x) = absurd cc
duals-within bounds nv rows (suc m) at rest found (inl (mid, e, inr x)) = absurd cc
duals-within bounds nv rows (suc m) at rest found (inl (mid, e, inl (row, inr x, n))) = absurd cc
duals-within bounds nv rows (suc m) at rest found (inl (mid, e, inl (row, inl (line, li, inr x), n))) = absurd cc
duals-within bounds nv rows (suc m) at rest found (inl (mid, e, inl (row, inl (line, li, inl w), n))) =
    let before = duals-within bounds nv rows m at rest mid e in
    let same : row ≡ line = cc in
    let here : DualWithin nv row.0 = subst (λ (r : DualTold × List ℕ). DualWithin nv r.0) (sym same) w.0 in
    let list : found.0 ≡ mid.0 ++ (row.0 ∷ []) = cc in
    let count : length (mid.0 ++ (row.0 ∷ [])) ≡ suc m = length-append mid.0 (row.0 ∷ []) ∙ omega (arith, before.0) in
    subst (Within nv (suc m)) (sym list) (count, All-push (DualWithin nv) mid.0 row.0 before.1 here)

-- ---- numbers that are accepted keep the promise, whatever problem and numbers they are told as
pub judged-hold : (nv : ℕ) (rows : List ActiveRow) (duals : List DualTold) (told : Pair) (first cost_line : ℕ) → Within nv (length rows) duals → IsJudgedBy nv rows duals told first cost_line (Ok tt) → KeepsPromise nv rows duals told
judged-hold nv rows duals told first cost_line within judged q at y b =
    let s = numbers-over nv rows duals duals told judged.0 q judged.1 at judged.2 y (zip-same nv duals) judged.3 b in
    let none : numbers_fault q at y first cost_line ≡ None = sym (fault-same judged.0 q judged.1 at judged.2 y s first cost_line) ∙ sym judged.4 in
    accepted_numbers_hold q at y first cost_line regular none
  where
    regular : IsRegular q
    regular i h =
        let l : i < length rows = omega (arith, b.m) in
        let r = (b.each i l).r in
        let one : pos 1 ≤ℤ (dual_at duals i).r = (within.1 i no_dual (omega (arith, within.0))).sides.least in
        omega (arith, ints, r)

-- ---- a block that is accepted keeps its promise
dual-within : (bounds : Bool) (nv : ℕ) (rows : List ActiveRow) (at : ℕ) (rest : List ℕ) (found : List DualTold × List ℕ) → IsDual bounds nv rows at rest (Ok found) → Within nv (length rows) found.0
dual-within bounds nv rows at rest found (inl (head, h, r)) = duals-within bounds nv rows (length rows) (at + 1) head.1 found r
dual-within bounds nv rows at rest found (inr x) = absurd cc

block-holds : (h : Header) (k : ℕ) (from to : Place) → IsBlock h k from (Ok to) → BlockHolds h k from to
block-holds h k from to (inr x) = absurd cc
block-holds h k from to (inl (motion, m, (inr x))) = absurd cc
block-holds h k from to (inl (motion, m, (inl (counts, c, (inr x))))) = absurd cc
block-holds h k from to (inl (motion, m, (inl (counts, c, (inl (rows, r, (inr x))))))) = absurd cc
block-holds h k from to (inl (motion, m, (inl (counts, c, (inl (rows, r, (inl (stop, s, (inr x))))))))) = absurd cc
block-holds h k from to (inl (motion, m, (inl (counts, c, (inl (rows, r, (inl (stop, s, (inl (cost, w, (inr x))))))))))) = absurd cc
block-holds h k from to (inl (motion, m, (inl (counts, c, (inl (rows, r, (inl (stop, s, (inl (cost, w, (inl (dual, d, (inr x))))))))))))) = absurd cc
block-holds h k from to (inl (motion, m, (inl (counts, c, (inl (rows, r, (inl (stop, s, (inl (cost, w, (inl (dual, d, (inl (u, j, ball)))))))))))))) =
    let within = dual-within (tells_bounds h) h.nv rows.0 (from.0 + 7 + counts.0.rows + 2) cost.1 dual d in
    (motion, m, counts, c, rows, r, stop, s, cost, w, dual, d, ball, judged-hold h.nv rows.0 dual.0 cost.0 (from.0 + 6) (from.0 + 7 + counts.0.rows + 1) within j)

hold-each : (h : Header) (n : ℕ) (from to : Place) → Each (λ k. IsBlock h (k + 1)) n from (Ok to) → HoldEach h n from to
hold-each h zero from to e = cc
hold-each h (suc n) from to (inr x) = absurd cc
hold-each h (suc n) from to (inl (mid, e, b)) = (mid, hold-each h n from mid e, block-holds h (n + 1) mid to b)

judged-holds : (text : List ℕ) (n : ℕ) → IsJudged text (Ok n) → BlocksHold text n
judged-holds text n (inr x) = absurd cc
judged-holds text n (inl (header, l, inr x)) = absurd cc
judged-holds text n (inl (header, l, inl (blocks, b, inr x))) = absurd cc
judged-holds text n (inl (header, l, inl (blocks, b, inl (end, d, e)))) =
    let same : blocks.0 ≡ n = cc in
    (header, l, blocks.1, subst (λ (m : ℕ). HoldEach header.0 m (2, header.1) blocks.1) same (hold-each header.0 blocks.0 (2, header.1) blocks.1 b.0))

pub accepted-holds : (text : List ℕ) (blocks : ℕ) → IsVerdict text (verdict.Accepted blocks) → BlocksHold text blocks
accepted-holds text blocks (inl x) = absurd cc
accepted-holds text blocks (inr (few, (Ok n, j, e))) =
    let same : n ≡ blocks = cc in
    subst (BlocksHold text) same (judged-holds text n j)
accepted-holds text blocks (inr (few, (Err r, j, e))) = absurd cc

pub verdict-holds : (text : List ℕ) (answer : Verdict) → IsVerdict text answer → VerdictHolds text answer
verdict-holds text (verdict.Accepted blocks) is = accepted-holds text blocks is
verdict-holds text (verdict.Rejected line why) is = tt

-- ---- a text has one verdict
pub verdict-one : (text : List ℕ) (a b : Verdict) → IsVerdict text a → IsVerdict text b → a ≡ b
verdict-one text a b (inl (l, e)) (inl (m, f)) = e ∙ sym f
verdict-one text a b (inl (l, e)) (inr (m, k)) = absurd (omega (arith, l, m))
verdict-one text a b (inr (l, j)) (inl (m, f)) = absurd (omega (arith, l, m))
verdict-one text a b (inr (l, (j, p, e))) (inr (m, (k, q, f))) = e ∙ ap verdict_of (judged-same text j k p q) ∙ sym f
