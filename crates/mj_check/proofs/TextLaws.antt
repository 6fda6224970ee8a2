-- The judgement of a whole text from those of its parts.
use Rattle.std.proofs.Common.{◌≡◌, ℕ, ◌≤◌, List, length, Result, Ok, Err, IfOk, refl, subst, inl, inr}
use Rattle.mj_types.specs.declared.verdict.Verdict.{Verdict}
use Rattle.mj_check.specs.declared.header.Header.{Header}
use Rattle.mj_check.specs.declared.rejection.Rejection.{Rejection}
use Rattle.mj_check.specs.Judging.{Line}
use Rattle.mj_check.specs.Lines.{IsHeader, header_line}
use Rattle.mj_check.specs.Verdict.{IsJudgedRest, IsJudged, IsVerdict, text_limit, verdict_of}

pub judged-header : (text rest : List ℕ) (e : Rejection) → rest ≡ text → Line IsHeader header_line 1 rest (Err e) → IsJudged text (Err e)
judged-header text rest e same h = subst (λ (t : List ℕ). IsJudged t (Err e)) same (inr (e, h, refl))

judged-rest : (text rest : List ℕ) (header : Header) (behind : List ℕ) (judged : Result ℕ Rejection) → rest ≡ text → Line IsHeader header_line 1 rest (Ok (header, behind)) → IsJudgedRest header behind judged → IsJudged text judged
judged-rest text rest header behind judged same h b = subst (λ (t : List ℕ). IsJudged t judged) same (inl ((header, behind), h, b))

pub judged-behind : {E : Type 0} (text rest : List ℕ) (header : Header) (behind : List ℕ) (r : Result Verdict E) → rest ≡ text → Line IsHeader header_line 1 rest (Ok (header, behind))
    → IfOk r (λ v. (judged : Result ℕ Rejection) × IsJudgedRest header behind judged × (v ≡ verdict_of judged)) → IfOk r (λ v. (judged : Result ℕ Rejection) × IsJudged text judged × (v ≡ verdict_of judged))
judged-behind text rest header behind (Ok v) same h j = (j.0, judged-rest text rest header behind j.0 same h j.1, j.2)
judged-behind text rest header behind (Err e) same h j = tt

pub judged-small : {E : Type 0} (text : List ℕ) (r : Result Verdict E) → length text ≤ text_limit → IfOk r (λ v. (judged : Result ℕ Rejection) × IsJudged text judged × (v ≡ verdict_of judged)) → IfOk r (IsVerdict text)
judged-small text (Ok v) l j = inr (l, j)
judged-small text (Err e) l j = tt
