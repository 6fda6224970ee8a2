-- Texts that are joined over an index, sent one after another.
use Rattle.std.proofs.Common.{◌≡◌, ℕ, ◌+◌, List, Option, sym, subst}
use Rattle.fx_whole.specs.Joined.{joined}
use Rattle.fx_whole.proofs.JoinedLaws.{joined-none, joined-more}
use Rattle.mj_io.specs.Sent.{Gathered, Sent}
use Rattle.mj_io.proofs.Sent.{sent-then, sent-nothing}

-- the text, told otherwise
pub sent-as : {K : Type 0} {holds : K → Option (List ℕ)} {faults : K → ℕ} {a b : K} {from to : Gathered} {text told : List ℕ} → told ≡ text → Sent holds faults a from text b to → Sent holds faults a from told b to
sent-as {holds = holds} {faults} {a} {b} {from} {to} e p =
    let P : List ℕ → Type 0 = λ s. Sent holds faults a from s b to in
    subst P (sym e) p

-- none was sent
pub sent-begun : {K : Type 0} (holds : K → Option (List ℕ)) (faults : K → ℕ) (a : K) (from : Gathered) (f : ℕ → List ℕ) → Sent holds faults a from (joined 0 f) a from
sent-begun holds faults a from f =
    let P : List ℕ → Type 0 = λ s. Sent holds faults a from s a from in
    subst P (sym (joined-none f)) (sent-nothing holds faults a from)

-- one more was sent
pub sent-joined : {K : Type 0} {holds : K → Option (List ℕ)} {faults : K → ℕ} {a b c : K} {from mid to : Gathered} (i : ℕ) (f : ℕ → List ℕ) → Sent holds faults a from (joined i f) b mid → Sent holds faults b mid (f i) c to → Sent holds faults a from (joined (i + 1) f) c to
sent-joined i f p q = sent-then p q (joined-more i f)

-- as many as there are were sent
pub sent-whole : {K : Type 0} {holds : K → Option (List ℕ)} {faults : K → ℕ} {a b : K} {from to : Gathered} (i n : ℕ) (f : ℕ → List ℕ) → i ≡ n → Sent holds faults a from (joined i f) b to → Sent holds faults a from (joined n f) b to
sent-whole {holds = holds} {faults} {a} {b} {from} {to} i n f e p =
    let P : ℕ → Type 0 = λ k. Sent holds faults a from (joined k f) b to in
    subst P e p
