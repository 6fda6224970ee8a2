-- What names stand for.
use Rattle.std.proofs.Common.{◌≡◌, ℕ, zero, suc, ◌-◌, ◌<◌, ◌≤◌, Bool, true, false, not, ◌&&◌, ◌||◌, ◌==◌, IsTrue, List, [], ◌∷◌, length, get_or, map, Option, Some, None, Ok, Err, nat_lt, refl, sym, ap, subst, ◌∙◌, arith, inl, inr}
use Rattle.std.specs.List.{position, position_or_len, list_any}
use Rattle.std.specs.Prelude.{bytes_eq, codes, nat_le}
use Rattle.std.proofs.lemmas.Bool.{cases_Bool}
use Rattle.std.proofs.lemmas.Bool.Decides.{nat_tests}
use Rattle.std.proofs.lemmas.List.Sums.{passes_at_first}
use Rattle.std.proofs.lemmas.Slice.Eq.{bytes_eq-Decides}
use Rattle.mj_types.specs.declared.parts.Joint.{Joint}
use Rattle.mj_types.specs.declared.parts.JointKind.{JointKind}
use Rattle.mj_types.specs.declared.parts.Drive.{Drive}
use Rattle.mj_types.specs.declared.parts.Drive.TheVariants as drive
use Rattle.mj_types.specs.declared.parts.Tendon.{Tendon}
use Rattle.mj_types.specs.declared.status.ModelCode.TheVariants as code
use Rattle.mj_types.specs.Parts.{joint}
use Rattle.mj_types.specs.Lawful.{IsScalar, is_scalar, drives, is_other}
use Rattle.mj_read.specs.declared.joints.RawJoint.{RawJoint}
use Rattle.mj_read.specs.declared.bodies.RawBody.{RawBody}
use Rattle.mj_read.specs.declared.tendons.RawTerm.{RawTerm}
use Rattle.mj_read.specs.declared.tendons.RawTendon.{RawTendon}
use Rattle.mj_judge.specs.Judged.{unless}
use Rattle.mj_judge.specs.Names.{is_named}
use Rattle.mj_judge.specs.Choices.{joint_type}
use Rattle.mj_walk.specs.Names.{is_scalar_type, is_scalar_named, number_at, scalar_number, tendon_number, has_term, term_number, optional_scalar, some_number, tendon_drive, drive_of, other_number, second_number, parent_at, parent_number, has_body}
use Rattle.mj_valid.proofs.Chains.{chain, ok-same, unless-good}
use Rattle.mj_valid.proofs.KeyLaws.{first-of, second-of}

both : (a b : Bool) → a ≡ true → b ≡ true → (a && b) ≡ true
both a b p q = rw (p, q) refl

less : (a b : ℕ) → a < b → nat_lt a b ≡ true
less a b h = grind (arith, nat_tests)

most : (a b : ℕ) → a ≤ b → nat_le a b ≡ true
most a b h = grind (arith, nat_tests)

differ : (a b : ℕ) → (b == a) ≡ false → not (a == b) ≡ true
differ a b h = grind (arith, nat_tests)

equal : (xs ys : List ℕ) → bytes_eq xs ys ≡ true → xs ≡ ys
equal xs ys h = (bytes_eq-Decides xs ys).0 h

not_true : (b : Bool) → not b ≡ true → b ≡ false
not_true true h = absurd cc
not_true false h = refl

first_false : (a b : Bool) → (a || b) ≡ false → a ≡ false
first_false true b h = absurd cc
first_false false b h = refl

second_false : (a b : Bool) → (a || b) ≡ false → b ≡ false
second_false true b h = absurd cc
second_false false b h = h

-- ---- places
pub record IsFirst {A : Type 0} (p : A → Bool) (xs : List A) (k : ℕ) : Type 0 where
  pub there : k < length xs
  pub passes : (d : A) → p (get_or xs k d) ≡ true

pub position-is : {A : Type 0} (p : A → Bool) (xs : List A) (k : ℕ) → position p xs ≡ Some k → IsFirst p xs k
position-is {A} p xs k h =
    elim (cases_Bool (nat_lt (position_or_len p xs) (length xs))) [
      | inl less ↦ (let e : Some (position_or_len p xs) ≡ Some k = sym (rw less refl) ∙ h in
          let same : position_or_len p xs ≡ k = cc in
          let l : position_or_len p xs < length xs = grind (arith, nat_tests) in
          let P : ℕ → Type 0 = λ n. IsFirst p xs n in
          subst P same (record { there = l; passes = λ d. passes_at_first p xs d l }))
      | inr more ↦ (let e : None ≡ Some k = sym (rw more refl) ∙ h in absurd cc)
    ]

pub number-is : (o : Option ℕ) (n : ℕ) → number_at o ≡ Ok n → (k : ℕ) × (o ≡ Some k) × (suc k ≡ n)
number-is None n h = absurd cc
number-is (Some k) n h = (k, refl, ok-same (suc k) n h)

pub map-at : {A B : Type 0} (f : A → B) (xs : List A) (k : ℕ) (d : A) (e : B) → k < length xs → get_or (map f xs) k e ≡ f (get_or xs k d)
map-at f [] k d e l = absurd (omega arith)
map-at f (x ∷ xs) zero d e l = refl
map-at f (x ∷ xs) (suc k) d e l = map-at f xs k d e (omega arith)

pub some_item : {A : Type 0} (xs : List A) (k : ℕ) → k < length xs → A
some_item [] k l = absurd (omega arith)
some_item (x ∷ xs) k l = x

-- ---- hinges and slides: the types of the joints as they were read and as they were made
abbrev pub raw_type : RawJoint → Option JointKind
raw_type j = joint_type j.kind

abbrev pub made_type : Joint → Option JointKind
made_type x = Some x.kind

module _ (raws : List RawJoint) (made : List Joint) (types : (k : ℕ) (d : RawJoint) → k < length raws → joint_type (get_or raws k d).kind ≡ Some (joint made k).kind) (many : length raws ≡ length made) where
  scalar_at : (k : ℕ) (d : RawJoint) → k < length raws → is_scalar_type (joint_type (get_or raws k d).kind) ≡ true → IsTrue (is_scalar (joint made k).kind)
  scalar_at k d l h = sym (ap is_scalar_type (types k d l)) ∙ h

  pub named_scalar : (text : List ℕ) (n : ℕ) → scalar_number raws text ≡ Ok n → IsScalar made n × IsFirst (is_scalar_named text) raws (n - 1)
  unfolding scalar_number
  named_scalar text n h = found (number-is (position (is_scalar_named text) raws) n h)
    where
      found : (k : ℕ) × (position (is_scalar_named text) raws ≡ Some k) × (suc k ≡ n) → IsScalar made n × IsFirst (is_scalar_named text) raws (n - 1)
      found (k, e, q) =
          let f = position-is (is_scalar_named text) raws k e in
          let d = some_item raws k f.there in
          let less : n - 1 ≡ k = omega arith in
          let P : ℕ → Type 0 = λ m. IsFirst (is_scalar_named text) raws m in
          let Q : ℕ → Type 0 = λ m. IsTrue (is_scalar (joint made m).kind) in
          let s = scalar_at k d f.there (second-of (is_named text (get_or raws k d).name) (is_scalar_type (joint_type (get_or raws k d).kind)) (f.passes d)) in
          (record { some = omega (arith, q); there = omega (arith, q, f.there, many); kind = subst Q (sym less) s }, subst P (sym less) f)

  pub is-scalar : (text : List ℕ) (n : ℕ) → scalar_number raws text ≡ Ok n → IsScalar made n
  is-scalar text n h = (named_scalar text n h).0

  -- two texts that name one joint are one
  pub same-text : (a b : List ℕ) (n : ℕ) → scalar_number raws a ≡ Ok n → scalar_number raws b ≡ Ok n → bytes_eq a b ≡ true
  same-text a b n h k =
      let f = (named_scalar a n h).1 in
      let g = (named_scalar b n k).1 in
      let d = some_item raws (n - 1) f.there in
      let x = get_or raws (n - 1) d in
      one x.name
      (first-of (is_named a x.name) (is_scalar_type (joint_type x.kind)) (f.passes d))
      (first-of (is_named b x.name) (is_scalar_type (joint_type x.kind)) (g.passes d))
    where
      one : (name : Option (List ℕ)) → is_named a name ≡ true → is_named b name ≡ true → bytes_eq a b ≡ true
      one None p q = absurd cc
      one (Some own) p q =
          let u : own ≡ a = equal own a p in
          let v : own ≡ b = equal own b q in
          let w : a ≡ b = sym u ∙ v in
          let P : List ℕ → Type 0 = λ z. bytes_eq z b ≡ true in
          subst P u q

  -- ---- what motors and equalities name
  pub optional-is : (o : Option (List ℕ)) (r : Option ℕ) → optional_scalar raws o ≡ Ok r → (n : ℕ) → r ≡ Some n → IsScalar made n
  unfolding optional_scalar
  optional-is None r h n e = let q : None ≡ r = ok-same None r h in absurd cc
  optional-is (Some text) r h n e =
      chain (scalar_number raws text) some_number r h (λ m m-is t.
      (let q : Some m ≡ r = ok-same (Some m) r t in
      let same : m ≡ n = cc in
      subst (IsScalar made) same (is-scalar text m m-is)))

  pub drive-is : (raw_tendons : List RawTendon) (tendons : List Tendon) → length tendons ≡ length raw_tendons → (j : Option ℕ) → ((n : ℕ) → j ≡ Some n → IsScalar made n)
      → (o : Option (List ℕ)) (x : Drive) → drive_of raw_tendons j o ≡ Ok x → IsTrue (drives made tendons x)
  unfolding drive_of tendon_number
  drive-is raw_tendons tendons all None s None x h = absurd cc
  drive-is raw_tendons tendons all (Some n) s None x h =
      let e : drive.Joint n ≡ x = ok-same (drive.Joint n) x h in
      let q = s n refl in
      let P : Drive → Type 0 = λ y. IsTrue (drives made tendons y) in
      subst P e (both (nat_lt 0 n) (nat_le n (length made) && is_scalar (joint made (n - 1)).kind) (less 0 n q.some) (both (nat_le n (length made)) (is_scalar (joint made (n - 1)).kind) (most n (length made) q.there) q.kind))
  drive-is raw_tendons tendons all (Some n) s (Some text) x h =
      chain (tendon_number raw_tendons text) (tendon_drive (Some n)) x h (λ m m-is t. absurd cc)
  drive-is raw_tendons tendons all None s (Some text) x h =
      chain (tendon_number raw_tendons text) (tendon_drive None) x h (λ m m-is t.
      (let e : drive.Tendon m ≡ x = ok-same (drive.Tendon m) x t in
      let P : Drive → Type 0 = λ y. IsTrue (drives made tendons y) in
      subst P e (there m (number-is (position (λ t. is_named text t.name) raw_tendons) m m-is) text)))
    where
      there : (m : ℕ) → (k : ℕ) × (position (λ t. is_named text t.name) raw_tendons ≡ Some k) × (suc k ≡ m) → List ℕ → IsTrue (nat_lt 0 m && nat_le m (length tendons))
      there m (k, e, q) u =
          let f = position-is (λ t. is_named text t.name) raw_tendons k e in
          both (nat_lt 0 m) (nat_le m (length tendons)) (less 0 m (omega (arith, q))) (most m (length tendons) (omega (arith, q, f.there, all)))

  pub second-is : (first : ℕ) (o : Option (List ℕ)) (r : Option ℕ) → second_number raws first o ≡ Ok r → IsTrue (is_other made first r)
  unfolding second_number
  second-is first None r h = let e : None ≡ r = ok-same None r h in let P : Option ℕ → Type 0 = λ y. IsTrue (is_other made first y) in subst P e refl
  second-is first (Some text) r h =
      chain (scalar_number raws text) (other_number first) r h (λ m m-is t.
      (let q = is-scalar text m m-is in
      let P : Option ℕ → Type 0 = λ y. IsTrue (is_other made first y) in
      elim (cases_Bool (m == first)) [
        | inl same ↦ (let u : Err code.BadRange ≡ Ok r = sym (rw same refl) ∙ t in absurd cc)
        | inr other ↦ (let u : Ok (Some m) ≡ Ok r = sym (rw other refl) ∙ t in
            let e : Some m ≡ r = ok-same (Some m) r u in
            subst P e (both (nat_lt 0 m) (nat_le m (length made) && (is_scalar (joint made (m - 1)).kind && not (first == m))) (less 0 m q.some)
            (both (nat_le m (length made)) (is_scalar (joint made (m - 1)).kind && not (first == m)) (most m (length made) q.there)
            (both (is_scalar (joint made (m - 1)).kind) (not (first == m)) q.kind (differ first m other)))))
      ]))

-- ---- a tendon's joints
pub any-false : {A : Type 0} (p : A → Bool) (xs : List A) → list_any p xs ≡ false → (k : ℕ) (d : A) → k < length xs → p (get_or xs k d) ≡ false
any-false p [] h k d l = absurd (omega arith)
any-false p (x ∷ xs) h zero d l = first_false (p x) (list_any p xs) h
any-false p (x ∷ xs) h (suc k) d l = any-false p xs (second_false (p x) (list_any p xs) h) k d (omega arith)

pub term-fresh : (raws : List RawJoint) (earlier : List RawTerm) (text : List ℕ) (n : ℕ) → term_number raws earlier text ≡ Ok n → (scalar_number raws text ≡ Ok n) × (has_term text earlier ≡ false)
unfolding term_number
term-fresh raws earlier text n h =
    chain (unless (not (has_term text earlier)) code.DuplicateName) (λ u. scalar_number raws text) n h (λ u e t.
    (t, not_true (has_term text earlier) (unless-good (not (has_term text earlier)) code.DuplicateName u e)))

-- ---- parents
no_parent : (b : Bool) (n : ℕ) → parent_at None b ≡ Ok n → ⊥
no_parent true n h = cc
no_parent false n h = cc

pub parent-before : (before rest : List RawBody) (text : List ℕ) (n : ℕ) → parent_number before rest text ≡ Ok n → n ≤ length before
unfolding parent_number
parent-before before rest text n h =
    elim (cases_Bool (bytes_eq text (codes "world"))) [
      | inl world ↦ (let u : Ok 0 ≡ Ok n = sym (rw world refl) ∙ h in let e : 0 ≡ n = ok-same 0 n u in omega (arith, e))
      | inr other ↦ placed (position (λ b. bytes_eq b.name text) before) refl (sym (rw other refl) ∙ h)
    ]
  where
    placed : (o : Option ℕ) → position (λ b. bytes_eq b.name text) before ≡ o → parent_at o (has_body text rest) ≡ Ok n → n ≤ length before
    placed (Some k) e t = (let q : suc k ≡ n = ok-same (suc k) n t in let f = position-is (λ b. bytes_eq b.name text) before k e in omega (arith, q, f.there))
    placed None e t = absurd (no_parent (has_body text rest) n t)
