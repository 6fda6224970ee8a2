-- Rows that are taken one after another: none, one part after another, and a loop over parts.
use Rattle.std.proofs.Common.{◌≡◌, ℕ, ◌+◌, ◌-◌, ◌<◌, ◌≤◌, List, [], ◌++◌, length, Option, Some, None, refl, sym, ap, ap₂, ◌∙◌, subst, arith, add-zero, append_assoc, append-nil, length-append}
use Rattle.std.proofs.lemmas.List.{get_or_append_left, get_or-append-add}
use Rattle.fx_whole.specs.First.{or_first, first_to}
use Rattle.fx_whole.specs.Joined.{joined}
use Rattle.fx_whole.proofs.FirstLaws.{first_split, first_ext, stop_first, pass_first}
use Rattle.fx_whole.proofs.JoinedLaws.{joined-none, joined-more, joined-split, joined-within}
use Rattle.mj_types.specs.declared.dual.Dual.{Dual}
use Rattle.mj_types.specs.declared.model.Model.{Model}
use Rattle.mj_types.specs.declared.range.OutOfRange.{OutOfRange}
use Rattle.mj_types.specs.declared.rows.Rows.{Rows}
use Rattle.mj_rows.specs.Constraint.{Constraint}
use Rattle.mj_dual.specs.Reductions.{Dynamics}
use Rattle.mj_dual.specs.Assembly.{no_constraint, constraint, constraint_fault, rows_fault}
use Rattle.mj_dual.specs.Taking.{CanTake, HasTaken, HasAdded, faults_from}

-- ---- faults
pub faults-append : (start : ℕ) (y : Dynamics) (xs ys : List Constraint)
    → faults_from start y (xs ++ ys) ≡ or_first (faults_from start y xs) (faults_from (start + length xs) y ys)
faults-append start y xs ys =
    ap (λ (n : ℕ). first_to n (λ i. constraint_fault (start + i + 1) y (constraint (xs ++ ys) i))) (length-append xs ys)
    ∙ first_split (length xs) (length ys) (λ i. constraint_fault (start + i + 1) y (constraint (xs ++ ys) i))
    ∙ ap₂ or_first
    (first_ext (length xs) (λ i. constraint_fault (start + i + 1) y (constraint (xs ++ ys) i)) (λ i. constraint_fault (start + i + 1) y (constraint xs i))
    (λ i h. ap (constraint_fault (start + i + 1) y) (get_or_append_left xs ys no_constraint i h)))
    (first_ext (length ys) (λ i. constraint_fault (start + (length xs + i) + 1) y (constraint (xs ++ ys) (length xs + i))) (λ i. constraint_fault (start + length xs + i + 1) y (constraint ys i))
    (λ i h. (let e : start + (length xs + i) + 1 ≡ start + length xs + i + 1 = omega arith in
    ap₂ (λ (n : ℕ) c. constraint_fault n y c) e (get_or-append-add xs ys i no_constraint))))

pub faults-whole : (y : Dynamics) (cs : List Constraint) → faults_from 0 y cs ≡ rows_fault y cs
faults-whole y cs =
    first_ext (length cs) (λ i. constraint_fault (0 + i + 1) y (constraint cs i)) (λ i. constraint_fault (i + 1) y (constraint cs i))
    (λ i h. (let e : 0 + i + 1 ≡ i + 1 = omega arith in ap (λ (n : ℕ). constraint_fault n y (constraint cs i)) e))

module _ (m : Model) (y : Dynamics) where
  -- ---- parts
  pub added-none : (rows : Rows) (d : Dual) → CanTake m y.pivot rows d → HasAdded m y [] None rows rows d d
  added-none rows d open_ = record {
    open_ = open_;
    first = refl;
    count = λ _. sym (add-zero (length rows.list.list));
    taken = λ _ cs h. subst (λ (x : List Constraint). HasTaken m y x rows d) (sym (append-nil cs)) h;
  }

  -- one that is refused before anything is taken
  pub added-refused : (rows : Rows) (d : Dual) (part : List Constraint) (e : OutOfRange) → CanTake m y.pivot rows d → Some e ≡ faults_from (length rows.list.list) y part
      → HasAdded m y part (Some e) rows rows d d
  added-refused rows d part e open_ first = record { open_ = open_; first = first; count = λ q. cc; taken = λ q. cc }

  -- of parts that are the same
  pub added-same : (a b : Rows) (d e : Dual) (xs ys : List Constraint) (r : Option OutOfRange) → xs ≡ ys → HasAdded m y xs r a b d e → HasAdded m y ys r a b d e
  added-same a b d e xs ys r same one = subst (λ (x : List Constraint). HasAdded m y x r a b d e) same one

  pub added-then : (a b c : Rows) (d e f : Dual) (xs ys : List Constraint) (r : Option OutOfRange)
      → HasAdded m y xs None a b d e → HasAdded m y ys r b c e f → HasAdded m y (xs ++ ys) r a c d f
  added-then a b c d e f xs ys r one two =
      let at : length b.list.list ≡ length a.list.list + length xs = one.count refl in
      record {
        open_ = two.open_;
        first = pass_first (faults_from (length a.list.list) y xs) (faults_from (length a.list.list + length xs) y ys) r one.first
            (two.first ∙ ap (λ (n : ℕ). faults_from n y ys) at)
            ∙ sym (faults-append (length a.list.list) y xs ys);
        count = λ q. (let last : length c.list.list ≡ length b.list.list + length ys = two.count q in omega (arith, at, last, length-append xs ys));
        taken = λ q cs h. subst (λ (x : List Constraint). HasTaken m y x c f) (append_assoc cs xs ys) (two.taken q (cs ++ xs) (one.taken refl cs h));
      }

  pub added-stop : (a b : Rows) (d e : Dual) (xs ys : List Constraint) (f : OutOfRange) → HasAdded m y xs (Some f) a b d e → HasAdded m y (xs ++ ys) (Some f) a b d e
  added-stop a b d e xs ys f one = record {
    open_ = one.open_;
    first = stop_first (faults_from (length a.list.list) y xs) (faults_from (length a.list.list + length xs) y ys) f one.first ∙ sym (faults-append (length a.list.list) y xs ys);
    count = λ q. cc;
    taken = λ q. cc;
  }

  -- ---- a loop over parts f 0, f 1, ..
  pub turn-start : (a : Rows) (d : Dual) (f : ℕ → List Constraint) → CanTake m y.pivot a d → HasAdded m y (joined 0 f) None a a d d
  turn-start a d f open_ = subst (λ x. HasAdded m y x None a a d d) (sym (joined-none f)) (added-none a d open_)

  pub turn-more : (a b c : Rows) (d e f : Dual) (i : ℕ) (part : ℕ → List Constraint) (r : Option OutOfRange)
      → HasAdded m y (joined i part) None a b d e → HasAdded m y (part i) r b c e f → HasAdded m y (joined (i + 1) part) r a c d f
  turn-more a b c d e f i part r one two = subst (λ x. HasAdded m y x r a c d f) (sym (joined-more i part)) (added-then a b c d e f (joined i part) (part i) r one two)

  pub turn-stop : (a b c : Rows) (d e f : Dual) (i n : ℕ) (part : ℕ → List Constraint) (x : OutOfRange) → i < n
      → HasAdded m y (joined i part) None a b d e → HasAdded m y (part i) (Some x) b c e f → HasAdded m y (joined n part) (Some x) a c d f
  turn-stop a b c d e f i n part x h one two =
      let whole : joined n part ≡ joined (i + 1) part ++ joined (n - (i + 1)) (λ k. part (i + 1 + k)) =
      (let s : n ≡ i + 1 + (n - (i + 1)) = omega arith in ap (λ (k : ℕ). joined k part) s ∙ joined-split (i + 1) (n - (i + 1)) part) in
      subst (λ z. HasAdded m y z (Some x) a c d f) (sym whole)
      (added-stop a c d f (joined (i + 1) part) (joined (n - (i + 1)) (λ k. part (i + 1 + k))) x (turn-more a b c d e f i part (Some x) one two))

-- there is room for the next part
pub turn-spare : (start now most i n : ℕ) (part : ℕ → List Constraint) → start + length (joined n part) ≤ most → now ≡ start + length (joined i part) → i < n
    → now + length (part i) ≤ most
turn-spare start now most i n part room at h =
    let more : length (joined (i + 1) part) ≡ length (joined i part) + length (part i) = ap length (joined-more i part) ∙ length-append (joined i part) (part i) in
    omega (arith, more, joined-within (i + 1) n part (omega arith))
