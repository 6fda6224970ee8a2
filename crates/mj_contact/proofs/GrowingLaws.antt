-- A list that grows within its room, part after part, until all is added or there are too many.
use Rattle.std.proofs.Common.{◌≡◌, ℕ, ◌+◌, ◌<◌, ◌≤◌, List, [], ◌++◌, length, Option, Some, None, refl, sym, ap, ap₂, ◌∙◌, subst, arith, append_assoc, append-nil, length-append, inl, inr}
use Rattle.std.specs.Prelude.{nat_le}
use Rattle.std.proofs.lemmas.Bool.{cases_lt, cond-true, cond-false, le-leb, lt-leb}
use Rattle.fx_list.specs.Held.{Held}
use Rattle.fx_whole.specs.Joined.{joined}
use Rattle.fx_whole.proofs.JoinedLaws.{joined-none, joined-more, joined-within}
use Rattle.mj_types.specs.declared.carriers.Contact.{Contact}
use Rattle.mj_types.specs.declared.range.OutOfRange.{OutOfRange}
use Rattle.mj_types.specs.declared.range.Quantity.TheVariants as kind
use Rattle.mj_contact.specs.Lists.{rows_out}
use Rattle.mj_contact.specs.Growing.{HasAdded}

-- ---- the fault
fault_of : ℕ → OutOfRange
fault_of most = record { kind = kind.Rows; index = most + 1 }

rows_out-few : (most n : ℕ) → n ≤ most → rows_out most n ≡ None
rows_out-few most n h = cond-true (nat_le n most) None (Some (record { kind = kind.Rows; index = most + 1 })) (le-leb n most h)

rows_out-many : (most n : ℕ) → most < n → rows_out most n ≡ Some (record { kind = kind.Rows; index = most + 1 })
rows_out-many most n h = cond-false (nat_le n most) None (Some (record { kind = kind.Rows; index = most + 1 })) (lt-leb n most h)

-- what is too many stays too many
pub rows_out-stays : (most m n : ℕ) (e : OutOfRange) → m ≤ n → Some e ≡ rows_out most m → Some e ≡ rows_out most n
rows_out-stays most m n e h p =
    elim (cases_lt most m) [
      | inl l ↦ p ∙ rows_out-many most m l ∙ sym (rows_out-many most n (omega arith))
      | inr l ↦ (let q = p ∙ rows_out-few most m l in cc)
    ]

-- ---- parts
pub added-none : (h : Held Contact) → length h.list ≤ h.most → HasAdded h [] None h
added-none h w = record {
  room = refl;
  within = w;
  first = sym (rows_out-few h.most (length h.list + 0) (omega arith));
  whole = λ _. sym (append-nil h.list);
}

pub added-then : (h k l : Held Contact) (x y : List Contact) (r : Option OutOfRange) → HasAdded h x None k → HasAdded k y r l → HasAdded h (x ++ y) r l
added-then h k l x y r a b =
    let list : k.list ≡ h.list ++ x = a.whole refl in
    let count : length k.list + length y ≡ length h.list + length (x ++ y) =
    ap (λ (n : ℕ). n + length y) (ap length list ∙ length-append h.list x) ∙ omega (arith, length-append x y) in
    record {
      room = b.room ∙ a.room;
      within = b.within;
      first = b.first ∙ ap₂ rows_out a.room count;
      whole = λ e. b.whole e ∙ ap (λ (z : List Contact). z ++ y) list ∙ append_assoc h.list x y;
    }

pub added-stop : (h k : Held Contact) (x y : List Contact) (e : OutOfRange) → length x ≤ length y → HasAdded h x (Some e) k → HasAdded h y (Some e) k
added-stop h k x y e l a = record {
  room = a.room;
  within = a.within;
  first = rows_out-stays h.most (length h.list + length x) (length h.list + length y) e (omega arith) a.first;
  whole = λ q. cc;
}

-- ---- a loop over parts f 0, f 1, ..
pub turn-start : (h : Held Contact) (f : ℕ → List Contact) → length h.list ≤ h.most → HasAdded h (joined 0 f) None h
turn-start h f w = subst (λ x. HasAdded h x None h) (sym (joined-none f)) (added-none h w)

pub turn-more : (h k l : Held Contact) (i : ℕ) (f : ℕ → List Contact) (r : Option OutOfRange) → HasAdded h (joined i f) None k → HasAdded k (f i) r l → HasAdded h (joined (i + 1) f) r l
turn-more h k l i f r a b = subst (λ x. HasAdded h x r l) (sym (joined-more i f)) (added-then h k l (joined i f) (f i) r a b)

pub turn-stop : (h k l : Held Contact) (i n : ℕ) (f : ℕ → List Contact) (e : OutOfRange) → i < n → HasAdded h (joined i f) None k → HasAdded k (f i) (Some e) l → HasAdded h (joined n f) (Some e) l
turn-stop h k l i n f e p a b =
    added-stop h l (joined (i + 1) f) (joined n f) e (joined-within (i + 1) n f (omega arith)) (turn-more h k l i f (Some e) a b)
