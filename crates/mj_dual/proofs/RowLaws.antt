-- One constraint more: in the list of rows, in the table of Jacobians and in the dual.
use Rattle.std.proofs.Common.{◌≡◌, ℕ, ◌+◌, ◌*◌, ◌<◌, ◌≤◌, Bool, true, false, not, cond, ℤ, pos, List, [], ◌∷◌, ◌++◌, length, Option, Some, None, is_none, is_some, refl, sym, ap, ap₂, ◌∙◌, subst, arith, length-append, inl, inr}
use Rattle.std.proofs.lemmas.Bool.{cases_eq}
use Rattle.std.proofs.lemmas.List.{get_or_append_left, get_or-append-add, length-map, map-append}
use Rattle.std.proofs.lemmas.Nat.{mul-add-lt}
use Rattle.std.proofs.Math.Seq.{get_or-append_seam}
use Rattle.fx_whole.specs.First.{or_first}
use Rattle.fx_list.specs.Held.{Held}
use Rattle.fx_num.specs.declared.number.Number.{Number}
use Rattle.mj_types.specs.declared.dual.Dual.{Dual}
use Rattle.mj_types.specs.declared.dual.DualRow.{DualRow}
use Rattle.mj_types.specs.declared.model.Model.{Model}
use Rattle.mj_types.specs.declared.range.OutOfRange.{OutOfRange}
use Rattle.mj_types.specs.declared.rows.Row.{Row}
use Rattle.mj_types.specs.declared.rows.Rows.{Rows}
use Rattle.mj_types.specs.Duals.{bound}
use Rattle.mj_types.specs.Parts.{number_at, plain}
use Rattle.mj_factor.specs.Solves.{HasRoots}
use Rattle.mj_rows.specs.Constraint.{Constraint, force, row_of, row_fault}
use Rattle.mj_dual.specs.Actives.{active_entry}
use Rattle.mj_dual.specs.Reductions.{Dynamics, reduced, diagonal, row_entry, reduction_fault}
use Rattle.mj_dual.specs.Entries.{HasEntries, IsPushed}
use Rattle.mj_dual.specs.Assembly.{no_constraint, constraint, is_left_out, listed_row, entry_of, constraint_fault, row_list, is_active, entry_at_place, HasJacobians}
use Rattle.mj_types.specs.Problems.{HaveSameRoom, IsSolvable}
use Rattle.mj_dual.specs.Taking.{CanTake, HasTaken, HasAdded, IsHeld, faults_from}
use Rattle.mj_dual.proofs.TakingLaws.{added-refused}
use Rattle.mj_dual.proofs.EntryLaws.{entries-ext, entries-skip, entries-push}

-- ---- places of a list with one constraint more
constraint-before : (cs : List Constraint) (c : Constraint) (i : ℕ) → i < length cs → constraint (cs ++ c ∷ []) i ≡ constraint cs i
constraint-before cs c i h = get_or_append_left cs (c ∷ []) no_constraint i h

constraint-last : (cs : List Constraint) (c : Constraint) → constraint (cs ++ c ∷ []) (length cs) ≡ c
constraint-last cs c = get_or-append_seam cs c [] no_constraint

length-more : (cs : List Constraint) (c : Constraint) → length (cs ++ c ∷ []) ≡ length cs + 1
length-more cs c = length-append cs (c ∷ [])

-- ---- the fault of one constraint
pub faults-one : (start : ℕ) (y : Dynamics) (c : Constraint) → faults_from start y (c ∷ []) ≡ constraint_fault (start + 1) y c
faults-one start y c = (let e : start + 0 + 1 ≡ start + 1 = omega arith in ap (λ (n : ℕ). constraint_fault n y c) e)

-- which passes on its way to the reduction
pub fault-reduced : (number : ℕ) (y : Dynamics) (c : Constraint) → row_fault y.motion.dofs number c ≡ None
    → constraint_fault number y c ≡ reduction_fault number y c.soft c.r c.jacobian
unfolding constraint_fault
fault-reduced number y c h = ap (λ x. or_first x (reduction_fault number y c.soft c.r c.jacobian)) h

-- or doesn't
pub fault-stops : (number : ℕ) (y : Dynamics) (c : Constraint) (e : OutOfRange) → Some e ≡ row_fault y.motion.dofs number c → Some e ≡ constraint_fault number y c
unfolding constraint_fault
fault-stops number y c e h = ap (λ x. or_first x (reduction_fault number y c.soft c.r c.jacobian)) h

-- ---- the list and the table
pub list-more : (y : Dynamics) (cs : List Constraint) (c : Constraint) → row_list y (cs ++ c ∷ []) ≡ row_list y cs ++ listed_row y c ∷ []
list-more y cs c = map-append (listed_row y) cs (c ∷ [])

pub jacobians-more : (nv : ℕ) (cs : List Constraint) (c : Constraint) (jac numbers : List (Number (Unit {0}) 32)) → HasJacobians nv cs jac
    → length numbers ≡ nv → number_at numbers ≡ c.jacobian → HasJacobians nv (cs ++ c ∷ []) (jac ++ numbers)
jacobians-more nv cs c jac numbers has width is = record {
  many = (let n : length (cs ++ c ∷ []) ≡ length cs + 1 = length-more cs c in
      let product : length (cs ++ c ∷ []) * nv ≡ (length cs + 1) * nv = ap (λ (k : ℕ). k * nv) n in
      omega (arith, length-append jac numbers, has.many, width, product));
  each = λ i k h l. elim (cases_eq i (length cs)) [
    | inl e ↦
        let at : i * nv + k ≡ length jac + k = omega (arith, has.many, ap (λ (j : ℕ). j * nv) e) in
        ap (number_at (jac ++ numbers)) at ∙ ap (λ x. x.mid) (get_or-append-add jac numbers k (plain {F = 32} (pos 0)))
        ∙ ap (λ (f : ℕ → ℤ). f k) is ∙ ap (λ x. x.jacobian k) (sym (ap (constraint (cs ++ c ∷ [])) e ∙ constraint-last cs c))
    | inr e ↦
        let before : i < length cs = omega (arith, length-more cs c) in
        let within : i * nv + k < length jac = omega (arith, has.many, mul-add-lt i nv k (length cs) before l) in
        ap (λ x. x.mid) (get_or_append_left jac numbers (plain {F = 32} (pos 0)) (i * nv + k) within)
        ∙ has.each i k before l ∙ ap (λ x. x.jacobian k) (sym (constraint-before cs c i before))
  ];
}

-- ---- the dual
-- the rows before are the same
module _ (nv : ℕ) (y : Dynamics) (cs : List Constraint) (c : Constraint) where
  same-before : (d : Dual) → HasEntries nv (length cs) (is_active y cs) (entry_at_place y cs) d
      → HasEntries nv (length cs) (is_active y (cs ++ c ∷ [])) (entry_at_place y (cs ++ c ∷ [])) d
  same-before d has =
      entries-ext nv (length cs) (is_active y cs) (is_active y (cs ++ c ∷ [])) (entry_at_place y cs) (entry_at_place y (cs ++ c ∷ [])) d
      (λ i h. ap (λ x. not (is_left_out y x)) (sym (constraint-before cs c i h))) (λ i h. ap (entry_of y) (sym (constraint-before cs c i h))) has

  active-last : is_active y (cs ++ c ∷ []) (length cs) ≡ not (is_left_out y c)
  active-last = ap (λ x. not (is_left_out y x)) (constraint-last cs c)

  entry-last : entry_at_place y (cs ++ c ∷ []) (length cs) ≡ entry_of y c
  entry-last = ap (entry_of y) (constraint-last cs c)

  -- an idle row
  pub dual-idle : (d : Dual) → is_left_out y c ≡ true → HasEntries nv (length cs) (is_active y cs) (entry_at_place y cs) d
      → HasEntries nv (length cs + 1) (is_active y (cs ++ c ∷ [])) (entry_at_place y (cs ++ c ∷ [])) d
  dual-idle d idle has =
      entries-skip nv (length cs) (is_active y (cs ++ c ∷ [])) (entry_at_place y (cs ++ c ∷ [])) d (active-last ∙ ap not idle) (same-before d has)

  -- one that isn't
  pub dual-active : (number : ℕ) (numbers : List (Number (Unit {0}) 24)) (old new : Dual) → is_left_out y c ≡ false → number ≡ length cs + 1
      → ((j : ℕ) → j < nv → number_at numbers j ≡ reduced y c.jacobian j)
      → IsPushed numbers (active_entry number y.motion (diagonal y c.jacobian) (row_of false c) c.jacobian) old new
      → HasEntries nv (length cs) (is_active y cs) (entry_at_place y cs) old
      → HasEntries nv (length cs + 1) (is_active y (cs ++ c ∷ [])) (entry_at_place y (cs ++ c ∷ [])) new
  unfolding entry_of
  dual-active number numbers old new active at g put has =
      let e : entry_at_place y (cs ++ c ∷ []) (length cs) ≡ entry_of y c = entry-last in
      entries-push nv (length cs) (is_active y (cs ++ c ∷ [])) (entry_at_place y (cs ++ c ∷ [])) numbers
      (active_entry number y.motion (diagonal y c.jacobian) (row_of false c) c.jacobian) old new (active-last ∙ ap not active) (same-before old has) put
      (λ j h. g j h ∙ ap (λ x. x.g j) (sym e)) (ap (λ x. x.r) (sym e)) (ap (λ x. x.b) (sym e))
      (bound-force c.low ∙ ap (λ x. x.low) (sym e)) (bound-force c.high ∙ ap (λ x. x.high) (sym e)) at
    where
      bound-force : (x : Option ℤ) → bound (force x) ≡ x
      bound-force None = refl
      bound-force (Some n) = refl

-- ---- all three
pub taken-more : (m : Model) (y : Dynamics) (cs : List Constraint) (c : Constraint) (rows rows' : Rows) (old new : Dual) (number : ℕ)
    (jacobian : List (Number (Unit {0}) 32)) (numbers : List (Number (Unit {0}) 24)) → HasTaken m y cs rows old
    → number ≡ length rows.list.list + 1 → length jacobian ≡ m.nv → number_at jacobian ≡ c.jacobian
    → rows'.list.list ≡ rows.list.list ++ listed_row y c ∷ [] → rows'.jac.list ≡ rows.jac.list ++ jacobian
    → ((j : ℕ) → j < m.nv → number_at numbers j ≡ reduced y c.jacobian j)
    → IsHeld (row_entry number y (row_of false c) c.jacobian) numbers old new → HasTaken m y (cs ++ c ∷ []) rows' new
taken-more m y cs c rows rows' old new number jacobian numbers has at width is list jac g held = record {
  listed = list ∙ ap (λ xs. xs ++ listed_row y c ∷ []) has.listed ∙ sym (list-more y cs c);
  jacobians = subst (HasJacobians m.nv (cs ++ c ∷ [])) (sym jac) (jacobians-more m.nv cs c rows.jac.list jacobian has.jacobians width is);
  entries = subst (λ (n : ℕ). HasEntries m.nv n (is_active y (cs ++ c ∷ [])) (entry_at_place y (cs ++ c ∷ [])) new) (sym (length-more cs c)) (both (is_left_out y c) refl held);
}
  where
    place : number ≡ length cs + 1
    place = (let e : length rows.list.list ≡ length cs = ap length has.listed ∙ length-map cs (listed_row y) in omega (arith, e))

    both : (b : Bool) → is_left_out y c ≡ b → IsHeld (cond b None (Some (active_entry number y.motion (diagonal y c.jacobian) (row_of false c) c.jacobian))) numbers old new
        → HasEntries m.nv (length cs + 1) (is_active y (cs ++ c ∷ [])) (entry_at_place y (cs ++ c ∷ [])) new
    both true e h = dual-idle m.nv y cs c new e (subst (HasEntries m.nv (length cs) (is_active y cs) (entry_at_place y cs)) (sym h) has.entries)
    both false e h = dual-active m.nv y cs c number numbers old new e place g h has.entries

-- ---- a call that takes one constraint, of which the row and the Jacobian are given
fault-of : (y : Dynamics) (c : Constraint) (row : Row) (n number : ℕ) (j : ℕ → ℤ) (r : Option OutOfRange) → row ≡ row_of false c → j ≡ c.jacobian → number ≡ n + 1
    → row_fault y.motion.dofs (n + 1) c ≡ None → r ≡ reduction_fault number y row.soft row.r.mid j → r ≡ faults_from n y (c ∷ [])
fault-of y c row n number j r is whole at passed first =
    first ∙ ap (λ (k : ℕ). reduction_fault k y row.soft row.r.mid j) at ∙ ap (λ (x : Row). reduction_fault (n + 1) y x.soft x.r.mid j) is
    ∙ ap (reduction_fault (n + 1) y c.soft c.r) whole ∙ sym (fault-reduced (n + 1) y c passed) ∙ sym (faults-one n y c)

-- it is refused
pub one-refused : (m : Model) (y : Dynamics) (c : Constraint) (row : Row) (rows : Rows) (d : Dual) (number : ℕ) (j : ℕ → ℤ) (e : OutOfRange) → CanTake m y.pivot rows d
    → row ≡ row_of false c → j ≡ c.jacobian → number ≡ length rows.list.list + 1 → row_fault y.motion.dofs (length rows.list.list + 1) c ≡ None
    → Some e ≡ reduction_fault number y row.soft row.r.mid j → HasAdded m y (c ∷ []) (Some e) rows rows d d
one-refused m y c row rows d number j e open_ is whole at passed first =
    added-refused m y rows d (c ∷ []) e open_ (fault-of y c row (length rows.list.list) number j (Some e) is whole at passed first)

-- it is refused before that
pub one-out : (m : Model) (y : Dynamics) (c : Constraint) (rows : Rows) (d : Dual) (number : ℕ) (e : OutOfRange) → CanTake m y.pivot rows d → number ≡ length rows.list.list + 1
    → Some e ≡ row_fault y.motion.dofs number c → HasAdded m y (c ∷ []) (Some e) rows rows d d
one-out m y c rows d number e open_ at first =
    added-refused m y rows d (c ∷ []) e open_
    (fault-stops (length rows.list.list + 1) y c e (first ∙ ap (λ (k : ℕ). row_fault y.motion.dofs k c) at) ∙ sym (faults-one (length rows.list.list) y c))

-- it is taken
none-idle : (b : Bool) (x : DualRow) → is_none (cond b None (Some x)) ≡ b
none-idle true x = refl
none-idle false x = refl

pub none-some : (e : Option DualRow) (b : Bool) → is_some e ≡ not b → b ≡ is_none e
none-some None true h = refl
none-some None false h = cc
none-some (Some x) true h = cc
none-some (Some x) false h = refl

held-few : (e : Option DualRow) (g : List (Number (Unit {0}) 24)) (old new : Dual) → IsHeld e g old new → new.m ≤ old.m + 1
held-few None g old new h = omega (arith, ap (λ x. x.m) h)
held-few (Some row) g old new h = omega (arith, h.count)

pub one-taken : (m : Model) (y : Dynamics) (c : Constraint) (row : Row) (rows rows' : Rows) (old new : Dual) (number : ℕ) (idle : Bool) (entry : Option DualRow)
    (jacobian : List (Number (Unit {0}) 32)) (numbers : List (Number (Unit {0}) 24)) → CanTake m y.pivot rows old
    → row ≡ row_of false c → number_at jacobian ≡ c.jacobian → length jacobian ≡ m.nv → number ≡ length rows.list.list + 1
    → row_fault y.motion.dofs (length rows.list.list + 1) c ≡ None → None ≡ reduction_fault number y row.soft row.r.mid (number_at jacobian)
    → entry ≡ row_entry number y row (number_at jacobian) → ((k : ℕ) → k < m.nv → number_at numbers k ≡ reduced y (number_at jacobian) k) → idle ≡ is_none entry
    → rows'.list ≡ record { list = rows.list.list ++ (record row { idle = idle }) ∷ []; most = rows.list.most }
    → rows'.jac ≡ record { list = rows.jac.list ++ jacobian; most = rows.jac.most }
    → rows'.row ≡ rows.row → rows'.reduced ≡ rows.reduced → IsHeld entry numbers old new → HaveSameRoom old new → IsSolvable new
    → HasAdded m y (c ∷ []) None rows rows' old new
one-taken m y c row rows rows' old new number idle entry jacobian numbers open_ is whole width at passed first value g none list jac same_row same_reduced held room solvable = record {
  open_ = record {
    list_room = record {
      list = ap (λ x. x.most) list ∙ open_.list_room.list;
      jac = ap (λ x. x.most) jac ∙ open_.list_room.jac;
      row = ap length same_row ∙ open_.list_room.row;
      reduced = ap length same_reduced ∙ open_.list_room.reduced;
    };
    dual_room = record {
      nv = room.nv ∙ open_.dual_room.nv;
      place = room.place ∙ open_.dual_room.place;
      g = room.g ∙ open_.dual_room.g;
      diag = room.diag ∙ open_.dual_room.diag;
      r = room.r ∙ open_.dual_room.r;
      b = room.b ∙ open_.dual_room.b;
      low = room.low ∙ open_.dual_room.low;
      high = room.high ∙ open_.dual_room.high;
    };
    solvable = solvable;
    roots = subst (HasRoots y.pivot) (sym same_row) open_.roots;
    whole = (let l : length rows'.jac.list ≡ length rows.jac.list + length jacobian = ap (λ x. length x.list) jac ∙ length-append rows.jac.list jacobian in
        let product : length rows'.list.list * m.nv ≡ (length rows.list.list + 1) * m.nv = ap (λ (k : ℕ). k * m.nv) one_more in
        omega (arith, l, width, product, open_.whole));
    few = omega (arith, one_more, open_.few, held-few entry numbers old new held);
  };
  first = fault-of y c row (length rows.list.list) number (number_at jacobian) None is whole at passed first;
  count = λ _. one_more;
  taken = λ _ cs has.
      taken-more m y cs c rows rows' old new number jacobian numbers has at width whole (ap (λ x. x.list) list ∙ ap (λ x. rows.list.list ++ x ∷ []) same_listed)
      (ap (λ x. x.list) jac) (λ k h. g k h ∙ ap (λ f. reduced y f k) whole) (subst (λ e. IsHeld e numbers old new) entry_is held);
}
  where
    one_more : length rows'.list.list ≡ length rows.list.list + 1
    one_more = ap (λ (x : Held Row). length x.list) list ∙ length-append rows.list.list ((record row { idle = idle }) ∷ [])

    entry_is : entry ≡ row_entry number y (row_of false c) c.jacobian
    entry_is = value ∙ ap₂ (row_entry number y) is whole

    idle_is : idle ≡ is_left_out y c
    idle_is = none ∙ ap is_none entry_is ∙ none-idle (is_left_out y c) (active_entry number y.motion (diagonal y c.jacobian) (row_of false c) c.jacobian)

    same_listed : record row { idle = idle } ≡ listed_row y c
    same_listed = ap₂ (λ (r : Row) (b : Bool). record r { idle = b }) is idle_is
