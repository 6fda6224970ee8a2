-- The edges of a contact.
use Rattle.std.proofs.Common.{◌≡◌, ℕ, ◌+◌, ◌<◌, ◌≤◌, Bool, true, false, cond, [], ◌∷◌, length, Some, sym, ap, ◌∙◌, arith}
use Rattle.mj_types.specs.declared.carriers.Contact.{Contact}
use Rattle.mj_types.specs.declared.dual.Dual.{Dual}
use Rattle.mj_types.specs.declared.model.Model.{Model}
use Rattle.mj_types.specs.declared.range.OutOfRange.{OutOfRange}
use Rattle.mj_types.specs.declared.rows.Rows.{Rows}
use Rattle.mj_types.specs.Placed.{Placing}
use Rattle.mj_rows.specs.Constraint.{levers_fault, row_fault}
use Rattle.mj_rows.specs.Edges.{lever_of, edge_of, edge_count, first_edge, edges}
use Rattle.mj_rows.specs.Mixing.{first_geom, second_geom, is_frictionless}
use Rattle.mj_rows.proofs.EdgeLaws.{edge_refused}
use Rattle.mj_dual.specs.Reductions.{Dynamics}
use Rattle.mj_dual.specs.Taking.{CanTake, HasAdded}
use Rattle.mj_dual.proofs.RowLaws.{one-out}
use Rattle.mj_dual.proofs.TakingLaws.{turn-start, turn-stop}

one_or_none : (b : Bool) → cond {A = ℕ} b 0 1 ≤ 1
one_or_none true = omega arith
one_or_none false = omega arith

some_edges : (b : Bool) → 0 < cond {A = ℕ} b 1 4
some_edges true = omega arith
some_edges false = omega arith

pub first_small : (m : Model) (c : Contact) → first_edge m c ≤ 1
first_small m c = one_or_none (is_frictionless (first_geom m c) (second_geom m c))

-- a lever's velocity that is out of range is a fault of the contact's first row
pub contact-out : (m : Model) (y : Dynamics) (x : Placing) (c : Contact) (k : ℕ) (rows : Rows) (d : Dual) (number : ℕ) (e : OutOfRange) → CanTake m y.pivot rows d
    → number ≡ length rows.list.list + 1 → y.motion.dofs ≡ m.nv → Some e ≡ levers_fault m.nv number (lever_of m x c) → HasAdded m y (edges m x c k) (Some e) rows rows d d
contact-out m y x c k rows d number e open_ at wide first =
    let part = λ (i : ℕ). edge_of m x c k (first_edge m c + i) ∷ [] in
    turn-stop m y rows rows rows d d d 0 (edge_count m c) part e (some_edges (is_frictionless (first_geom m c) (second_geom m c))) (turn-start m y rows d part open_)
    (one-out m y (edge_of m x c k (first_edge m c + 0)) rows d number e open_ at
    (edge_refused m x c k (first_edge m c + 0) number e first ∙ ap (λ (n : ℕ). row_fault n number (edge_of m x c k (first_edge m c + 0))) (sym wide)))
