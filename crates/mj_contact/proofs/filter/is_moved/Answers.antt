use Rattle.std.proofs.Common.{◌≡◌, ℕ, ◌+◌, ◌<◌, Bool, true, false, sym, ap, ◌∙◌, arith, inl, inr}
use Rattle.std.specs.Prelude.{nat_lt}
use Rattle.std.proofs.lemmas.Bool.{cases_eq, lt-ltb}
use Rattle.fx_whole.specs.Counting.{count_to}
use Rattle.fx_whole.proofs.CountLaws.{count_to-below, count_to-none}
use Rattle.mj_tree.specs.Tree.{moves}
use Rattle.mj_types.specs.Parts.{parent_of, body_of}
use Rattle.mj_contact.proofs.filter.is_moved.Goals as goal

some_passes : (n i : ℕ) (p : ℕ → Bool) → i < n → p i ≡ true → true ≡ nat_lt 0 (count_to n p)
some_passes n i p h e = let some : count_to i p < count_to n p = count_to-below i n p h e in sym (lt-ltb 0 (count_to n p) (omega arith))

none_passes : (n : ℕ) (p : ℕ → Bool) → ((i : ℕ) → i < n → p i ≡ false) → false ≡ nat_lt 0 (count_to n p)
none_passes n p h = sym (ap (nat_lt 0) (count_to-none n p h))

one_more : (n : ℕ) (p : ℕ → Bool) → ((i : ℕ) → i < n → p i ≡ false) → p n ≡ false → (i : ℕ) → i < n + 1 → p i ≡ false
one_more n p h e i l = elim (cases_eq i n) [ inl q ↦ ap p q ∙ e | inr q ↦ h i (omega arith) ]

pub returns-then-moves : goal.returns-then-moves
returns-then-moves c =
    let m = c.args.model.now in
    some_passes m.nv c.loop-d.d (λ d. moves (parent_of m.bodies) (body_of m.dofs) d c.args.b) c.loop-d-test.true (sym c.moves.ensures ∙ c.if-moves.true)

pub loop-d-preserved : goal.loop-d-preserved
loop-d-preserved c =
    let m = c.args.model.now in
    one_more c.loop-d.d (λ d. moves (parent_of m.bodies) (body_of m.dofs) d c.args.b) c.loop-d.invariant (sym c.moves.ensures ∙ c.if-moves.false)

pub returns : goal.returns
returns c =
    let m = c.args.model.now in
    none_passes m.nv (λ d. moves (parent_of m.bodies) (body_of m.dofs) d c.args.b) (λ d h. c.loop-d.invariant d (omega arith))
