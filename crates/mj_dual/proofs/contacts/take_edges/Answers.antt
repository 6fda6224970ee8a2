use Rattle.std.proofs.Common.{◌≡◌, ℕ, ◌+◌, ◌<◌, None, refl, [], ◌∷◌, length, subst, ap, ◌∙◌, arith}
use Rattle.std.proofs.lemmas.Result.{err_from_is_err_and}
use Rattle.fx_whole.specs.Joined.{joined}
use Rattle.mj_types.specs.Placed.{placing_of}
use Rattle.mj_rows.specs.Edges.{edge_of, first_edge, edge_count}
use Rattle.mj_dual.specs.Reductions.{dynamics}
use Rattle.mj_dual.specs.Taking.{HasAdded}
use Rattle.mj_dual.proofs.ContactLaws.{first_small}
use Rattle.mj_dual.proofs.TakingLaws.{added-same, turn-start, turn-more, turn-stop, turn-spare}
use Rattle.mj_dual.proofs.contacts.take_edges.Goals as goal

pub loop-i-init : goal.loop-i-init
loop-i-init c = record { added = turn-start c.args.model.now (dynamics c.args.model.now c.args.state.now c.args.factor.now c.args.smooth.now) c.args.rows.now c.args.out.now (λ (i : ℕ). edge_of c.args.model.now (placing_of c.args.frames.now) c.args.contact.now c.args.k (first_edge c.args.model.now c.args.contact.now + i) ∷ []) c.requires.open_ }

pub edge_number-requires-clause-first : goal.edge_number-requires-clause-first
edge_number-requires-clause-first c = omega (arith, c.first_edge-first.ensures, first_small c.args.model.now c.args.contact.now)

pub take_edge-requires-clause-open_ : goal.take_edge-requires-clause-open_
take_edge-requires-clause-open_ c = c.loop-i.invariant.added.open_

pub take_edge-requires-clause-spare : goal.take_edge-requires-clause-spare
take_edge-requires-clause-spare c =
    let there : c.loop-i.i < edge_count c.args.model.now c.args.contact.now = omega (arith, c.edge_count-i-end.ensures.value) in
    turn-spare (length c.args.rows.now.list.list) (length c.loop-i.rows.list.list) c.args.model.now.njmax c.loop-i.i (edge_count c.args.model.now c.args.contact.now) (λ (i : ℕ). edge_of c.args.model.now (placing_of c.args.frames.now) c.args.contact.now c.args.k (first_edge c.args.model.now c.args.contact.now + i) ∷ [])
    c.requires.spare (c.loop-i.invariant.added.count refl) there

pub returns-in_err-take_edge : goal.returns-in_err-take_edge
returns-in_err-take_edge c =
    let there : c.loop-i.i < edge_count c.args.model.now c.args.contact.now = omega (arith, c.edge_count-i-end.ensures.value) in
    let number = c.edge_number.ensures ∙ ap (λ (n : ℕ). n + c.loop-i.i) c.first_edge-first.ensures in
    let p = err_from_is_err_and c.from_residual.result c.from_residual.ensures.1 in
    rw (p.1, p.2)
    (turn-stop c.args.model.now (dynamics c.args.model.now c.args.state.now c.args.factor.now c.args.smooth.now) c.args.rows.now c.loop-i.rows c.take_edge.new.rows c.args.out.now c.loop-i.out c.take_edge.new.out
    c.loop-i.i (edge_count c.args.model.now c.args.contact.now) (λ (i : ℕ). edge_of c.args.model.now (placing_of c.args.frames.now) c.args.contact.now c.args.k (first_edge c.args.model.now c.args.contact.now + i) ∷ []) _ there c.loop-i.invariant.added
    (added-same c.args.model.now (dynamics c.args.model.now c.args.state.now c.args.factor.now c.args.smooth.now) c.loop-i.rows c.take_edge.new.rows c.loop-i.out c.take_edge.new.out _ _ _
    (ap (λ (n : ℕ). edge_of c.args.model.now (placing_of c.args.frames.now) c.args.contact.now c.args.k n ∷ []) number) c.in_err-take_edge.ensures))

pub loop-i-preserved : goal.loop-i-preserved
loop-i-preserved c =
    let number = c.edge_number.ensures ∙ ap (λ (n : ℕ). n + c.loop-i.i) c.first_edge-first.ensures in
    record {
      added = turn-more c.args.model.now (dynamics c.args.model.now c.args.state.now c.args.factor.now c.args.smooth.now) c.args.rows.now c.loop-i.rows c.take_edge.new.rows c.args.out.now c.loop-i.out c.take_edge.new.out
          c.loop-i.i (λ (i : ℕ). edge_of c.args.model.now (placing_of c.args.frames.now) c.args.contact.now c.args.k (first_edge c.args.model.now c.args.contact.now + i) ∷ []) None c.loop-i.invariant.added
          (added-same c.args.model.now (dynamics c.args.model.now c.args.state.now c.args.factor.now c.args.smooth.now) c.loop-i.rows c.take_edge.new.rows c.loop-i.out c.take_edge.new.out _ _ None
          (ap (λ (n : ℕ). edge_of c.args.model.now (placing_of c.args.frames.now) c.args.contact.now c.args.k n ∷ []) number) c.in_ok-take_edge.ensures);
    }

pub returns : goal.returns
returns c =
    let last : c.loop-i.i ≡ edge_count c.args.model.now c.args.contact.now = omega (arith, c.loop-i-test.false, c.loop-i.auto.i-end, c.edge_count-i-end.ensures.value) in
    subst (λ (k : ℕ). HasAdded c.args.model.now (dynamics c.args.model.now c.args.state.now c.args.factor.now c.args.smooth.now) (joined k (λ (i : ℕ). edge_of c.args.model.now (placing_of c.args.frames.now) c.args.contact.now c.args.k (first_edge c.args.model.now c.args.contact.now + i) ∷ [])) None c.args.rows.now c.loop-i.rows c.args.out.now c.loop-i.out)
    last c.loop-i.invariant.added
