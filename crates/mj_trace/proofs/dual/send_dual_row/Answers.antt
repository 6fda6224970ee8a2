use Rattle.std.proofs.Common.{◌≡◌, ◌<◌, ◌++◌, None, ℕ, pos, List, [], length, refl, sym, ap, ap₂, ◌∙◌, codes, decimal}
use Rattle.fx_num.specs.declared.number.Number.{Number}
use Rattle.fx_whole.specs.Entries.{below}
use Rattle.fx_whole.proofs.EntryLaws.{below-within}
use Rattle.fx_whole.proofs.JoinedLaws.{joined-ext}
use Rattle.mj_io.proofs.Sent.{sent-then}
use Rattle.mj_types.specs.declared.dual.Dual.{Dual}
use Rattle.mj_types.specs.Duals.{entry_at}
use Rattle.mj_types.specs.Parts.{plain, number_at}
use Rattle.mj_types.specs.Problems.{problem, place}
use Rattle.mj_types.specs.StepValues.{dual_values}
use Rattle.mj_trace.specs.Block.{dual_row_text, dual_bounds_text}
use Rattle.mj_trace.specs.Lines.{line, spaced, numbers_text}
use Rattle.mj_trace.proofs.Joining.{sent-as}
use Rattle.mj_trace.proofs.dual.send_dual_row.Goals as goal

-- a row's numbers are those of its dual
numbers-are : (d : Dual) (i : ℕ) (row : List (Number (Unit {0}) 24)) → i < d.m → length row ≡ d.nv
    → ((k : ℕ) → k < d.nv → number_at row k ≡ entry_at d.nv d.g i k)
    → numbers_text (dual_values d).problem.nv ((dual_values d).problem.g i) ≡ numbers_text (length row) (number_at row)
numbers-are d i row h width same =
    ap (λ f. numbers_text d.nv f) (below-within (λ k. pos 0) d.m (λ a. below (pos 0) d.nv (entry_at d.nv d.g a)) i h)
    ∙ joined-ext d.nv (λ k. spaced (below (pos 0) d.nv (entry_at d.nv d.g i) k)) (λ k. spaced (number_at row k))
    (λ k p. ap spaced (below-within (pos 0) d.nv (entry_at d.nv d.g i) k p ∙ sym (same k p)))
    ∙ ap (λ n. numbers_text n (number_at row)) (sym width)

pub returns : goal.returns
unfolding dual_row_text
returns g c =
    let d = c.args.dual.now in
    let h = c.requires in
    let place_text = ap (λ n. codes "d " ++ decimal n) (below-within 0 d.m (place d) c.args.i h ∙ c.at.ensures 0) in
    let r_text = ap spaced (below-within (pos 0) d.m (problem d).r c.args.i h ∙ ap (λ x. x.raw) (c.entry.ensures (record { raw = pos 0 }))) in
    let b_text = ap spaced (below-within (pos 0) d.m (problem d).b c.args.i h ∙ ap (λ x. x.mid) (c.entry-2.ensures (plain (pos 0)))) in
    let bounds = ap₂ (λ a b. dual_bounds_text c.args.format a b) (below-within None d.m (problem d).low c.args.i h) (below-within None d.m (problem d).high c.args.i h) in
    let numbers = ap (λ t. line [] t) (numbers-are d c.args.i c.row.result.now h c.row.ensures.width c.row.ensures.numbers) in
    sent-then
    (sent-then
    (sent-then (sent-then (sent-as place_text c.send_counted.ensures) (sent-as r_text c.send_spaced_wide.ensures) refl) (sent-as b_text c.send_spaced.ensures) refl)
    (sent-as bounds c.send_bounds.ensures) refl)
    (sent-as numbers c.send_numbers_line.ensures) refl
