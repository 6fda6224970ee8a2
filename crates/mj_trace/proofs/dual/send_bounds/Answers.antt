use Rattle.std.proofs.Common.{◌≡◌, ◌≢◌, inl, inr, ◌==◌, ◌++◌, ℕ, List, cond, [], ap}
use Rattle.std.proofs.lemmas.Bool.Decides.{eqb_tells}
use Rattle.mj_io.proofs.Sent.{sent-nothing}
use Rattle.mj_types.specs.Duals.{bound_at}
use Rattle.mj_trace.specs.Block.{bound_text}
use Rattle.mj_trace.proofs.Joining.{sent-as}
use Rattle.mj_trace.proofs.dual.send_bounds.Goals as goal

-- another format tells no bounds
none-told : (format : ℕ) (text : List ℕ) → format ≢ 2 → cond (format == 2) text [] ≡ []
none-told format text h = elim (eqb_tells format 2) [
  | inl p ↦ absurd (h p.1)
  | inr p ↦ ap (λ b. cond b text []) p.0
]

pub returns-else-format-eq2 : goal.returns-else-format-eq2
returns-else-format-eq2 g c =
    sent-as (none-told c.args.format (bound_text (bound_at c.args.dual.now.low c.args.i) ++ bound_text (bound_at c.args.dual.now.high c.args.i)) c.if-format-eq2.false)
    (sent-nothing g.S.Sink.holds g.S.Sink.faults c.args.sink.now c.args.page.now)
