use Rattle.std.proofs.Common.{◌*◌, ap, sym, subst, ◌∙◌, take, drop}
use Rattle.mj_run.specs.declared.run.Controls.{Controls}
use Rattle.mj_run.specs.Controls.{Serves}
use Rattle.mj_run.proofs.ControlLaws.{taken-raws}
use Rattle.mj_run.proofs.run.Controls.at.Goals as goal

pub returns-in-Taped : goal.returns-in-Taped
returns-in-Taped c =
    let tape = c.in-Taped.tape in
    let P = λ (x : Controls). Serves x c.args.width c.args.steps in
    let serves = subst P c.in-Taped.is c.requires.serves in
    record {
      value = rw c.in-Taped.is
          (c.record_of.ensures ∙ ap (λ w. take w (drop (c.args.done * w) tape.values)) serves.0 ∙ sym (taken-raws c.args.width (c.args.done * c.args.width) tape.values));
    }
