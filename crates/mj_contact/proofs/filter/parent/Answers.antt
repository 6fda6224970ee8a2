use Rattle.std.proofs.Common.{◌≡◌, ℕ, zero, suc, ◌-◌, ◌<◌, List, sym, ap, ◌∙◌, arith}
use Rattle.mj_types.specs.declared.parts.Body.{Body}
use Rattle.mj_types.specs.Parts.{body, no_body, parent_of}
use Rattle.mj_contact.proofs.filter.parent.Goals as goal

parent_is : (bodies : List Body) (b : ℕ) → 0 < b → (body bodies (b - 1)).parent ≡ parent_of bodies b
parent_is bodies zero h = absurd (omega arith)
parent_is bodies (suc b) h = (let e : suc b - 1 ≡ b = omega arith in ap (λ (k : ℕ). (body bodies k).parent) e)

pub returns-else-b-eq0 : goal.returns-else-b-eq0
returns-else-b-eq0 c =
    sym (ap (λ (x : Body). x.parent) (c.entry.ensures no_body)) ∙ parent_is c.args.model.now.bodies c.args.b (grind arith)
