-- The roots of bodies, and bodies that are made one after another.
use Rattle.std.proofs.Common.{◌≡◌, ℕ, zero, suc, ◌+◌, ◌-◌, ◌<◌, ◌≤◌, ◌==◌, cond, List, length, refl, sym, ap, ap₂, ◌∙◌, arith, add-one}
use Rattle.fx_whole.specs.Tables.{made}
use Rattle.fx_whole.proofs.TableLaws.{value-suc, made-is}
use Rattle.mj_types.specs.declared.parts.Body.{Body}
use Rattle.mj_types.specs.declared.parts.Joint.{Joint}
use Rattle.mj_types.specs.Parts.{body, no_body}
use Rattle.mj_types.specs.Lawful.{velocities_before}
use Rattle.mj_layout.specs.declared.layout.BodyParts.{BodyParts}
use Rattle.mj_layout.specs.Layout.{part, root, next_root, root_from, listed, placed_body, body_from, first_joint}
use Rattle.mj_layout.proofs.PlaceLaws.{listed-at}

-- a body's root is its parent's, or itself
pub root-next : (parts : List BodyParts) (b : ℕ) → (part parts b).body.parent ≤ b
    → root parts (suc b) ≡ cond ((part parts b).body.parent == 0) (suc b) (root parts (part parts b).body.parent)
root-next parts b h =
    ap (root parts) (sym (add-one b))
    ∙ value-suc 0 (next_root parts) b
    ∙ ap (λ (r : ℕ). cond ((part parts b).body.parent == 0) (suc b) r) (made-is 0 (next_root parts) b (part parts b).body.parent h)

-- read off the bodies made so far
pub root-made : (parts : List BodyParts) (made : List Body) (b parent : ℕ)
    → ((k : ℕ) → k < b → (body made k).root ≡ root parts (suc k)) → parent ≤ b
    → root_from made b parent ≡ cond (parent == 0) (suc b) (root parts parent)
root-made parts made b zero r h = refl
root-made parts made b (suc p) r h =
    let q : suc p - 1 ≡ p = omega arith in
    ap (λ (x : ℕ). cond (suc p == 0) (suc b) x) (ap (λ (k : ℕ). (body made k).root) q ∙ r p h)

made-root : (parts : List BodyParts) (joints : List Joint) (made : List Body) (b : ℕ) → made ≡ listed b (placed_body parts joints)
    → (k : ℕ) → k < b → (body made k).root ≡ root parts (suc k)
made-root parts joints made b e k h =
    ap (λ xs. (body xs k).root) e ∙ ap (λ (x : Body). x.root) (listed-at b (placed_body parts joints) k no_body h)

-- the next body is as it is placed
pub body-next : (parts : List BodyParts) (joints : List Joint) (made : List Body) (b place : ℕ) → made ≡ listed b (placed_body parts joints)
    → place ≡ first_joint parts b → (part parts b).body.parent ≤ b → body_from parts joints made b place ≡ placed_body parts joints b
body-next parts joints made b place e at h =
    ap₂ (λ (r p : ℕ). record (part parts b).body {
      root = r;
      jntadr = p;
      jntnum = length (part parts b).joints;
      dofadr = velocities_before joints p;
      dofnum = velocities_before joints (p + length (part parts b).joints) - velocities_before joints p;
    })
    (root-made parts made b (part parts b).body.parent (made-root parts joints made b e) h ∙ sym (root-next parts b h)) at
