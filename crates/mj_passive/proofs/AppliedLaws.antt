-- The forces at the dofs, and the first number out of range, from what was added up.
use Rattle.std.proofs.Common.{◌≡◌, ℕ, suc, ◌+◌, ◌-◌, ◌^◌, ◌<◌, ◌≤◌, Bool, true, false, ℤ, ◌+ℤ◌, ◌-ℤ◌, ◌*ℤ◌, unsigned_abs, List, length, None, refl, sym, ap, ap₂, ◌∙◌, subst, arith}
use Rattle.std.proofs.lemmas.Bool.{leb-true}
use Rattle.std.proofs.lemmas.Int.{ints}
use Rattle.fx_whole.specs.First.{first_to}
use Rattle.fx_whole.specs.Sums.{sum_to, when}
use Rattle.fx_whole.proofs.FirstLaws.{first_ext, first_none, or_both}
use Rattle.fx_whole.proofs.SumLaws.{sum_to-ext, when-true}
use Rattle.fx_num.specs.Settled.{settled_mid}
use Rattle.fx_num.specs.declared.number.Number.{Number}
use Rattle.mj_types.specs.declared.carriers.Applied.{Applied}
use Rattle.mj_types.specs.declared.model.Model.{Model}
use Rattle.mj_types.specs.declared.state.State.{State}
use Rattle.mj_types.specs.declared.parts.Dof.{Dof}
use Rattle.mj_types.specs.declared.parts.Joint.{Joint}
use Rattle.mj_types.specs.declared.range.Quantity.{Quantity}
use Rattle.mj_types.specs.declared.range.Quantity.TheVariants as kind
use Rattle.mj_types.specs.Applieds.{AreApplied}
use Rattle.mj_types.specs.Control.{Control}
use Rattle.mj_types.specs.Lawful.{IsUpTo, is_scalar}
use Rattle.mj_types.specs.Parts.{joint, dof, tendon, number_at}
use Rattle.mj_types.specs.Ranges.{unless, limited, is_within}
use Rattle.mj_types.specs.Rooms.{AppliedRoom}
use Rattle.mj_passive.specs.Forces.{q_at, joint_motor, tendon_motor, tendon_length, tendon_rate, tension_from, pull, pull_from, tendon_pull, joint_force, tau_of, added_at, stretch_fault, tendon_fault_from, tendon_fault, tau_fault}
use Rattle.mj_passive.specs.Taken.{HasStretches}

-- ---- one dof
pub up_to : (n : Number (Unit {0}) 32) (limit : ℕ) → IsUpTo n limit → unsigned_abs n.mid ≤ limit
up_to n limit h = omega (arith, ints, h.least, h.most)

pub joint_force-is : (m : Model) (s : State) (number : ℕ) (a : Joint) (added raw stretch q : ℤ) → joint m.joints (number - 1) ≡ a → is_scalar a.kind ≡ true → q ≡ q_at m s number
    → stretch ≡ q -ℤ a.springref.mid → raw ≡ added -ℤ a.stiffness.mid *ℤ stretch → raw ≡ when (is_scalar (joint m.joints (number - 1)).kind) (joint_force m s added number)
unfolding joint_force
joint_force-is m s number a added raw stretch q e k f g h =
    h ∙ ap (λ (x : ℤ). added -ℤ a.stiffness.mid *ℤ x) (g ∙ ap (λ (x : ℤ). x -ℤ a.springref.mid) f)
    ∙ ap (λ (x : Joint). added -ℤ x.stiffness.mid *ℤ (q_at m s number -ℤ x.springref.mid)) (sym e)
    ∙ sym (when-true (is_scalar (joint m.joints (number - 1)).kind) (joint_force m s added number) (ap (λ (x : Joint). is_scalar x.kind) e ∙ k))

pub tau-is : (m : Model) (s : State) (d : ℕ) (x : Dof) (a : Joint) (v : Number (Unit {0}) 32) (added force raw : ℤ) → dof m.dofs d ≡ x → joint m.joints (x.joint - 1) ≡ a
    → v.mid ≡ number_at s.v d → force ≡ when (is_scalar (joint m.joints (x.joint - 1)).kind) (joint_force m s added x.joint)
    → raw ≡ force -ℤ a.damping.mid *ℤ v.mid → settled_mid raw 32 ≡ tau_of m s added d
unfolding tau_of
tau-is m s d x a v added force raw e f g h k =
    ap (λ (n : ℤ). settled_mid n 32)
    (k ∙ ap₂ (λ (y : ℤ) (z : ℤ). y -ℤ a.damping.mid *ℤ z) h g
    ∙ ap (λ (b : Joint). when (is_scalar (joint m.joints (x.joint - 1)).kind) (joint_force m s added x.joint) -ℤ b.damping.mid *ℤ number_at s.v d) (sym f)
    ∙ ap (λ (y : Dof). when (is_scalar (joint m.joints (y.joint - 1)).kind) (joint_force m s added y.joint) -ℤ (joint m.joints (y.joint - 1)).damping.mid *ℤ number_at s.v d) (sym e))

-- ---- from the sums of motors and of tendons
abbrev pub AreMotorSums : Model → List Control → (ℕ → ℤ) → Type 0
AreMotorSums m controls motors = (t : ℕ) → t < length m.tendons → motors t ≡ sum_to (length m.motors) (tendon_motor m controls (suc t))

pub tendon_faults-are : (m : Model) (s : State) (controls : List Control) (motors : ℕ → ℤ) → AreMotorSums m controls motors
    → first_to (length m.tendons) (λ t. tendon_fault_from m s t (motors t)) ≡ first_to (length m.tendons) (tendon_fault m s controls)
tendon_faults-are m s controls motors h =
    first_ext (length m.tendons) (λ t. tendon_fault_from m s t (motors t)) (tendon_fault m s controls) (λ t l. ap (λ (x : ℤ). tendon_fault_from m s t x) (h t l))

pub added-is : (m : Model) (s : State) (controls : List Control) (motors : ℕ → ℤ) (number : ℕ) (x y : ℤ) → AreMotorSums m controls motors
    → x ≡ y +ℤ sum_to (length m.tendons) (pull_from m s number motors) → y ≡ sum_to (length m.motors) (joint_motor m controls number)
    → x ≡ added_at m s controls number
added-is m s controls motors number x y h e f =
    e ∙ ap₂ (λ (a b : ℤ). a +ℤ b) f
    (sum_to-ext (length m.tendons) (pull_from m s number motors) (tendon_pull m s controls number)
    (λ t l. ap (λ (z : ℤ). pull (tendon m.tendons t).terms (tension_from m s t z) number) (h t l)))

abbrev pub AreAdded : Model → State → List Control → (ℕ → ℤ) → Type 0
AreAdded m s controls added = (d : ℕ) → d < m.nv → added d ≡ added_at m s controls (dof m.dofs d).joint

pub tau_faults-are : (m : Model) (s : State) (controls : List Control) (added : ℕ → ℤ) → AreAdded m s controls added
    → first_to m.nv (λ d. limited kind.Applied (d + 1) (2 ^ 52) (tau_of m s (added d) d)) ≡ first_to m.nv (tau_fault m s controls)
tau_faults-are m s controls added h =
    first_ext m.nv (λ d. limited kind.Applied (d + 1) (2 ^ 52) (tau_of m s (added d) d)) (tau_fault m s controls)
    (λ d l. ap (λ (x : ℤ). limited kind.Applied (d + 1) (2 ^ 52) (tau_of m s x d)) (h d l))

-- ---- ranges
unrefused : (good : Bool) (what : Quantity) (n : ℕ) → unless good what n ≡ None → good ≡ true
unrefused true what n e = refl
unrefused false what n e = cc

small : (what : Quantity) (n : ℕ) (x : ℤ) → limited what n (2 ^ 52) x ≡ None → unsigned_abs x ≤ 2 ^ 52
small what n x e = leb-true (unsigned_abs x) (2 ^ 52) (unrefused (is_within (2 ^ 52) x) what n e)

pub are_applied : (m : Model) (s : State) (motors added : ℕ → ℤ) (a : Applied) → AppliedRoom m a → HasStretches m s (length m.tendons) a
    → ((d : ℕ) → d < m.nv → number_at a.tau d ≡ tau_of m s (added d) d)
    → first_to (length m.tendons) (λ t. tendon_fault_from m s t (motors t)) ≡ None
    → first_to m.nv (λ d. limited kind.Applied (d + 1) (2 ^ 52) (tau_of m s (added d) d)) ≡ None → AreApplied m a
are_applied m s motors added a room has is e f = record {
  room = room;
  tau = λ d h. subst (λ (x : ℤ). unsigned_abs x ≤ 2 ^ 52) (sym (is d h))
      (small kind.Applied (d + 1) (tau_of m s (added d) d) ((first_none m.nv (λ d. limited kind.Applied (d + 1) (2 ^ 52) (tau_of m s (added d) d))).0 f d h));
  length_ = λ t h. subst (λ (x : ℤ). unsigned_abs x ≤ 2 ^ 52) (sym (has.lengths t h)) (small kind.TendonLength (t + 1) (tendon_length m s t) (passed t h).0);
  rate = λ t h. subst (λ (x : ℤ). unsigned_abs x ≤ 2 ^ 52) (sym (has.rates t h)) (small kind.TendonLength (t + 1) (tendon_rate m s t) (passed t h).1);
}
  where
    passed : (t : ℕ) → t < length m.tendons → (limited kind.TendonLength (t + 1) (2 ^ 52) (tendon_length m s t) ≡ None) × (limited kind.TendonLength (t + 1) (2 ^ 52) (tendon_rate m s t) ≡ None)
    passed t h =
        or_both (limited kind.TendonLength (t + 1) (2 ^ 52) (tendon_length m s t)) (limited kind.TendonLength (t + 1) (2 ^ 52) (tendon_rate m s t))
        (or_both (stretch_fault m s t) (limited kind.TendonForce (t + 1) (2 ^ 52) (tension_from m s t (motors t)))
        ((first_none (length m.tendons) (λ t. tendon_fault_from m s t (motors t))).0 e t h)).0
