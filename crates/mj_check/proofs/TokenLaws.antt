-- Laws of the names of kinds, as an end line tells them.
use Rattle.std.proofs.Common.{◌≡◌, ◌∙◌, ℕ, List, [], ◌∷◌, Option, Some, IfSome, find, sym, ap, refl, subst}
use Rattle.std.specs.Str.{bytes_eq}
use Rattle.std.proofs.lemmas.Slice.Eq.{bytes_eq-Decides}
use Rattle.mj_types.specs.declared.range.Quantity.{Quantity}
use Rattle.mj_types.specs.declared.range.Quantity.TheVariants as kind
use Rattle.mj_types.specs.Ranges.{quantity_name}
use Rattle.mj_reading.specs.Reading.{IsToken}
use Rattle.mj_reading.proofs.ReadingLaws.{AreLetters, by_bool}
use Rattle.mj_check.specs.Sources.{IsKind, all_kinds, kind_named}

module _ (text : List ℕ) where
  named-so : (ks : List Quantity) → IfSome (find (λ k. bytes_eq text (quantity_name k)) ks) (λ k. text ≡ quantity_name k)
  named-so [] = tt
  named-so (k ∷ ks) = by_bool (bytes_eq text (quantity_name k)) (λ t. rw t ((bytes_eq-Decides text (quantity_name k)).0 t)) (λ f. rw f (named-so ks))

  abbrev AreKinds : List Quantity → Type 0
  AreKinds [] = Unit {0}
  AreKinds (k ∷ ks) = IsKind k × AreKinds ks

  named-kind : (ks : List Quantity) → AreKinds ks → IfSome (find (λ k. bytes_eq text (quantity_name k)) ks) IsKind
  named-kind [] h = tt
  named-kind (k ∷ ks) h = by_bool (bytes_eq text (quantity_name k)) (λ t. rw t h.0) (λ f. rw f (named-kind ks h.1))

named-only : (w : Quantity) → IsKind w → kind_named (quantity_name w) ≡ Some w
named-only kind.QuatNorm h = refl
named-only kind.FramePos h = refl
named-only kind.Arm h = refl
named-only kind.GeomNorm h = refl
named-only kind.Inertia h = refl
named-only kind.Column h = refl
named-only kind.Momentum h = refl
named-only kind.Mass h = refl
named-only kind.DofMotion h = refl
named-only kind.BodyMotion h = refl
named-only kind.Wrench h = refl
named-only kind.Bias h = refl
named-only kind.TendonLength h = refl
named-only kind.TendonForce h = refl
named-only kind.Applied h = refl
named-only kind.Pivot h = refl
named-only kind.Lower h = refl
named-only kind.Accel h = refl
named-only kind.Rows h = refl
named-only kind.Jacobian h = refl
named-only kind.Violation h = refl
named-only kind.Reduced h = refl
named-only kind.Regularizer h = refl
named-only kind.Reference h = refl
named-only kind.DualVector h = refl
named-only kind.Force h = refl
named-only kind.Reach h = refl
named-only kind.Cost h = refl
named-only kind.Shortfall h = refl
named-only kind.Box h = refl
named-only kind.Load h = refl
named-only kind.Velocity h = refl
named-only kind.Position h = refl
named-only kind.ErrorBound h = refl
named-only kind.InverseRate h = absurd h
named-only kind.InverseForce h = absurd h
named-only kind.InverseLoad h = absurd h

pub kind-letters : (w : Quantity) → IsKind w → AreLetters (quantity_name w)
kind-letters kind.QuatNorm h = refl
kind-letters kind.FramePos h = refl
kind-letters kind.Arm h = refl
kind-letters kind.GeomNorm h = refl
kind-letters kind.Inertia h = refl
kind-letters kind.Column h = refl
kind-letters kind.Momentum h = refl
kind-letters kind.Mass h = refl
kind-letters kind.DofMotion h = refl
kind-letters kind.BodyMotion h = refl
kind-letters kind.Wrench h = refl
kind-letters kind.Bias h = refl
kind-letters kind.TendonLength h = refl
kind-letters kind.TendonForce h = refl
kind-letters kind.Applied h = refl
kind-letters kind.Pivot h = refl
kind-letters kind.Lower h = refl
kind-letters kind.Accel h = refl
kind-letters kind.Rows h = refl
kind-letters kind.Jacobian h = refl
kind-letters kind.Violation h = refl
kind-letters kind.Reduced h = refl
kind-letters kind.Regularizer h = refl
kind-letters kind.Reference h = refl
kind-letters kind.DualVector h = refl
kind-letters kind.Force h = refl
kind-letters kind.Reach h = refl
kind-letters kind.Cost h = refl
kind-letters kind.Shortfall h = refl
kind-letters kind.Box h = refl
kind-letters kind.Load h = refl
kind-letters kind.Velocity h = refl
kind-letters kind.Position h = refl
kind-letters kind.ErrorBound h = refl
kind-letters kind.InverseRate h = absurd h
kind-letters kind.InverseForce h = absurd h
kind-letters kind.InverseLoad h = absurd h

kind-token : (text : List ℕ) → IsToken IsKind quantity_name text (kind_named text)
kind-token text = record {
  is = named-so text all_kinds;
  good = named-kind text all_kinds (tt, (tt, (tt, (tt, (tt, (tt, (tt, (tt, (tt, (tt, (tt, (tt, (tt, (tt, (tt, (tt, (tt, (tt, (tt, (tt, (tt, (tt, (tt, (tt, (tt, (tt, (tt, (tt, (tt, (tt, (tt, (tt, (tt, (tt, tt))))))))))))))))))))))))))))))))));
  only = λ w h e. subst (λ t. kind_named t ≡ Some w) (sym e) (named-only w h);
}

pub kind-found : (text told : List ℕ) (r s : Option Quantity) → s ≡ r → s ≡ kind_named told → told ≡ text → IsToken IsKind quantity_name text r
kind-found text told r s a b e = subst (λ (x : Option Quantity). IsToken IsKind quantity_name text x) (sym (ap kind_named e) ∙ sym b ∙ a) (kind-token text)
