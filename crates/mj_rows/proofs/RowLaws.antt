-- Rows whose Jacobian is written, and their faults.
use Rattle.std.proofs.Common.{◌≡◌, ℕ, ◌+◌, ◌^◌, ◌<◌, ◌≤◌, false, ℤ, unsigned_abs, List, length, Some, None, refl, sym, ap, ap₂, ◌∙◌, subst}
use Rattle.std.proofs.Math.Path.{fun_ext}
use Rattle.std.specs.Prelude.{neg_ℤ}
use Rattle.std.proofs.lemmas.Bool.{cond-true, le-leb}
use Rattle.fx_whole.proofs.FirstLaws.{first_none, or_pass, stop_first}
use Rattle.fx_num.specs.declared.number.Number.{Number}
use Rattle.mj_types.specs.declared.model.Model.{Model}
use Rattle.mj_types.specs.declared.parts.Equality.{Equality}
use Rattle.mj_types.specs.declared.parts.Tendon.{Tendon}
use Rattle.mj_types.specs.declared.range.OutOfRange.{OutOfRange}
use Rattle.mj_types.specs.declared.range.Quantity.TheVariants as kind
use Rattle.mj_types.specs.declared.rows.Row.{Row}
use Rattle.mj_types.specs.declared.rows.Source.TheVariants as source
use Rattle.mj_types.specs.declared.state.State.{State}
use Rattle.mj_types.specs.Parts.{equality, tendon, number_at}
use Rattle.mj_types.specs.Ranges.{is_within, limited}
use Rattle.mj_rows.specs.declared.limits.Extent.{Extent}
use Rattle.mj_rows.specs.Constraint.{Constraint, row_of, no_lever, violation_fault, levers_fault, jacobian_fault, row_fault}
use Rattle.mj_rows.specs.Joints.{one, at_joint, violation, equality_of, equality_slope, friction_of}
use Rattle.mj_rows.specs.Limits.{limit, above_least, below_greatest, joint_extent, low_limit, high_limit, tendon_extent, tendon_slope, tendon_low_limit, tendon_high_limit}
use Rattle.mj_rows.specs.Extents.{AreTerms}
use Rattle.mj_rows.specs.Working.{IsWritten}

-- ---- no fault
pub within_none : (limit number n : ℕ) (x : ℤ) → unsigned_abs x ≤ limit → limited kind.Jacobian number limit x ≡ None
within_none limit number n x h = cond-true (is_within limit x) None (Some (record { kind = kind.Jacobian; index = number })) (le-leb (unsigned_abs x) limit h)

pub jacobian_sound : (nv number : ℕ) (j : ℕ → ℤ) → ((d : ℕ) → unsigned_abs (j d) ≤ 2 ^ 48) → jacobian_fault nv number j ≡ None
jacobian_sound nv number j h = (first_none nv (λ d. limited kind.Jacobian number (2 ^ 48) (j d))).1 (λ d p. within_none (2 ^ 48) number 0 (j d) (h d))

pub levers_sound : (nv number : ℕ) → levers_fault nv number no_lever ≡ None
levers_sound nv number = (first_none {F = OutOfRange} nv (λ d. None)).1 (λ d p. refl)

pub small_of : (nv : ℕ) (c : Constraint) (xs : List (Number (Unit {0}) 32)) → IsWritten nv c xs → (d : ℕ) → unsigned_abs (c.jacobian d) ≤ 2 ^ 48
small_of nv c xs w d = subst (λ (j : ℕ → ℤ). unsigned_abs (j d) ≤ 2 ^ 48) w.whole (w.small d)

-- after the violation
pub sound_after : (nv number : ℕ) (c : Constraint) (xs : List (Number (Unit {0}) 32)) → IsWritten nv c xs → c.lever ≡ no_lever
    → violation_fault c.source number c.r ≡ None → row_fault nv number c ≡ None
sound_after nv number c xs w e v =
    let l : levers_fault nv number c.lever ≡ None = ap (levers_fault nv number) e ∙ levers_sound nv number in
    or_pass (violation_fault c.source number c.r) _ v
    ∙ or_pass (levers_fault nv number c.lever) (jacobian_fault nv number c.jacobian) l
    ∙ jacobian_sound nv number c.jacobian (small_of nv c xs w)

-- ---- a Jacobian that is written
pub written : (nv : ℕ) (c : Constraint) (xs : List (Number (Unit {0}) 32)) → length xs ≡ nv → ((d : ℕ) → number_at xs d ≡ c.jacobian d)
    → ((d : ℕ) → unsigned_abs (number_at xs d) ≤ 2 ^ 48) → IsWritten nv c xs
written nv c xs e f h = record { room = e; whole = fun_ext f; small = h }

-- ---- equalities
module _ (m : Model) (s : State) (e number : ℕ) (x : Equality) (is : equality m.equalities e ≡ x) where
  pub equality_row : (r : Row) → r ≡ row_of false (record {
    source = source.Equality (e + 1);
    r = violation m s x;
    soft = x.soft;
    low = None;
    high = None;
    lever = no_lever;
    jacobian = equality_slope m x;
  }) → r ≡ row_of false (equality_of m s e)
  unfolding equality_of
  equality_row r h =
      h
      ∙ ap (λ (y : Equality). row_of false (record {
        source = source.Equality (e + 1);
        r = violation m s y;
        soft = y.soft;
        low = None;
        high = None;
        lever = no_lever;
        jacobian = equality_slope m y;
      })) (sym is)

  pub equality_written : (xs : List (Number (Unit {0}) 32)) → length xs ≡ m.nv → ((d : ℕ) → number_at xs d ≡ equality_slope m x d)
      → ((d : ℕ) → unsigned_abs (number_at xs d) ≤ 2 ^ 48) → IsWritten m.nv (equality_of m s e) xs
  unfolding equality_of
  equality_written xs l f h = written m.nv (equality_of m s e) xs l (λ d. f d ∙ ap (λ (y : Equality). equality_slope m y d) (sym is)) h

  pub equality_refused : (o : OutOfRange) → Some o ≡ limited kind.Violation number (2 ^ 53) (violation m s x) → Some o ≡ row_fault m.nv number (equality_of m s e)
  unfolding equality_of
  equality_refused o h =
      stop_first (violation_fault (equality_of m s e).source number (equality_of m s e).r) _ o
      (h ∙ ap (λ (y : Equality). limited kind.Violation number (2 ^ 53) (violation m s y)) (sym is))

  pub equality_passed : (xs : List (Number (Unit {0}) 32)) → None ≡ limited kind.Violation number (2 ^ 53) (violation m s x) → IsWritten m.nv (equality_of m s e) xs
      → None ≡ row_fault m.nv number (equality_of m s e)
  unfolding equality_of
  equality_passed xs h w =
      sym (sound_after m.nv number (equality_of m s e) xs w refl
      (sym (h ∙ ap (λ (y : Equality). limited kind.Violation number (2 ^ 53) (violation m s y)) (sym is))))

-- ---- frictions
module _ (m : Model) (j : ℕ) where
  pub friction_written : (xs : List (Number (Unit {0}) 32)) → length xs ≡ m.nv → ((d : ℕ) → number_at xs d ≡ at_joint m j one d)
      → ((d : ℕ) → unsigned_abs (number_at xs d) ≤ 2 ^ 48) → IsWritten m.nv (friction_of m j) xs
  unfolding friction_of
  friction_written xs l f h = written m.nv (friction_of m j) xs l f h

  pub friction_sound : (xs : List (Number (Unit {0}) 32)) → IsWritten m.nv (friction_of m j) xs → (number : ℕ) → row_fault m.nv number (friction_of m j) ≡ None
  unfolding friction_of
  friction_sound xs w number = sound_after m.nv number (friction_of m j) xs w refl refl

-- ---- limits of joints
module _ (m : Model) (s : State) (j : ℕ) where
  pub low_row : (x : Extent) (d : ℤ) (r : Row) → x ≡ joint_extent m s j → d ≡ above_least x
      → ((slope : ℕ → ℤ) → r ≡ row_of false (limit (source.Low (j + 1)) x d slope)) → r ≡ row_of false (low_limit m s j)
  unfolding low_limit
  low_row x d r e f h =
      h (at_joint m j one)
      ∙ ap₂ (λ (y : Extent) (z : ℤ). row_of false (limit (source.Low (j + 1)) y z (at_joint m j one))) e (f ∙ ap (λ (y : Extent). above_least y) e)

  pub low_written : (xs : List (Number (Unit {0}) 32)) → length xs ≡ m.nv → ((d : ℕ) → number_at xs d ≡ at_joint m j one d)
      → ((d : ℕ) → unsigned_abs (number_at xs d) ≤ 2 ^ 48) → IsWritten m.nv (low_limit m s j) xs
  unfolding low_limit
  low_written xs l f h = written m.nv (low_limit m s j) xs l f h

  pub low_sound : (xs : List (Number (Unit {0}) 32)) → IsWritten m.nv (low_limit m s j) xs → (number : ℕ) → row_fault m.nv number (low_limit m s j) ≡ None
  unfolding low_limit
  low_sound xs w number = sound_after m.nv number (low_limit m s j) xs w refl refl

  pub high_row : (x : Extent) (d : ℤ) (r : Row) → x ≡ joint_extent m s j → d ≡ below_greatest x
      → ((slope : ℕ → ℤ) → r ≡ row_of false (limit (source.High (j + 1)) x d slope)) → r ≡ row_of false (high_limit m s j)
  unfolding high_limit
  high_row x d r e f h =
      h (at_joint m j (neg_ℤ one))
      ∙ ap₂ (λ (y : Extent) (z : ℤ). row_of false (limit (source.High (j + 1)) y z (at_joint m j (neg_ℤ one)))) e (f ∙ ap (λ (y : Extent). below_greatest y) e)

  pub high_written : (xs : List (Number (Unit {0}) 32)) → length xs ≡ m.nv → ((d : ℕ) → number_at xs d ≡ at_joint m j (neg_ℤ one) d)
      → ((d : ℕ) → unsigned_abs (number_at xs d) ≤ 2 ^ 48) → IsWritten m.nv (high_limit m s j) xs
  unfolding high_limit
  high_written xs l f h = written m.nv (high_limit m s j) xs l f h

  pub high_sound : (xs : List (Number (Unit {0}) 32)) → IsWritten m.nv (high_limit m s j) xs → (number : ℕ) → row_fault m.nv number (high_limit m s j) ≡ None
  unfolding high_limit
  high_sound xs w number = sound_after m.nv number (high_limit m s j) xs w refl refl

-- ---- limits of tendons
pub are_terms : (m : Model) (t : ℕ) (a : Tendon) → t < length m.tendons → tendon m.tendons t ≡ a → AreTerms m a.terms
are_terms m t a h e =
    let x = m.of_tendons.each t h in
    subst (λ (y : Tendon). AreTerms m y.terms) e (record { few = x.few; scalar = x.scalar; coef = x.coef })

module _ (m : Model) (lengths : ℕ → ℤ) (t : ℕ) where
  pub tendon_low_row : (x : Extent) (d : ℤ) (r : Row) → x ≡ tendon_extent m lengths t → d ≡ above_least x
      → ((slope : ℕ → ℤ) → r ≡ row_of false (limit (source.TendonLow (t + 1)) x d slope)) → r ≡ row_of false (tendon_low_limit m lengths t)
  unfolding tendon_low_limit
  tendon_low_row x d r e f h =
      h (tendon_slope m (tendon m.tendons t).terms)
      ∙ ap₂ (λ (y : Extent) (z : ℤ). row_of false (limit (source.TendonLow (t + 1)) y z (tendon_slope m (tendon m.tendons t).terms))) e (f ∙ ap (λ (y : Extent). above_least y) e)

  pub tendon_low_written : (a : Tendon) (xs : List (Number (Unit {0}) 32)) → tendon m.tendons t ≡ a → length xs ≡ m.nv → ((d : ℕ) → number_at xs d ≡ tendon_slope m a.terms d)
      → ((d : ℕ) → unsigned_abs (number_at xs d) ≤ 2 ^ 48) → IsWritten m.nv (tendon_low_limit m lengths t) xs
  unfolding tendon_low_limit
  tendon_low_written a xs e l f h = written m.nv (tendon_low_limit m lengths t) xs l (λ d. f d ∙ ap (λ (y : Tendon). tendon_slope m y.terms d) (sym e)) h

  pub tendon_low_sound : (xs : List (Number (Unit {0}) 32)) → IsWritten m.nv (tendon_low_limit m lengths t) xs → (number : ℕ) → row_fault m.nv number (tendon_low_limit m lengths t) ≡ None
  unfolding tendon_low_limit
  tendon_low_sound xs w number = sound_after m.nv number (tendon_low_limit m lengths t) xs w refl refl

  pub tendon_high_row : (x : Extent) (d : ℤ) (r : Row) → x ≡ tendon_extent m lengths t → d ≡ below_greatest x
      → ((slope : ℕ → ℤ) → r ≡ row_of false (limit (source.TendonHigh (t + 1)) x d slope)) → r ≡ row_of false (tendon_high_limit m lengths t)
  unfolding tendon_high_limit
  tendon_high_row x d r e f h =
      h (tendon_slope m (tendon m.tendons t).terms)
      ∙ ap₂ (λ (y : Extent) (z : ℤ). row_of false (limit (source.TendonHigh (t + 1)) y z (tendon_slope m (tendon m.tendons t).terms))) e (f ∙ ap (λ (y : Extent). below_greatest y) e)

  pub tendon_high_written : (a : Tendon) (xs : List (Number (Unit {0}) 32)) → tendon m.tendons t ≡ a → length xs ≡ m.nv → ((d : ℕ) → number_at xs d ≡ neg_ℤ (tendon_slope m a.terms d))
      → ((d : ℕ) → unsigned_abs (number_at xs d) ≤ 2 ^ 48) → IsWritten m.nv (tendon_high_limit m lengths t) xs
  unfolding tendon_high_limit
  tendon_high_written a xs e l f h = written m.nv (tendon_high_limit m lengths t) xs l (λ d. f d ∙ ap (λ (y : Tendon). neg_ℤ (tendon_slope m y.terms d)) (sym e)) h

  pub tendon_high_sound : (xs : List (Number (Unit {0}) 32)) → IsWritten m.nv (tendon_high_limit m lengths t) xs → (number : ℕ) → row_fault m.nv number (tendon_high_limit m lengths t) ≡ None
  unfolding tendon_high_limit
  tendon_high_sound xs w number = sound_after m.nv number (tendon_high_limit m lengths t) xs w refl refl
