-- What a step that was done holds is what its inverse dynamics are taken of, and what they make is what is told.
use Rattle.std.proofs.Common.{◌≡◌, ℕ, ◌-◌, ◌*◌, ◌^◌, ◌<◌, ◌≤◌, ℤ, pos, unsigned_abs, List, ◌++◌, length, Bool, true, false, IsTrue, None, refl, sym, ap, ap₂, ◌∙◌, subst, arith, codes, decimal}
use Rattle.fx_whole.proofs.EntryLaws.{below-within}
use Rattle.fx_whole.proofs.JoinedLaws.{joined-ext}
use Rattle.mj_types.specs.declared.carriers.Mass.{Mass}
use Rattle.mj_types.specs.declared.dual.Dual.{Dual}
use Rattle.mj_types.specs.declared.dual.Forces.{Forces}
use Rattle.mj_types.specs.declared.model.Model.{Model}
use Rattle.mj_types.specs.declared.rows.Rows.{Rows}
use Rattle.mj_types.specs.declared.state.State.{State}
use Rattle.mj_types.specs.declared.wants.Inverse.{Inverse}
use Rattle.mj_types.specs.declared.wants.Wants.{Wants}
use Rattle.mj_types.specs.Control.{Control}
use Rattle.mj_types.specs.Duals.{entry_at}
use Rattle.mj_types.specs.Masses.{mass_at}
use Rattle.mj_types.specs.Parts.{number_at}
use Rattle.mj_types.specs.Problems.{problem, place, forces}
use Rattle.mj_types.specs.StepValues.{DualValues, active_count, values_of, dual_values}
use Rattle.mj_optimum.specs.Feasible.{HoldsZero}
use Rattle.mj_optimum.specs.Problem.{IsRegular}
use Rattle.mj_pgs.proofs.SweepLaws.{holds_zero}
use Rattle.mj_kin.specs.Placings.{placing}
use Rattle.mj_dual.proofs.LawfulLaws.{state_dual-regular, state_dual-zero}
use Rattle.mj_inverse.specs.Carriers.{given_of, AreListed, CanSeparate, CanLoad}
use Rattle.mj_inverse.specs.Rows.{pull}
use Rattle.mj_inverse.specs.Separated.{Given, force_of, gap, discrepancy, inverse_fault}
use Rattle.mj_inverse.proofs.RowLaws.{row_is_best}
use Rattle.mj_inverse.proofs.ReadLaws.{Agree, forces-reads, gap-reads, discrepancy-reads, inverse_fault-reads}
use Rattle.mj_step.specs.Steps.{mass_of, smooth, acceleration, tendon_lengths, constraints_at, dynamics_of, dual_at, problem_at, row_jacobian, force_at, step_values}
use Rattle.mj_dual.specs.Assembly.{constraint}
use Rattle.mj_step.specs.declared.work.Work.{Work}
use Rattle.mj_step.specs.Workspace.{MadeFor}
use Rattle.mj_step.proofs.PushLaws.{rows-count, place-is, jacobian-is}
use Rattle.mj_trace.specs.Block.{two_text, block_text}
use Rattle.mj_trace.specs.Lines.{spaced}
use Rattle.mj_trace.specs.Reports.{HasForces}
use Rattle.mj_trace.specs.Wanted.{inverse_values, row_force_text, inverse_text}
use Rattle.mj_run.specs.declared.run.Runner.{Runner}
use Rattle.mj_run.specs.Stepped.{HasStepped, HasInverse}
use Rattle.mj_run.specs.Told.{AreBest, asked, row_at, given_at, inverse_at, inverse_lines}

module _ (m : Model) (s : State) (u : List Control) (r : Runner) (has : HasStepped m s u r) where
  -- ---- its lists have their lengths
  pub accel-length : length r.work.report.accel ≡ m.nv
  accel-length = has.made.report.accel

  pub force-room : r.work.dual.m ≤ length r.work.report.forces.f
  force-room = has.can_push.f_room

  pub inverse-room : r.work.dual.m ≤ length r.inverse.x
  inverse-room = omega (arith, has.room, has.made.dual.place, r.work.dual.rows.place_room)

  accel-is : number_at r.work.report.accel ≡ acceleration m s u
  accel-is = ap (λ t. t.accel) has.report_

  accel-small : (i : ℕ) → i < length r.work.report.accel → unsigned_abs (number_at r.work.report.accel i) ≤ 2 ^ 56
  accel-small i h =
      let same : number_at r.work.report.accel i ≡ number_at r.work.accel.items i = ap (λ f. f i) (accel-is ∙ sym has.accel_.value) in
      subst (λ (x : ℤ). unsigned_abs x ≤ 2 ^ 56) (sym same) (has.accel_.small i (omega (arith, h, accel-length)))

  -- ---- and its inverse dynamics can be taken
  pub can-separate : CanSeparate r.work.rows r.work.dual r.work.smooth.items r.work.report.accel
  can-separate = record {
    listed = let P = λ (n : ℕ). AreListed n r.work.rows r.work.dual in subst P (sym accel-length) (record {
      few = m.of_joints.few;
      some_place = has.can_push.some_place;
      place_there = has.can_push.place_there;
      small = has.can_push.small;
    });
    smooth_width = has.made.smooth ∙ sym accel-length;
    smooth_small = λ i h. has.smooth_.small i (omega (arith, h, accel-length));
    accel_small = accel-small;
    zero = holds_zero r.work.dual has.rows_.solvable;
  }

  pub can-load : CanLoad r.work.mass r.work.report.accel r.work.free_load
  can-load = record {
    free_width = has.made.free_load ∙ sym accel-length;
    free_small = λ i h. has.free_load_.small i (omega (arith, h, accel-length));
    accel_small = accel-small;
    mass_room = let P = λ (n : ℕ). length r.work.mass.m ≡ n * n in subst P (sym accel-length) has.mass_.lawful.room;
    mass_small =
        (let P = λ (n : ℕ). (i j : ℕ) → i < n → j < n → unsigned_abs (mass_at n r.work.mass.m i j) ≤ 2 ^ 60 in subst P (sym accel-length) has.mass_.lawful.limit);
  }

  -- ---- what it is taken of
  abbrev pub given : Given
  given = given_of r.work.dual r.work.rows r.work.report.forces r.work.smooth.items r.work.report.accel r.work.mass r.work.free_load

  force-is : (k : ℕ) → k < r.work.dual.m → forces r.work.report.forces k ≡ force_at m s u k
  force-is k h =
      let rows : r.work.report.rows.list ≡ r.work.rows.list.list = ap (λ t. t.rows) has.report_ ∙ sym has.rows_.list in
      let many : active_count r.work.report.rows.list ≡ r.work.dual.m = ap active_count rows ∙ sym has.rows_.count in
      sym (below-within (pos 0) (active_count r.work.report.rows.list) (forces r.work.report.forces) k (omega (arith, many, h)))
      ∙ ap (λ t. t.force k) has.report_

  motion-is : (n : ℕ) (a b : ℕ → ℤ) → n ≡ m.nv → a ≡ smooth m s u → b ≡ acceleration m s u → record { dofs = n; smooth = a; accel = b } ≡ (given_at m s u).motion
  unfolding given_at
  motion-is n a b e f h = rw (e, f, h) refl

  jacobians : (n k i : ℕ) → n ≡ m.nv → k < r.work.dual.m → i < n → entry_at n r.work.rows.jac.list (place r.work.dual k - 1) i ≡ row_jacobian m s u k i
  jacobians n k i e h l =
      let P = λ (n : ℕ). i < n → entry_at n r.work.rows.jac.list (place r.work.dual k - 1) i ≡ row_jacobian m s u k i in
      let at : (constraint (constraints_at m s) (place r.work.dual k - 1)).jacobian i ≡ row_jacobian m s u k i =
      ap (λ (p : ℕ). (constraint (constraints_at m s) (p - 1)).jacobian i) (place-is r.work.dual (dual_at m s u) has.dual_ k h) in
      subst P (sym e) (λ l. jacobian-is m s u r.work.rows r.work.dual has.rows_ k i h l ∙ at) l

  masses : (n : ℕ) → n ≡ m.nv → (i j : ℕ) → i < n → j < n → mass_at n r.work.mass.m i j ≡ mass_of m s i j
  masses n e =
      let P = λ (n : ℕ). (i j : ℕ) → i < n → j < n → mass_at n r.work.mass.m i j ≡ mass_of m s i j in
      subst P (sym e) has.mass_.values

  pub agree : Agree given (given_at m s u)
  unfolding given_at
  agree =
      let d = r.work.dual in
      record {
        motion_ = motion-is (length r.work.report.accel) (number_at r.work.smooth.items) (number_at r.work.report.accel) accel-length has.smooth_.value accel-is;
        rows_ = rows-count d (dual_at m s u) has.dual_;
        place_ = λ k h. place-is d (dual_at m s u) has.dual_ k h;
        jacobian_ = λ k i h l. jacobians (length r.work.report.accel) k i accel-length h l;
        b_ = λ k h. sym (below-within (pos 0) d.m (problem d).b k h) ∙ ap (λ v. v.problem.b k) has.dual_;
        r_ = λ k h. sym (below-within (pos 0) d.m (problem d).r k h) ∙ ap (λ v. v.problem.r k) has.dual_;
        low_ = λ k h. sym (below-within None d.m (problem d).low k h) ∙ ap (λ v. v.problem.low k) has.dual_;
        high_ = λ k h. sym (below-within None d.m (problem d).high k h) ∙ ap (λ v. v.problem.high k) has.dual_;
        force_ = force-is;
        mass_ = masses (length r.work.report.accel) accel-length;
        free_load_ = λ i h. ap (λ f. f i) has.free_load_.value;
      }

  -- ---- what it makes
  pub inverse-is : (i : Inverse) → ((k : ℕ) → k < r.work.dual.m → number_at i.x k ≡ force_of given k) → i.gap ≡ pos (gap given) → i.discrepancy ≡ pos (discrepancy given)
      → HasInverse m s u i
  inverse-is i x g d = record {
    x_ = λ k h. (let l : k < r.work.dual.m = omega (arith, h, rows-count r.work.dual (dual_at m s u) has.dual_) in x k l ∙ forces-reads given (given_at m s u) agree k l);
    gap_ = g ∙ ap pos (gap-reads given (given_at m s u) agree);
    discrepancy_ = d ∙ ap pos (discrepancy-reads given (given_at m s u) agree);
  }

  -- from the same carriers under other names
  module _ (d : Dual) (rows : Rows) (x : Forces) (sm ac : List Control) (mass : Mass) (free : List Control)
      (e1 : d ≡ r.work.dual) (e2 : rows ≡ r.work.rows) (e3 : x ≡ r.work.report.forces) (e4 : sm ≡ r.work.smooth.items) (e5 : ac ≡ r.work.report.accel) (e6 : mass ≡ r.work.mass) (e7 : free ≡ r.work.free_load) where
    given-same : given_of d rows x sm ac mass free ≡ given
    given-same = rw (e1, e2, e3, e4, e5, e6, e7) refl

    pub fault-told : inverse_fault (given_of d rows x sm ac mass free) ≡ inverse_fault (given_at m s u)
    fault-told = ap inverse_fault given-same ∙ inverse_fault-reads given (given_at m s u) agree

    pub inverse-held : (i : Inverse) → ((k : ℕ) → k < d.m → number_at i.x k ≡ force_of (given_of d rows x sm ac mass free) k) → i.gap ≡ pos (gap (given_of d rows x sm ac mass free))
        → i.discrepancy ≡ pos (discrepancy (given_of d rows x sm ac mass free)) → HasInverse m s u i
    inverse-held i v g f =
        inverse-is i (λ k h. v k (omega (arith, h, ap (λ (z : Dual). z.m) e1)) ∙ ap (λ z. force_of z k) given-same) (g ∙ ap (λ z. pos (gap z)) given-same) (f ∙ ap (λ z. pos (discrepancy z)) given-same)

  -- ---- the block's carriers
  pub trace-forces : HasForces r.work.report
  trace-forces = record {
    count = has.count;
    f = omega (arith, many, within, has.made.report.forces.f);
    lo = omega (arith, many, within, has.made.report.cert.lo);
    hi = omega (arith, many, within, has.made.report.cert.hi);
  }
    where
      many : active_count r.work.report.rows.list ≡ r.work.dual.m
      many = ap active_count (ap (λ t. t.rows) has.report_ ∙ sym has.rows_.list) ∙ sym has.rows_.count

      within : r.work.dual.m ≤ m.njmax
      within = omega (arith, has.made.dual.place, r.work.dual.rows.place_room)

  pub block-told : (wants : Wants) (k : ℕ) → block_text m.format m.nq m.nv k (step_values m s u) (asked wants.dual (dual_at m s u))
      ≡ block_text r.work.report.format (length r.state.q) (length r.state.v) k (values_of r.state r.work.report) (asked wants.dual (dual_values r.work.dual))
  block-told wants k = rw (has.made.report.format, has.fits.positions.many, has.fits.velocities.many, has.report_, has.dual_) refl

  -- ---- after what is told of it
  pub stepped-with : (i : Inverse) → length i.x ≡ m.njmax → HasStepped m s u (record { work = r.work; state = r.state; inverse = i })
  stepped-with i room = record {
    made = has.made;
    fits = has.fits;
    room = room;
    done = has.done;
    state_ = has.state_;
    report_ = has.report_;
    dual_ = has.dual_;
    count = has.count;
    rows_ = has.rows_;
    can_push = has.can_push;
    mass_ = has.mass_;
    load_ = has.load_;
    accel_ = has.accel_;
    can_enclose = has.can_enclose;
    free_load_ = has.free_load_;
    smooth_ = has.smooth_;
  }

  pub stepped-same : (w : Work) → MadeFor m w → w.report ≡ r.work.report → w.dual ≡ r.work.dual → w.rows ≡ r.work.rows → w.smooth ≡ r.work.smooth → w.mass ≡ r.work.mass
      → w.free_load ≡ r.work.free_load → w.load ≡ r.work.load → w.accel ≡ r.work.accel → w.is_done ≡ r.work.is_done
      → HasStepped m s u (record { work = w; state = r.state; inverse = r.inverse })
  stepped-same w made e1 e2 e3 e4 e5 e6 e7 e8 e9 = record {
    made = made;
    fits = has.fits;
    room = has.room;
    done = rw e9 has.done;
    state_ = has.state_;
    report_ = rw e1 has.report_;
    dual_ = rw e2 has.dual_;
    count = rw e1 has.count;
    rows_ = rw (e2, e3) has.rows_;
    can_push = rw (e1, e2, e3) has.can_push;
    mass_ = rw e5 has.mass_;
    load_ = rw e7 has.load_;
    accel_ = rw e8 has.accel_;
    can_enclose = rw (e5, e8) has.can_enclose;
    free_load_ = rw e6 has.free_load_;
    smooth_ = rw e4 has.smooth_;
  }

-- the text of values that agree at the dual's rows
pub inverse-told : (m : Model) (s : State) (u : List Control) (i : Inverse) → HasInverse m s u i → inverse_text (dual_at m s u) (inverse_at m s u) ≡ inverse_text (dual_at m s u) (inverse_values i)
unfolding inverse_text
inverse-told m s u i has =
    let d = dual_at m s u in
    ap₂ (λ a b. a ++ b)
    (ap₂ (λ a b. two_text (codes "inverse ") a b) (sym has.gap_) (sym has.discrepancy_))
    (joined-ext d.problem.m (row_force_text d.place (force_of (given_at m s u))) (row_force_text d.place (number_at i.x))
    (λ k h. ap (λ z. ((codes "x " ++ decimal (d.place k)) ++ spaced z) ++ codes "\n") (sym (has.x_ k h))))

pub lines-told : (wants : Bool) (m : Model) (s : State) (u : List Control) (d : DualValues) (i : Inverse) → d ≡ dual_at m s u → (IsTrue wants → HasInverse m s u i)
    → inverse_lines wants (dual_at m s u) (inverse_at m s u) ≡ inverse_lines wants d (inverse_values i)
lines-told true m s u d i e has = inverse-told m s u i (has refl) ∙ ap (λ z. inverse_text z (inverse_values i)) (sym e)
lines-told false m s u d i e has = refl

-- ---- the forces one by one are the best ones: a step's dual is regular, and 0 is within its bounds
regular : (m : Model) (s : State) (u : List Control) → IsRegular (problem_at m s u)
unfolding dual_at constraints_at
regular m s u = state_dual-regular m s (placing m s) (tendon_lengths m s) (dynamics_of m s u)

zero-held : (m : Model) (s : State) (u : List Control) → HoldsZero (problem_at m s u)
unfolding dual_at constraints_at
zero-held m s u = state_dual-zero m s (placing m s) (tendon_lengths m s) (dynamics_of m s u)

pub told-best : (m : Model) (s : State) (u : List Control) → AreBest m s u
unfolding given_at
told-best m s u k h n d hd from_low to_high =
    let p = problem_at m s u in
    let zero = zero-held m s u in
    row_is_best (p.low k) (p.high k) (p.r k) (pull (given_at m s u).motion (row_at m s u k)) n d (regular m s u k h) (zero.above k h) (zero.below k h) hd from_low to_high
