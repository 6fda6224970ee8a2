-- One row's update, from what is kept between two rows.
use Rattle.std.proofs.Common.{◌≡◌, ◌≢◌, ℕ, zero, suc, ◌+◌, ◌^◌, ◌<◌, ◌≤◌, ℤ, pos, ◌+ℤ◌, ◌-ℤ◌, ◌*ℤ◌, unsigned_abs, List, length, get_or, Option, Some, None, refl, sym, ap, ap₂, ◌∙◌, subst, arith, inl, inr, cond, true}
use Rattle.std.proofs.Math.Path.{fun_ext}
use Rattle.std.proofs.lemmas.Bool.{cases_eq, cases_lt}
use Rattle.std.proofs.lemmas.Bool.Decides.{nat_tests}
use Rattle.std.proofs.lemmas.Int.{ints, int_wrap-add_left, int_wrap-add_right, int_wrap-mul_right, int_wrap_fits, fits_signed_from_abs}
use Rattle.std.specs.Prelude.{nat_le}
use Rattle.std.specs.Int.{int_wrap}
use mir.Syntax.{w128}
use lib.IntN.{zero-*ℤ}
use Rattle.fx_whole.specs.First.{or_first, first_to}
use Rattle.fx_whole.specs.Sums.{sum_to}
use Rattle.fx_whole.proofs.FirstLaws.{first_ext, first_none, or_none}
use Rattle.fx_whole.proofs.SumLaws.{sum_to-ext, sum_to-past}
use Rattle.fx_num.specs.declared.number.Number.{Number}
use Rattle.mj_optimum.specs.Problem.{Problem}
use Rattle.mj_optimum.specs.Cost.{reach, gradient}
use Rattle.mj_optimum.specs.Limits.{reach_limit}
use Rattle.mj_optimum.specs.Sweep.{change, divisor, next_force, update, put_at, after_update}
use Rattle.mj_optimum.proofs.SweepLaws.{put_at_same, put_at_other, put_at_own, reach_put}
use Rattle.mj_types.specs.declared.dual.Dual.{Dual}
use Rattle.mj_types.specs.declared.dual.Forces.{Forces}
use Rattle.mj_types.specs.declared.range.OutOfRange.{OutOfRange}
use Rattle.mj_types.specs.declared.range.Quantity.{Quantity}
use Rattle.mj_types.specs.declared.range.Quantity.TheVariants as kind
use Rattle.mj_types.specs.Duals.{entry_at}
use Rattle.mj_types.specs.Parts.{number_at, plain}
use Rattle.mj_types.specs.Problems.{problem, forces}
use Rattle.mj_types.specs.Ranges.{limited}
use Rattle.mj_pgs.specs.Holding.{HasPlaces, IsReady, IsHeld, IsShifted, moved, shift_fault, change_at}

-- ---- in 128 bits
pub change-wraps : (g d c : ℤ) → int_wrap w128 (c *ℤ int_wrap w128 (int_wrap w128 (g +ℤ g) +ℤ int_wrap w128 (d *ℤ c))) ≡ int_wrap w128 (change g d c)
change-wraps g d c =
    ap (λ x. int_wrap w128 (c *ℤ x)) (int_wrap-add_left w128 (g +ℤ g) (int_wrap w128 (d *ℤ c)) ∙ int_wrap-add_right w128 (g +ℤ g) (d *ℤ c))
    ∙ int_wrap-mul_right w128 c (g +ℤ g +ℤ d *ℤ c)

pub wrap-zero : int_wrap w128 (pos 0) ≡ pos 0
wrap-zero = int_wrap_fits w128 (pos 0) (fits_signed_from_abs w128 (pos 0) (omega arith))

pub change-none : (p : Problem) (f : ℕ → ℤ) (i : ℕ) → update p f i ≡ f i → change_at p f i ≡ pos 0
unfolding change_at
change-none p f i e = let z : update p f i -ℤ f i ≡ pos 0 = omega (arith, ints) in ap (λ x. change (gradient p f i) (divisor p i) x) z ∙ zero-*ℤ (gradient p f i +ℤ gradient p f i +ℤ divisor p i *ℤ pos 0)

-- ---- limits
pub limited-none : (what : Quantity) (index limit : ℕ) (n : ℤ) → unsigned_abs n ≤ limit → limited what index limit n ≡ None
limited-none what index limit n h = let e : nat_le (unsigned_abs n) limit ≡ true = grind (arith, nat_tests) in ap (λ b. cond b None (Some (record { kind = what; index = index }))) e

first-past : {F : Type 0} → (n m : ℕ) (f : ℕ → Option F) → n ≤ m → ((k : ℕ) → n ≤ k → k < m → f k ≡ None) → first_to m f ≡ first_to n f
first-past n zero f h none = let e : n ≡ 0 = omega arith in ap (λ (k : ℕ). first_to k f) (sym e)
first-past n (suc m) f h none =
    elim (cases_eq n (suc m)) [
      | inl e ↦ ap (λ (k : ℕ). first_to k f) (sym e)
      | inr e ↦ ap (λ x. or_first (first_to m f) x) (none m (omega arith) (omega arith)) ∙ or_none (first_to m f) ∙ first-past n m f (omega arith) (λ k a b. none k a (omega arith))
    ]

-- ---- the gradient
pub along : (d : Dual) (x : Forces) (i n : ℕ) (row : List (Number (Unit {0}) 24)) (u : List (Number (Unit {0}) 44)) → u ≡ x.u → IsHeld d x → i < d.m → ((k : ℕ) → k < d.nv → number_at row k ≡ entry_at d.nv d.g i k) → get_or x.used i 0 ≡ n
    → sum_to n (λ k. number_at row k *ℤ number_at u k) ≡ sum_to d.nv (λ k. (problem d).g i k *ℤ reach (problem d) (forces x) k)
along d x i n row u same held h numbers e =
    let ready = held.ready i h in
    let le : n ≤ d.nv = subst (λ a. a ≤ d.nv) e ready.used_room in
    sum_to-ext n (λ k. number_at row k *ℤ number_at u k) (λ k. (problem d).g i k *ℤ reach (problem d) (forces x) k) (λ k l. ap₂ (λ a b. a *ℤ b) (numbers k (omega arith)) (ap (λ a. number_at a k) same ∙ held.reached k (omega arith)))
    ∙ sym (sum_to-past n d.nv (λ k. (problem d).g i k *ℤ reach (problem d) (forces x) k) le (λ k l q. ap (λ a. a *ℤ reach (problem d) (forces x) k) (ready.unused k (subst (λ a. a ≤ k) (sym e) l) q) ∙ zero-*ℤ (reach (problem d) (forces x) k)))

pub same_next : (l l' h h' : Option ℤ) (d d' x x' g g' : ℤ) → l ≡ l' → h ≡ h' → d ≡ d' → x ≡ x' → g ≡ g' → next_force l h d x g ≡ next_force l' h' d' x' g'
same_next l l' h h' d d' x x' g g' p q r s t = cc

pub same_change : (g g' d d' c c' : ℤ) → g ≡ g' → d ≡ d' → c ≡ c' → change g d c ≡ change g' d' c'
same_change g g' d d' c c' p q r = cc

-- ---- the force v is put at row i, and u moves by its step
pub record IsStep (d : Dual) (x : Forces) (i n : ℕ) (row : List (Number (Unit {0}) 24)) (v step : ℤ) : Type 0 where
  pub held : IsHeld d x
  pub here : i < d.m
  pub numbers : (k : ℕ) → k < d.nv → number_at row k ≡ entry_at d.nv d.g i k
  pub used : get_or x.used i 0 ≡ n
  pub from : step ≡ v -ℤ forces x i

used-within : (d : Dual) (x : Forces) (i n : ℕ) (row : List (Number (Unit {0}) 24)) (v step : ℤ) → IsStep d x i n row v step → n ≤ d.nv
used-within d x i n row v step s = subst (λ a. a ≤ d.nv) s.used (s.held.ready i s.here).used_room

reach-moved : (d : Dual) (x : Forces) (i n : ℕ) (row : List (Number (Unit {0}) 24)) (v step : ℤ) → IsStep d x i n row v step → (k : ℕ) → k < d.nv → reach (problem d) (put_at (forces x) i v) k ≡ moved row x.u step k
reach-moved d x i n row v step s k h =
    reach_put (problem d) (forces x) i v k s.here
    ∙ ap₂ (λ a b. a +ℤ b) (sym (s.held.reached k h)) (ap₂ (λ a b. a *ℤ b) (sym (s.numbers k h)) (sym s.from))

reach-stays : (d : Dual) (x : Forces) (i n : ℕ) (row : List (Number (Unit {0}) 24)) (v step : ℤ) → IsStep d x i n row v step → (k : ℕ) → n ≤ k → k < d.nv → reach (problem d) (put_at (forces x) i v) k ≡ number_at x.u k
reach-stays d x i n row v step s k l h =
    let z : number_at row k ≡ pos 0 = s.numbers k h ∙ (s.held.ready i s.here).unused k (subst (λ a. a ≤ k) (sym s.used) l) h in
    reach-moved d x i n row v step s k h ∙ ap (λ a. number_at x.u k +ℤ a *ℤ step) z ∙ ap (λ a. number_at x.u k +ℤ a) (zero-*ℤ step) ∙ alone (number_at x.u k)
  where
    alone : (a : ℤ) → a +ℤ pos 0 ≡ a
    alone a = omega (arith, ints)

pub step-fault : (d : Dual) (x : Forces) (i n : ℕ) (row : List (Number (Unit {0}) 24)) (v step : ℤ) → IsStep d x i n row v step
    → first_to n (shift_fault row x.u step) ≡ first_to d.nv (λ k. limited kind.Reach (k + 1) reach_limit (reach (problem d) (put_at (forces x) i v) k))
step-fault d x i n row v step s =
    let le = used-within d x i n row v step s in
    first_ext n (shift_fault row x.u step) (λ k. limited kind.Reach (k + 1) reach_limit (reach (problem d) (put_at (forces x) i v) k))
    (λ k l. ap (limited kind.Reach (k + 1) reach_limit) (sym (reach-moved d x i n row v step s k (omega arith))))
    ∙ sym (first-past n d.nv (λ k. limited kind.Reach (k + 1) reach_limit (reach (problem d) (put_at (forces x) i v) k)) le
    (λ k l h. ap (limited kind.Reach (k + 1) reach_limit) (reach-stays d x i n row v step s k l h) ∙ limited-none kind.Reach (k + 1) reach_limit (number_at x.u k) (s.held.near k h)))

-- what a put leaves of a list
pub record IsPut {A : Type 0} (old new : List A) (i : ℕ) (x : A) : Type 0 where
  pub len : length new ≡ length old
  pub same : (d : A) → get_or new i d ≡ x
  pub others : (d : A) (j : ℕ) → j ≢ i → get_or new j d ≡ get_or old j d

pub put-forces : (f f' : List (Number (Unit {0}) 20)) (i : ℕ) (v : Number (Unit {0}) 20) → IsPut f f' i v → number_at f' ≡ put_at (number_at f) i v.mid
put-forces f f' i v put =
    fun_ext (λ j. elim (cases_eq j i) [
      | inl e ↦ ap (number_at f') e ∙ ap (λ a. a.mid) (put.same (plain (pos 0))) ∙ sym (put_at_same (number_at f) i v.mid j e)
      | inr e ↦ ap (λ a. a.mid) (put.others (plain (pos 0)) j e) ∙ sym (put_at_other (number_at f) i v.mid j e)
    ])

pub put-held : (d : Dual) (x y : Forces) (i n : ℕ) (row : List (Number (Unit {0}) 24)) (v : Number (Unit {0}) 20) (step : ℤ) → IsStep d x i n row v.mid step
    → IsPut x.f y.f i v → unsigned_abs v.mid ≤ 2 ^ 50 → length y.u ≡ length x.u → IsShifted row x.u y.u step n → y.divisor ≡ x.divisor → y.used ≡ x.used → IsHeld d y
put-held d x y i n row v step s put small len shifted same_divisor same_used =
    record {
      solvable = s.held.solvable;
      places = record { f = omega (arith, s.held.places.f, put.len); u = omega (arith, s.held.places.u, len); divisor = subst (λ a. d.m ≤ length a) (sym same_divisor) s.held.places.divisor; used = subst (λ a. d.m ≤ length a) (sym same_used) s.held.places.used };
      ready = λ j h. let r = s.held.ready j h in record {
        divisor = λ e. ap (λ a. (get_or a j e).d) same_divisor ∙ r.divisor e;
        used_room = subst (λ a. get_or a j 0 ≤ d.nv) (sym same_used) r.used_room;
        unused = λ k l. r.unused k (subst (λ a. get_or a j 0 ≤ k) same_used l);
      };
      reached = λ k h. elim (cases_lt k n) [
        | inl l ↦ shifted.here k l ∙ sym (reach-moved d x i n row v.mid step s k h) ∙ ap (λ (f : ℕ → ℤ). reach (problem d) f k) (sym moved_forces)
        | inr l ↦ shifted.past k l ∙ sym (reach-stays d x i n row v.mid step s k l h) ∙ ap (λ (f : ℕ → ℤ). reach (problem d) f k) (sym moved_forces)
      ];
      small = λ j h. elim (cases_eq j i) [
        | inl e ↦ subst (λ (a : ℤ). unsigned_abs a ≤ 2 ^ 50) (sym (ap (λ (f : ℕ → ℤ). f j) moved_forces ∙ put_at_same (forces x) i v.mid j e)) small
        | inr e ↦ subst (λ (a : ℤ). unsigned_abs a ≤ 2 ^ 50) (sym (ap (λ (f : ℕ → ℤ). f j) moved_forces ∙ put_at_other (forces x) i v.mid j e)) (s.held.small j h)
      ];
      near = λ k h. elim (cases_lt k n) [
        | inl l ↦ shifted.near k l
        | inr l ↦ subst (λ (a : ℤ). unsigned_abs a ≤ 2 ^ 59) (sym (shifted.past k l)) (s.held.near k h)
      ];
    }
  where
    moved_forces : forces y ≡ put_at (forces x) i v.mid
    moved_forces = put-forces x.f y.f i v put

-- ---- a force that stays
pub stays : (p : Problem) (f : ℕ → ℤ) (i : ℕ) → update p f i ≡ f i → after_update p f i ≡ f
stays p f i e = ap (put_at f i) e ∙ put_at_own f i

pub none-reached : (d : Dual) (x : Forces) → IsHeld d x → first_to d.nv (λ k. limited kind.Reach (k + 1) reach_limit (reach (problem d) (forces x) k)) ≡ None
none-reached d x held =
    (first_none d.nv (λ k. limited kind.Reach (k + 1) reach_limit (reach (problem d) (forces x) k))).1
    (λ k h. ap (limited kind.Reach (k + 1) reach_limit) (sym (held.reached k h)) ∙ limited-none kind.Reach (k + 1) reach_limit (number_at x.u k) (held.near k h))
