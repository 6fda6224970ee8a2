-- The definitions at worked examples of one to three rows. The numbers come from outside this crate.
use Rattle.std.proofs.Common.{true, false, cond, ◌≡◌, ℕ, ◌^◌, ◌*◌, ℤ, pos, neg_ℤ, ◌-ℤ◌, ◌+ℤ◌, Option, Some, None, refl, ap, ◌∙◌, arith}
use Rattle.std.specs.Prelude.{◌==◌, nat_lt, int_lt, ◌-◌}
use Rattle.std.proofs.lemmas.Int.{ints}
use Rattle.fx_whole.specs.Nearest.{nearest}
use Rattle.fx_whole.specs.First.{first_to}
use Rattle.fx_whole.proofs.FirstLaws.{first_here}
use Rattle.mj_optimum.specs.declared.stop.Stop.{Stop}
use Rattle.mj_optimum.specs.declared.stop.Stop.TheVariants.{NoRows, Tolerance, Limit}
use Rattle.mj_optimum.specs.Problem.{Problem}
use Rattle.mj_optimum.specs.Cost.{cost, gradient}
use Rattle.mj_optimum.specs.Sweep.{at_least, at_most, next_force, iterate}
use Rattle.mj_optimum.specs.Stop.{stop_after, or_limit, stop_of}
use Rattle.mj_optimum.specs.Shortfall.{shortfall, total_shortfall, bound2}
use Rattle.mj_optimum.specs.Limits.{cost_limit, weight_to, pull_to, shortfall_limit, shortfall_to, where_open}
use Rattle.mj_optimum.specs.Box.{left_to, rise_up, rise_down, lo, hi}
use Rattle.mj_optimum.proofs.RiseLaws.{rise_is, rise_is_zero}

-- rows that are alike, of g 1 at one dof; r, b and the bounds are raw
abbrev rows : ℕ → ℤ → ℤ → Option ℤ → Option ℤ → Problem
rows m r b low high =
    record { m = m; nv = 1; g = λ i k. pos (2 ^ 24); r = λ i. r; b = λ i. b; low = λ i. low; high = λ i. high }

-- what a run up to a limit of sweeps answers, with the tolerance 43 raw, and what its forces cost
record Ends (p : Problem) (limit sweeps : ℕ) (stop : Stop) (cost2 bound : ℤ) : Type 0 where
  stops : stop_of p (pos 43) limit ≡ stop
  costs : cost p (iterate p sweeps) (pos 1) ≡ cost2
  bounded : bound2 p (iterate p sweeps) ≡ bound

-- the force of a row after so many sweeps, and its box
record Boxed (p : Problem) (sweeps i : ℕ) (force low high : ℤ) : Type 0 where
  is : iterate p sweeps i ≡ force
  from : lo p (iterate p sweeps) i ≡ low
  to : hi p (iterate p sweeps) i ≡ high

-- a limit of 100 sweeps is not met
stops_first : (p : Problem) → stop_after p (pos 43) 0 ≡ Some (Tolerance 1) → or_limit (first_to 100 (stop_after p (pos 43))) 100 ≡ Tolerance 1
stops_first p e = ap (λ s. or_limit s 100) (first_here 0 100 (stop_after p (pos 43)) (Tolerance 1) (omega arith) refl e)

stops_second : (p : Problem) → stop_after p (pos 43) 0 ≡ None → stop_after p (pos 43) 1 ≡ Some (Tolerance 2) → or_limit (first_to 100 (stop_after p (pos 43))) 100 ≡ Tolerance 2
stops_second p n e = ap (λ s. or_limit s 100) (first_here 1 100 (stop_after p (pos 43)) (Tolerance 2) (omega arith) n e)

-- an end of the box, from the least rise
lo_from : (p : Problem) (f : ℕ → ℤ) (i k : ℕ) (x : ℤ) → rise_down p f i ≡ k → at_least (p.low i) (f i -ℤ pos k) ≡ x → lo p f i ≡ x
lo_from p f i k x e h = ap (λ (j : ℕ). at_least (p.low i) (f i -ℤ pos j)) e ∙ h

hi_from : (p : Problem) (f : ℕ → ℤ) (i k : ℕ) (x : ℤ) → rise_up p f i ≡ k → at_most (p.high i) (f i +ℤ pos k) ≡ x → hi p f i ≡ x
hi_from p f i k x e h = ap (λ (j : ℕ). at_most (p.high i) (f i +ℤ pos j)) e ∙ h

-- ---- a row that is pulled up: the second sweep changes nothing, and the optimum is met
abbrev pulled : Problem
pulled = rows 1 (pos (2 ^ 48)) (neg_ℤ (pos (2 ^ 32))) (Some (pos 0)) None

pulled_ends : Ends pulled 100 2 (Tolerance 2) (neg_ℤ (pos (2 ^ 87))) (neg_ℤ (pos (2 ^ 87)))
unfolding iterate next_force gradient nearest cost shortfall total_shortfall
pulled_ends = record { stops = stops_second pulled refl refl; costs = refl; bounded = refl }

pulled_boxed : Boxed pulled 2 0 (pos 524288) (pos 524288) (pos 524288)
unfolding iterate next_force gradient nearest cost shortfall total_shortfall
pulled_boxed =
    record {
      is = refl;
      from = lo_from pulled (iterate pulled 2) 0 0 (pos 524288) (rise_is_zero (neg_ℤ (gradient pulled (iterate pulled 2) 0)) (pos (2 ^ 48)) (left_to pulled (iterate pulled 2) 0) (omega (arith, ints)) refl) refl;
      to = hi_from pulled (iterate pulled 2) 0 0 (pos 524288) (rise_is_zero (gradient pulled (iterate pulled 2) 0) (pos (2 ^ 48)) (left_to pulled (iterate pulled 2) 0) (omega (arith, ints)) refl) refl;
    }

-- ---- a row that is pushed down onto its low bound
abbrev pushed : Problem
pushed = rows 1 (pos (2 ^ 48)) (pos (2 ^ 32)) (Some (pos 0)) None

pushed_ends : Ends pushed 100 1 (Tolerance 1) (pos 0) (pos 0)
unfolding iterate next_force gradient nearest cost shortfall total_shortfall
pushed_ends = record { stops = stops_first pushed refl; costs = refl; bounded = refl }

pushed_boxed : Boxed pushed 1 0 (pos 0) (pos 0) (pos 0)
unfolding iterate next_force gradient nearest cost shortfall total_shortfall
pushed_boxed =
    record {
      is = refl;
      from = lo_from pushed (iterate pushed 1) 0 2097152 (pos 0) (rise_is (neg_ℤ (gradient pushed (iterate pushed 1) 0)) (pos (2 ^ 48)) (left_to pushed (iterate pushed 1) 0) 2097151 (omega (arith, ints)) refl refl) refl;
      to = hi_from pushed (iterate pushed 1) 0 0 (pos 0) (rise_is_zero (gradient pushed (iterate pushed 1) 0) (pos (2 ^ 48)) (left_to pushed (iterate pushed 1) 0) (omega (arith, ints)) refl) refl;
    }

pushed_gradient : gradient pushed (iterate pushed 1) 0 ≡ pos (2 ^ 68)
unfolding iterate next_force gradient nearest
pushed_gradient = refl

-- ---- two rows that share a dof, after one sweep: the second is after_update from the first, and the optimum, 2^20 / 3 each, is in the box
abbrev two_rows : Problem
two_rows = rows 2 (pos (2 ^ 48)) (neg_ℤ (pos (2 ^ 32))) (Some (pos 0)) None

two_rows_ends : Ends two_rows 1 1 (Limit 1) (neg_ℤ (pos (10 * 2 ^ 84))) (neg_ℤ (pos (11 * 2 ^ 84)))
unfolding iterate next_force gradient nearest cost shortfall total_shortfall
two_rows_ends = record { stops = refl; costs = refl; bounded = refl }

two_rows_boxed_first : Boxed two_rows 1 0 (pos 524288) (pos 0) (pos 524288)
unfolding iterate next_force gradient nearest cost shortfall total_shortfall
two_rows_boxed_first =
    record {
      is = refl;
      from = lo_from two_rows (iterate two_rows 1) 0 524288 (pos 0) (rise_is (neg_ℤ (gradient two_rows (iterate two_rows 1) 0)) (pos (2 ^ 48)) (left_to two_rows (iterate two_rows 1) 0) 524287 (omega (arith, ints)) refl refl) refl;
      to = hi_from two_rows (iterate two_rows 1) 0 0 (pos 524288) (rise_is_zero (gradient two_rows (iterate two_rows 1) 0) (pos (2 ^ 48)) (left_to two_rows (iterate two_rows 1) 0) (omega (arith, ints)) refl) refl;
    }

two_rows_boxed_second : Boxed two_rows 1 1 (pos 262144) (pos 0) (pos 524288)
unfolding iterate next_force gradient nearest cost shortfall total_shortfall
two_rows_boxed_second =
    record {
      is = refl;
      from = lo_from two_rows (iterate two_rows 1) 1 262144 (pos 0) (rise_is (neg_ℤ (gradient two_rows (iterate two_rows 1) 1)) (pos (2 ^ 48)) (left_to two_rows (iterate two_rows 1) 1) 262143 (omega (arith, ints)) refl refl) refl;
      to = hi_from two_rows (iterate two_rows 1) 1 262144 (pos 524288) (rise_is (gradient two_rows (iterate two_rows 1) 1) (pos (2 ^ 48)) (left_to two_rows (iterate two_rows 1) 1) 262143 (omega (arith, ints)) refl refl) refl;
    }

-- ---- a step of exactly one half, which is rounded to none
abbrev tied : Problem
tied = rows 1 (pos (2 ^ 48)) (neg_ℤ (pos 4096)) (Some (pos 0)) None

tied_ends : Ends tied 100 1 (Tolerance 1) (pos 0) (neg_ℤ (pos (2 ^ 48)))
unfolding iterate next_force gradient nearest cost shortfall total_shortfall
tied_ends = record { stops = stops_first tied refl; costs = refl; bounded = refl }

tied_boxed : Boxed tied 1 0 (pos 0) (pos 0) (pos 2)
unfolding iterate next_force gradient nearest cost shortfall total_shortfall
tied_boxed =
    record {
      is = refl;
      from = lo_from tied (iterate tied 1) 0 0 (pos 0) (rise_is_zero (neg_ℤ (gradient tied (iterate tied 1) 0)) (pos (2 ^ 48)) (left_to tied (iterate tied 1) 0) (omega (arith, ints)) refl) refl;
      to = hi_from tied (iterate tied 1) 0 2 (pos 2) (rise_is (gradient tied (iterate tied 1) 0) (pos (2 ^ 48)) (left_to tied (iterate tied 1) 0) 1 (omega (arith, ints)) refl refl) refl;
    }

-- ---- a regularizer so small that the box is 2^48 wide: its end is the least by two tests, and no search
abbrev wide : Problem
wide = rows 1 (pos 1) (neg_ℤ (pos 2048)) (Some (pos 0)) None

wide_ends : Ends wide 100 1 (Tolerance 1) (pos 0) (neg_ℤ (pos (2 ^ 94)))
unfolding iterate next_force gradient nearest cost shortfall total_shortfall
wide_ends = record { stops = stops_first wide refl; costs = refl; bounded = refl }

wide_boxed : Boxed wide 1 0 (pos 0) (pos 0) (pos 281474976710656)
unfolding iterate next_force gradient nearest cost shortfall total_shortfall
wide_boxed =
    record {
      is = refl;
      from = lo_from wide (iterate wide 1) 0 0 (pos 0) (rise_is_zero (neg_ℤ (gradient wide (iterate wide 1) 0)) (pos 1) (left_to wide (iterate wide 1) 0) (omega (arith, ints)) refl) refl;
      to = hi_from wide (iterate wide 1) 0 281474976710656 (pos 281474976710656) (rise_is (gradient wide (iterate wide 1) 0) (pos 1) (left_to wide (iterate wide 1) 0) 281474976710655 (omega (arith, ints)) refl refl) refl;
    }

-- ---- a row that is pulled onto its high bound
abbrev held_high : Problem
held_high = rows 1 (pos (2 ^ 48)) (neg_ℤ (pos (2 ^ 35))) (Some (neg_ℤ (pos 2097152))) (Some (pos 2097152))

held_high_ends : Ends held_high 100 2 (Tolerance 2) (neg_ℤ (pos 7427640235712281649394745344)) (neg_ℤ (pos 7427640235712281649394745344))
unfolding iterate next_force gradient nearest cost shortfall total_shortfall
held_high_ends = record { stops = stops_second held_high refl refl; costs = refl; bounded = refl }

held_high_boxed : Boxed held_high 2 0 (pos 2097152) (pos 2097152) (pos 2097152)
unfolding iterate next_force gradient nearest cost shortfall total_shortfall
held_high_boxed =
    record {
      is = refl;
      from = lo_from held_high (iterate held_high 2) 0 0 (pos 2097152) (rise_is_zero (neg_ℤ (gradient held_high (iterate held_high 2) 0)) (pos (2 ^ 48)) (left_to held_high (iterate held_high 2) 0) (omega (arith, ints)) refl) refl;
      to = hi_from held_high (iterate held_high 2) 0 8388608 (pos 2097152) (rise_is (gradient held_high (iterate held_high 2) 0) (pos (2 ^ 48)) (left_to held_high (iterate held_high 2) 0) 8388607 (omega (arith, ints)) refl refl) refl;
    }

-- ---- and its mirror
abbrev held_low : Problem
held_low = rows 1 (pos (2 ^ 48)) (pos (2 ^ 35)) (Some (neg_ℤ (pos 2097152))) (Some (pos 2097152))

held_low_ends : Ends held_low 100 2 (Tolerance 2) (neg_ℤ (pos 7427640235712281649394745344)) (neg_ℤ (pos 7427640235712281649394745344))
unfolding iterate next_force gradient nearest cost shortfall total_shortfall
held_low_ends = record { stops = stops_second held_low refl refl; costs = refl; bounded = refl }

held_low_boxed : Boxed held_low 2 0 (neg_ℤ (pos 2097152)) (neg_ℤ (pos 2097152)) (neg_ℤ (pos 2097152))
unfolding iterate next_force gradient nearest cost shortfall total_shortfall
held_low_boxed =
    record {
      is = refl;
      from = lo_from held_low (iterate held_low 2) 0 8388608 (neg_ℤ (pos 2097152)) (rise_is (neg_ℤ (gradient held_low (iterate held_low 2) 0)) (pos (2 ^ 48)) (left_to held_low (iterate held_low 2) 0) 8388607 (omega (arith, ints)) refl refl) refl;
      to = hi_from held_low (iterate held_low 2) 0 0 (neg_ℤ (pos 2097152)) (rise_is_zero (gradient held_low (iterate held_low 2) 0) (pos (2 ^ 48)) (left_to held_low (iterate held_low 2) 0) (omega (arith, ints)) refl) refl;
    }

-- ---- a row without bounds, and again a step of one half
abbrev free : Problem
free = rows 1 (pos (2 ^ 48)) (pos 4096) None None

free_ends : Ends free 100 1 (Tolerance 1) (pos 0) (neg_ℤ (pos (2 ^ 48)))
unfolding iterate next_force gradient nearest cost shortfall total_shortfall
free_ends = record { stops = stops_first free refl; costs = refl; bounded = refl }

free_boxed : Boxed free 1 0 (pos 0) (neg_ℤ (pos 2)) (pos 0)
unfolding iterate next_force gradient nearest cost shortfall total_shortfall
free_boxed =
    record {
      is = refl;
      from = lo_from free (iterate free 1) 0 2 (neg_ℤ (pos 2)) (rise_is (neg_ℤ (gradient free (iterate free 1) 0)) (pos (2 ^ 48)) (left_to free (iterate free 1) 0) 1 (omega (arith, ints)) refl refl) refl;
      to = hi_from free (iterate free 1) 0 0 (pos 0) (rise_is_zero (gradient free (iterate free 1) 0) (pos (2 ^ 48)) (left_to free (iterate free 1) 0) (omega (arith, ints)) refl) refl;
    }

-- ---- numbers past their limits, each after one sweep
-- R f^2 fits, and 2^37 b f doesn't
abbrev heavy : Problem
heavy =
    record {
      m = 1;
      nv = 1;
      g = λ i k. pos (2 ^ 14);
      r = λ i. pos (2 ^ 48);
      b = λ i. neg_ℤ (pos (2 ^ 50));
      low = λ i. Some (pos 0);
      high = λ i. None;
    }

heavy_weight : nat_lt cost_limit (weight_to heavy (iterate heavy 1) 1) ≡ false
unfolding iterate next_force gradient nearest
heavy_weight = refl

heavy_pull : nat_lt cost_limit (pull_to heavy (iterate heavy 1) 1) ≡ true
unfolding iterate next_force gradient nearest
heavy_pull = refl

-- two rows that push against each other
abbrev opposed : Problem
opposed =
    record {
      m = 2;
      nv = 1;
      g = λ i k. cond (i == 0) (pos (2 ^ 24)) (neg_ℤ (pos (2 ^ 24)));
      r = λ i. pos 1;
      b = λ i. neg_ℤ (pos (2 ^ 32));
      low = λ i. Some (pos 0);
      high = λ i. None;
    }

opposed_stop : stop_of opposed (pos 43) 1 ≡ Limit 1
unfolding iterate next_force gradient nearest cost
opposed_stop = refl

opposed_forces : (iterate opposed 1 0 ≡ pos 1048576) × (iterate opposed 1 1 ≡ pos 2097152)
unfolding iterate next_force gradient nearest
opposed_forces = (refl, refl)

opposed_shortfall : int_lt (pos shortfall_limit) (shortfall_to opposed (iterate opposed 1) 1) ≡ true
unfolding iterate next_force gradient nearest shortfall
opposed_shortfall = refl

-- a third row at another dof, whose box is as wide as its small regularizer leaves it
abbrev apart : Problem
apart =
    record {
      m = 3;
      nv = 2;
      g = λ i k. cond (i == 2) (cond (k == 1) (pos (2 ^ 24)) (pos 0)) (cond (k == 0) (pos (2 ^ 24)) (pos 0));
      r = λ i. cond (i == 2) (pos 1) (pos (2 ^ 48));
      b = λ i. cond (i == 2) (pos 0) (neg_ℤ (pos (2 ^ 46)));
      low = λ i. Some (pos 0);
      high = λ i. None;
    }

apart_stop : stop_of apart (pos 43) 1 ≡ Limit 1
unfolding iterate next_force gradient nearest cost
apart_stop = refl

apart_box : where_open (apart.high 2) (rise_up apart (iterate apart 1) 2) ≡ 2 ^ 56
unfolding iterate next_force gradient nearest shortfall total_shortfall
apart_box = rise_is (gradient apart (iterate apart 1) 2) (pos 1) (left_to apart (iterate apart 1) 2) (2 ^ 56 - 1) (omega (arith, ints)) refl refl

-- ---- no rows
no_rows : (limit : ℕ) → stop_of (rows 0 (pos 1) (pos 0) None None) (pos 43) limit ≡ NoRows
no_rows limit = refl
