-- What a run came to, in place of its trace. A format of this project's own.
use Rattle.std.specs.Prelude.{ℕ, ℤ, List, ◌++◌, codes, decimal}
use Rattle.std.specs.Fmt.{signed_decimal}
use Rattle.fx_text.specs.Places.{decimal_text}
use Rattle.fx_whole.specs.Joined.{joined}
use Rattle.mj_types.specs.declared.rows.Summary.{Summary}
use Rattle.mj_trace.specs.Lines.{line}
use Rattle.mj_trace.specs.Trace.{end_text}

abbrev pub steps_text : Summary → List ℕ
steps_text s = ((codes "steps " ++ decimal s.done) ++ (codes " of " ++ decimal s.steps)) ++ codes "\n"

abbrev pub row_sums_text : Summary → List ℕ
row_sums_text s = ((codes "rows " ++ decimal s.rows) ++ (codes " idle " ++ decimal s.idle)) ++ codes "\n"

unfoldable pub sweeps_text : Summary → List ℕ
sweeps_text s =
    ((((codes "sweeps " ++ decimal s.sweeps) ++ (codes " tolerance " ++ decimal s.tolerance)) ++ (codes " limit " ++ decimal s.limit))
    ++ (codes " none " ++ decimal s.none)) ++ codes "\n"

-- f 0, .., f (n - 1) with nine decimal places, each after a space
abbrev pub places_text : ℕ → (ℕ → ℤ) → List ℕ
places_text n f = joined n (λ i. codes " " ++ decimal_text 9 (f i))

-- the run's end, its sums and its last state
unfoldable pub summary_text : ℕ → ℕ → Summary → (ℕ → ℤ) → (ℕ → ℤ) → List ℕ
summary_text nq nv s q v =
    ((((((steps_text s ++ end_text s.end) ++ row_sums_text s) ++ sweeps_text s) ++ line (codes "gap ") (signed_decimal s.gap))
    ++ line (codes "residual ") (signed_decimal s.residual))
    ++ line (codes "q") (places_text nq q))
    ++ line (codes "v") (places_text nv v)
