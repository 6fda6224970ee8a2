-- The lemmas of this crate, by file: cite each as Rattle.mj_quadratic.proofs.FILE.{NAME}. The definitions are in specs/. With a star: a public
-- call of src/laws.rt has the law as its clause.
--
-- Sizes, of sums of products of naturals: sum_ℕ_to-zero, -swap, twice, form_weighs (a form by the sums of its rows), largest, products_below
-- FormLaws, of `form` (specs/Forms): form_is_squares (that of L^T D L), form_of_error, form_of_less, form_size;  less_, error_is_symmetric
-- BallLaws: form_at_least (y . m y is at least low y . y), ball_holds *
pub mod BallLaws
pub mod FormLaws
pub mod Sizes
