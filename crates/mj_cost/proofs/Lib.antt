-- The lemmas of this crate: cite each as Rattle.mj_cost.proofs.CostLaws.{NAME}. The definitions are in specs/.
pub mod CostLaws
