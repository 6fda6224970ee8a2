-- The lemmas of this crate, by file: cite each as Rattle.mj_pgs.proofs.FILE.{NAME}. The definitions are in specs/.
pub mod BoundLaws
pub mod RowLaws
pub mod RunLaws
pub mod ShiftLaws
pub mod StartLaws
pub mod SweepLaws
