-- The lemmas of this crate, by file: cite each as Rattle.mj_quat.proofs.FILE.{NAME}. The definitions are in specs/.
pub mod SineLaws
pub mod RotationLaws
pub mod LengthLaws
