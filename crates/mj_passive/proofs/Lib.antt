pub mod SumLaws
pub mod JointLaws
pub mod MotorLaws
pub mod TendonLaws
pub mod AppliedLaws
