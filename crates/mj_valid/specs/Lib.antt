pub mod Start
pub mod Judging
pub mod Sound
