pub mod Same
pub mod Fitting
pub mod Bounds
pub mod SumLaws
