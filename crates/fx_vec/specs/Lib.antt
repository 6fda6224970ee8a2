pub use Rattle.fx_num.specs.Radii as Radii
pub mod Vectors
pub mod Spatial
pub mod Sizes
pub mod Widths
pub mod Views
pub mod Room
pub mod Inertias
pub mod Quaternions
pub mod Settling
pub mod Sums
