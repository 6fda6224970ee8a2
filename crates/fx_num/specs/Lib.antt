pub use Rattle.fx_whole.specs.First as First
pub use Rattle.fx_whole.specs.Nearest as Nearest
pub mod Radii
pub mod Refusals
pub mod Scalars
pub mod Settled
