pub mod Certificate
pub mod Terms
