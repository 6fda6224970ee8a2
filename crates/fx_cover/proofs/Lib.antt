pub mod VectorCovers
