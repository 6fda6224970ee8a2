pub mod CompositeBodies
pub mod MassEntries
pub mod Written
