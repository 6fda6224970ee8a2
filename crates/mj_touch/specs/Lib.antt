pub mod Solids
pub mod Meetings
pub mod Balls
pub mod Planes
pub mod Capsules
pub mod Pairs
pub mod Culling
pub mod Tangents
