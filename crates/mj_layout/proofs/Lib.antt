pub mod PlaceLaws
pub mod Upheld
pub mod SumOrder
pub mod RootLaws
pub mod PlacedLaws
pub mod ListLaws
