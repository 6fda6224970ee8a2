pub mod CoverLaws
pub mod DyadicLaws
pub mod QuotientLaws
pub mod RadiusLaws
pub mod RootCovers
