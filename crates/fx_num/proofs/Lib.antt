pub mod Losses
pub mod RatioLaws
pub mod RoundLaws
