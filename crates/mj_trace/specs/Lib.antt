pub mod Block
pub mod Lines
pub mod Refusal
pub mod Reports
pub mod Summaries
pub mod Trace
pub mod Verdicts
pub mod Wanted
