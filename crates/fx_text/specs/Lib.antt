pub mod Decimal
pub mod Prefixes
pub mod Numeral
pub mod Parts
pub mod Places
pub mod Raw
