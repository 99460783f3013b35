-- The exchange's arithmetic, as document 01 states it.
pub mod Charges
pub mod Count
pub mod Margin
pub mod Netting
pub mod Premium
