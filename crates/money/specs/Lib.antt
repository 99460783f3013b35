-- What one contract is charged; the rules are in `rules` and `account`.
pub mod Charged
