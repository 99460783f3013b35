-- What a number finds; the rules are in `account`.
pub mod Found
