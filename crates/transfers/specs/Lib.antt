-- What a lock or an unlock tests and changes, by what it sees; the rules are in `account`.
pub mod Locked
