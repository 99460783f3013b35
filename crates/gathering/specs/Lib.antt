-- What the functions that gather ask and find; the rules are in `account`.
pub mod Allowed
pub mod Places
