-- Request #105, expiry day: a request for exercise and an assignment are answered whatever they are, and as the request says.
pub mod Assigned
pub mod Exercised
