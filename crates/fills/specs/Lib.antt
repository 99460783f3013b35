-- What a fill posts, and what a fill and a cancel may take off; the rules are in `account`.
pub mod Posts
pub mod Takes
