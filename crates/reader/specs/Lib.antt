-- What a reader answers, and where it stands afterwards.
pub mod Reader
