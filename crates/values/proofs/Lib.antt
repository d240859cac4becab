pub mod RingLaws
pub mod Sets
pub mod WordLaws
