pub mod Quorums
pub mod Tallies
pub mod Memberships
