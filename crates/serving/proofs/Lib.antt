mod Asking
pub mod Carried
mod CodeSizes
mod Deciding
mod Doing
mod Ends
mod Everywhere
mod Fitting
mod Lists
pub mod Looks
mod Members
mod OldBlocks
mod OneTurn
mod Runs
mod Shown
mod Spelled
mod Stepping
mod Taking
mod Voting
mod Waiting
