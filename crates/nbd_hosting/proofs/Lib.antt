mod Standings
mod Stepping
