pub mod Synods
