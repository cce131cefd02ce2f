pub mod Suspicions
pub mod Replacements
