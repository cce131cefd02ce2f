pub mod Parts
pub mod Reading
pub mod Laws
pub mod Numbers
pub mod Codecs
pub mod Kinds
pub mod Values
