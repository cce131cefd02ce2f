pub mod CodewordLaws
pub mod StripeLaws
mod DecodingLaws
mod ParityLaws
mod WritingLaws
