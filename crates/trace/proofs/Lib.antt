pub mod WholeTexts
pub mod PrintedTexts
pub mod Margins
pub mod LinesTold
pub mod CalledEnds
