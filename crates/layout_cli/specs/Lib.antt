pub mod Run
pub mod EqualScripts
pub mod Generated
pub mod Numbers
