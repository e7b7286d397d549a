pub mod Sound
pub mod SoundComp
pub mod SoundQuery
pub mod Complete
pub mod CompleteQuery
pub mod Exact
pub mod Place
