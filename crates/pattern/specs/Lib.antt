pub mod Regex
pub mod Character
pub mod Grammar
pub mod Reading
pub mod Automaton
pub mod Links
pub mod Hits
pub mod Answers
