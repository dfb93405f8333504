pub mod Bodies
pub mod Sides
pub mod Formers
pub mod Heads
pub mod Answers
