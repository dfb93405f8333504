pub mod Items
pub mod Answer
