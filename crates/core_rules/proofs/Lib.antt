pub mod Passing
pub mod Results
pub mod Splits
pub mod Asked
pub mod Looked
pub mod Known
