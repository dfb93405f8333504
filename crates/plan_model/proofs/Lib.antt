pub mod Lists
pub mod Along
pub mod Taking
pub mod Finished
pub mod Walks
pub mod Numbered
pub mod Answered
pub mod Renamed
