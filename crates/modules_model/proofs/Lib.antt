pub mod Lists
pub mod Tells
pub mod Standing
pub mod Given
pub mod Printed
pub mod Stages
