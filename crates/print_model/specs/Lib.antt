pub mod Printed
pub mod PrintedFiles
pub mod Examples
