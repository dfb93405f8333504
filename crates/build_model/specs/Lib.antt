pub mod Unbuilt
pub mod Renamed
pub mod ModuleNames
pub mod ByText
pub mod SourceFiles
