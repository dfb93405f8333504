pub mod ModuleTexts
pub mod AllBuilt
