pub mod Resolving
pub mod Scopes
pub mod FreshNames
pub mod TemplateSearch
pub mod TemplateFormals
