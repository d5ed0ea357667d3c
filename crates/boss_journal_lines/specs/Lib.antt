pub mod Reports
pub mod Adoption
