pub mod RequestRows
pub mod ScriptRows
pub mod TextRows
