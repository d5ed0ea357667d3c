pub mod Records
pub mod KindRows
