pub mod NumberLaws
pub mod FitLaws
pub mod RowLaws
