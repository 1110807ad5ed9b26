pub mod FaceLaws
pub mod RowLaws
