pub mod RowsText
