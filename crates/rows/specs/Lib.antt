pub mod RowNumber
