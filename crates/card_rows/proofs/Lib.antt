pub mod BlankRows
