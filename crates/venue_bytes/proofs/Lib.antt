pub mod Rows
pub mod Widths
pub mod BytesBack
pub mod Zeros
