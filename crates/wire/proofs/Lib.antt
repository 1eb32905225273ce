pub mod Twos
pub mod Numbers
pub mod Decoding
pub mod Encoding
