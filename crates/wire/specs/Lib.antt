-- What the bytes of a message bring.
pub mod Brought
