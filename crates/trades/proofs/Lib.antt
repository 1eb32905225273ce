pub mod Trades
pub mod HitsLaws
