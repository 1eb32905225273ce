pub mod SettingsTold
pub mod SetCarried
