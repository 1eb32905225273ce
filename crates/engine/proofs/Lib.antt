pub mod Proceeding
pub mod RunsLaws
pub mod OneCallLaws
pub mod HostsLaws
pub mod SheetsLaws
