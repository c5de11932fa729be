pub mod Model
pub mod Taking
pub mod Once
