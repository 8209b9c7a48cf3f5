pub mod Breaking
pub mod Judging
pub mod Lines
pub mod Reaching
pub mod RuleTexts
pub mod Rules
pub mod Sides
pub mod Views
