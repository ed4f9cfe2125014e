pub mod Keys
pub mod RuleHolds
