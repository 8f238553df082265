pub mod NineRules
pub mod ReadPayloads
pub mod RulesInCode
pub mod Verdicts
