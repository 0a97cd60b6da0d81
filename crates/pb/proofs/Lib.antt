-- Laws of sums: terms, the normal form, the rules, assignments; and worked answers.
pub mod Answers
pub mod Terms
pub mod Normal
pub mod Rules
pub mod Truth
pub mod TruthCases
