pub mod Sum
pub mod Rules
pub mod Normal
pub mod Truth
