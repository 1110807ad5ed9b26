pub mod Mend
pub mod MendTerms
pub mod MendClaim
