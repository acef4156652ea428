pub mod ReadCnf
pub mod CnfText
