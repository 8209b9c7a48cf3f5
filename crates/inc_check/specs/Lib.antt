pub mod Texts
pub mod ChainLists
pub mod Ahead
pub mod Certificates
pub mod Reading
pub mod CertificateText
pub mod Checking
pub mod Judging
