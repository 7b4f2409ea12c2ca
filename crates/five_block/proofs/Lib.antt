pub mod ScanLemmas
pub mod OrderLemmas
pub mod RootLemmas
