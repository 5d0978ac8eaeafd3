pub mod ZipLemmas
pub mod CompatibleLemmas
pub mod ClashLemmas
pub mod RowLemmas
pub mod IndexLemmas
pub mod SearchLemmas
