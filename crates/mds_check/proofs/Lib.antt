pub mod StateLemmas
pub mod TableLemmas
pub mod FormLemmas
pub mod GroupLemmas
pub mod LawLemmas
