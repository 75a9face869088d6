pub mod ProgramLemmas
pub mod CutLemmas
