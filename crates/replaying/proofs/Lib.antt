pub mod CallLemmas
pub mod PairLemmas
