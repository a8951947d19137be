pub mod ItemLemmas
pub mod OperandLemmas
pub mod PlanLemmas
pub mod SetLemmas
