-- Demand 1: every input gets an answer, by number, in one outcome, and a refusal leaves everything as it was.
pub mod BooksTold
pub mod EntriesTold
pub mod EveryInput
pub mod LentSlices
pub mod NoEighteen
pub mod OneOutcome
pub mod PaperNumbers
pub mod ReaderTold
pub mod RecordsTold
pub mod RunsTold
pub mod Told
