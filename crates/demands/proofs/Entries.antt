-- Demand 2: after every entry of every list, margins, holds, limits, balances and netting are those of document 01.
pub mod AfterEach
pub mod EveryEntry
pub mod ListOfRecords
pub mod OneAnswer
pub mod Posted
pub mod Stepped
pub mod WithEighteen
pub mod WorkedCases
