-- Demand 2: records that are written read back, and records that are read are written again as the same bytes.
pub mod DayEndLengths
pub mod LentBuffer
pub mod Packing
pub mod ReadBytes
pub mod ReadWritten
pub mod WhatFollows
pub mod WrittenRead
