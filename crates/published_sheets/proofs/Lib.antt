--   Sheets      the runs of every sheet's bytes: OneReal and OnePart       LeftLaws    a run leaves at most limit terms
--   Answers     what `answer` replies, leaves and prints                   RowsRead    the rows that a run leaves, read back
pub mod Sheets
pub mod LeftLaws
pub mod RowsRead
pub mod Answers
pub mod Cases
