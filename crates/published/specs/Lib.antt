-- The published form: a complex coefficient to a term. Names are those of terms, turns and runs, whose rows hold one real.
--   Complex       a complex coefficient, and what a number stands for      Ops, Turn, Runs, Outcome   ops, turns and runs
--   Term, Start   terms, and those that a run starts from                  Parity                     which part of a coefficient is zero
--   Rotation, Channel, Truncation, Mean, Met   the steps                   OneReal                    the two forms name the same coefficients
--   Cases         worked values                                            OnePart                    one part of every coefficient is zero
pub mod Complex
pub mod Term
pub mod Start
pub mod Rotation
pub mod Channel
pub mod Truncation
pub mod Mean
pub mod Met
pub mod Parity
pub mod Ops
pub mod Turn
pub mod Runs
pub mod Outcome
pub mod OneReal
pub mod OnePart
pub mod Cases
