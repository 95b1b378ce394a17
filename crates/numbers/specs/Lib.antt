-- What the contracts of this crate say. Constants to Angle are the definitions, Close is numeric equality; Fair is what the rule of `shown` comes to, Norm what a
-- pair that is an angle gives; the files of cases are worked values.
pub mod Constants
pub mod Tests
pub mod Root
pub mod Shown
pub mod Bits
pub mod Angle
pub mod Close
pub mod Fair
pub mod Norm
pub mod Cases
pub mod ShownCases
pub mod AngleCases
