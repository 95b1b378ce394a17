-- What the contracts of this crate and of sums say of terms: a sum is the list of its terms, in row order.
--   Coefficient   the one real of a coefficient   Rotation     t, tdg, rz, p, rzz, from the old values
--   Term          a term, gates on it             Branch       the same rotation, in place
--   Start         term lines and their merge      Channel      the six channels
--   Truncation    the drop of small terms         Mean         the mean
--   Letters       how many letters are Y          Met          how many terms have a letter at given qubits
pub mod Lists
pub mod Coefficient
pub mod Term
pub mod Start
pub mod Rotation
pub mod Branch
pub mod Channel
pub mod Truncation
pub mod Mean
pub mod Met
