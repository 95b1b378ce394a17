-- Demand 2 over the published form, of the bytes of a sheet. Of its runs the claims are OneReal and OnePart of published.
pub mod Answer
