pub mod Printed
pub mod Written
