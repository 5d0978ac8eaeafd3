pub mod PrintedRows
pub mod Printed
