pub mod Numbers
pub mod Tables
pub mod Built
pub mod Admitted
