pub mod sequences
