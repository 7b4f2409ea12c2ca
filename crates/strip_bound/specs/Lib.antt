pub mod Firsts
pub mod CutLists
pub mod Kept
