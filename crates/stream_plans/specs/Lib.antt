pub mod Tables
pub mod Contents
pub mod Cuts
pub mod Dealt
