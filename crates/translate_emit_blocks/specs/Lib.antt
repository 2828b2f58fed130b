-- Jumps over parts whose end was not known when they were begun.
pub mod Jumps
