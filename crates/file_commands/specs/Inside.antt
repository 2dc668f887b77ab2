-- What only private clauses name.
pub mod Chosen
pub mod Script
pub mod Written
