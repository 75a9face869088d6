mod Words
mod Strings
mod Splits
mod Joins
mod Between
mod Items
mod Steps
