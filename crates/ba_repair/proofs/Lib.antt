mod Examples
mod Appending
mod NodeForms
mod Counting
mod Copying
mod RowForms
mod EditLists
mod OwnChanges
mod KeptFacts
mod StatementsKept
pub mod Listed
mod Fitting
mod SameUnits
pub mod GoodEdits
mod Passing
