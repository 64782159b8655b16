mod ArrayLengths
mod CallForms
mod ExpressionForms
mod Maps
mod Remainders
mod StatementForms
mod TurnSums
mod UnitSums
