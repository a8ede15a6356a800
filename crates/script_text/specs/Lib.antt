pub mod CodeLine
pub mod Expressions
pub mod Pieces
pub mod Tokens
pub mod PrintCases
pub mod Printing
pub mod Statements
