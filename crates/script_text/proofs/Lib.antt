pub mod PrintCases
