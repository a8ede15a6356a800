pub mod EarlyBack
