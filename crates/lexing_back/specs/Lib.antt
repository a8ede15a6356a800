pub mod LexingBack
