pub mod Values
pub mod Heap
pub mod Methods
pub mod Valid
pub mod Laws
