-- What only the logic needs: how instructions and modules are stored, and why recursion over them ends.
pub mod Code
pub mod ModuleCode
pub mod Falls
pub mod Halves
