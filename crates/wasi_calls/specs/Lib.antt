pub mod HostCalls
pub mod SystemCalls
pub mod NoMemory
pub mod Worked
