-- What the readers of processes promise, and the laws behind it.
pub mod Forms
pub mod ProcessReaders
pub mod Lists
