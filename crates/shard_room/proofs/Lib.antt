pub mod Fitting
pub mod Sizes
pub mod Seats
pub mod Keeping
pub mod Results
pub mod Laws
pub mod Begun
pub mod Returned
