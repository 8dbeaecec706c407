-- What the calls over a list of records promise.
pub mod Promise
