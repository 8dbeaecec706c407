-- What gaterun prints, and what the driver's own functions promise each other.
pub mod Playing
pub mod Store
