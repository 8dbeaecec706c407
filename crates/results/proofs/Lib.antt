-- Laws of the slices that results are written to.
pub mod RoomLaws
pub mod Filling
pub mod SameLaws
