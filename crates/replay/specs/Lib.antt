-- What is promised of a list of calls that the code runs, in the order in which to read it.
pub mod Running
pub mod Replay
