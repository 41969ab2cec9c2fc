pub mod Cells
pub mod Moves
pub mod Bodies
pub mod Obeys
pub mod Turns
pub mod Ends
pub mod Threads
