-- A half of the FRAM and the checkpoint at its front.
pub mod Fram
pub mod Checkpoint
pub mod Half
pub mod Layout
pub mod Head
pub mod Sealing
pub mod View
