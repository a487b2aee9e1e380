-- The nonce ring in flash.
pub mod Ring
pub mod Readable
pub mod View
