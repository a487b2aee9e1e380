-- Settings in the open part.
pub mod Settings
pub mod Rules
