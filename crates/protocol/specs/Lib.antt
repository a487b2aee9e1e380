-- What the operations answer and leave, the journal, lists of calls and power losses, and the theorem Recovery.
pub mod Types
pub mod Calls
pub mod Operations
pub mod Journal
pub mod History
pub mod Recovery
pub mod Histories
pub mod Entries
pub mod Older
pub mod Beyond
pub mod Orders
pub mod Keys
