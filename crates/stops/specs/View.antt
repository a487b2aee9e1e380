-- What the code's answers mean: the number of each stop, 1 to 14 in document 01 and from 15 on in document 02.
use Rattle.std.specs.Prelude.{ℕ, Result, Ok, Err}
use Rattle.std.proofs.Math.Option.{Option, none, some}
use Rattle.stops.specs.declared.Stop.{Stop}
use Rattle.stops.specs.declared.Stop.TheVariants.{RingSize, FramSize, KeyNonceTagSize, BufferSize, RingInUse, RingBlank, RingUnreadable, StaleSession, PagePending, NonceUsed, BadHead, TagDiffers, RestartLimit, BadJob, BadLine, BadChecksum, DataMisplaced, PacketTooLarge, NotFirstSave, BadTrace, BadEntries, NoOrder, BadList, BadKinds, BadValue, PastLastShape}

abbrev pub stop_number : Stop → ℕ
stop_number RingSize = 1
stop_number FramSize = 2
stop_number KeyNonceTagSize = 3
stop_number BufferSize = 4
stop_number RingInUse = 5
stop_number RingBlank = 6
stop_number RingUnreadable = 7
stop_number StaleSession = 8
stop_number PagePending = 9
stop_number NonceUsed = 10
stop_number BadHead = 11
stop_number TagDiffers = 12
stop_number RestartLimit = 13
stop_number BadJob = 14
stop_number BadLine = 15
stop_number BadChecksum = 16
stop_number DataMisplaced = 17
stop_number PacketTooLarge = 18
stop_number NotFirstSave = 19
stop_number BadTrace = 20
stop_number BadEntries = 21
stop_number NoOrder = 22
stop_number BadList = 23
stop_number BadKinds = 24
stop_number BadValue = 25
stop_number PastLastShape = 26

-- the number of the stop that an answer is, or none
abbrev pub check_number : {A : Type 0} → Result A Stop → Option ℕ
check_number (Ok _) = none
check_number (Err s) = some (stop_number s)
