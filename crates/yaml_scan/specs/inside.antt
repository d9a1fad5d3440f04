-- The running code: what a scanner, its queue and its slots hold. Contracts of public calls need only how a parser is
-- seen and kept (Ready.antt and Kept.antt).
pub mod Slots
pub mod Opened
pub mod TextReads
pub mod Stop
pub mod Queue
pub mod Scanner
pub mod StepFaults
pub mod StepParts
pub mod NearFault
pub mod Holding
pub mod Scanning
pub mod TextGoesOn
pub mod Handed
pub mod Given
pub mod MoreTaken
pub mod Ready
pub mod Shown
pub mod Kept
pub mod Sent
pub mod KeptParts
pub mod KeptEnds
pub mod Feeding
