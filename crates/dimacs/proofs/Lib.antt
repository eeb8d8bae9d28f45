mod WorkedRows
mod Pieces
mod ByteSearch
mod DigitLemmas
pub mod Items
pub mod Problems
pub mod Others
pub mod Alikes
pub mod AlikeNumbers
mod AlikeTexts
pub mod AlikeGroups
mod ShortEnds
mod Remarks
mod Fronts
pub mod Beyond
mod BeyondTexts
mod Told
mod Far
mod Calls
pub mod Fitting
pub mod TextEnds
mod Networks
pub mod NodeRows
mod NodeItems
mod TextNodes
pub mod Sets
pub mod CommandRows
pub mod GroupCodes
pub mod GroupRows
pub mod Spelled
mod FirstFaultLemmas
mod NextBytes
