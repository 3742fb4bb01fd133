mod Members
mod Cuts
pub mod GivenTasks
mod NodesTell
mod BuffersTell
mod ExtentsTell
mod ArraysTell
mod NameTables
mod LeavesTell
mod FirstFaults
pub mod HeadsTell
