-- Names: what each stands for, the refusals 8 to 12, and the resolved program.
pub mod Scope
pub mod Complaints
pub mod Resolve
pub mod AcceptedNames
pub mod ResolvedRows
pub mod FirstComplaint
pub mod Least
pub mod ComplaintOrder
pub mod RowComplaints
pub mod Numbered
