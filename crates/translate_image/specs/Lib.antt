-- How a list is written, and that an accepted program's table has all that the walk asks of a table.
pub mod Onward
pub mod AcceptedTable
