-- What the walk over the syntax table asks of the table, and what each kind of row says of its code.
pub mod Well
pub mod RowCode
