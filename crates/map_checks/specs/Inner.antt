-- Words of contracts within the project, which no promise reaches.
pub mod ByteRules
pub mod Faults
pub mod InnerCells
pub mod LeafCells
pub mod LeafOrders
pub mod Orders
pub mod Splits
