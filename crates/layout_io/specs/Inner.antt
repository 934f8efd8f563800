-- Words of contracts within the project, which no promise reaches.
pub mod MemoryShelf
pub mod MemorySink
pub mod Parts
pub mod ShelfEntries
