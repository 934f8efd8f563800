mod Lemmas
mod Imports
pub mod AccessLaws
pub mod AllLaws
pub mod ColumnLaws
pub mod Counted
pub mod EachLaws
pub mod KeptColumns
pub mod KeptLaws
pub mod MoveLaws
pub mod Opened
pub mod PieceLaws
pub mod RowLaws
pub mod RunLaws
pub mod RunMoveLaws
pub mod RunSeenLaws
pub mod RunStoreLaws
pub mod SlotMoveLaws
pub mod StoreLaws
pub mod StoredLaws
pub mod TouchLaws
pub mod WideLaws
pub mod Auto
