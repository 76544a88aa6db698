pub mod SlotBytes
