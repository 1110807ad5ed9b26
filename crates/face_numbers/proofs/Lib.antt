pub mod SlotsTold
