pub mod Faults
pub mod SelectedChild
pub mod Switched
pub mod Deeds
pub mod TextParts
pub mod Filled
pub mod Tests
