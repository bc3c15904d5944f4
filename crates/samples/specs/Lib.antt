pub mod PickGoDrop
