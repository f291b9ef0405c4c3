-- What the public calls promise.
pub mod Theorems
pub mod Judged
pub mod Room
pub mod Made
pub mod Put
pub mod Cut
pub mod Admits
pub mod Fits
