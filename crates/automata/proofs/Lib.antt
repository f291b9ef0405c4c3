-- What runs of automata tell of forms: from single runs up to the theorem of specs/Told.
pub mod Runs
pub mod Moves
pub mod Paths
pub mod Acting
pub mod Closed
pub mod Ended
pub mod Meet
pub mod Nullable
pub mod Cut
pub mod Coded
pub mod Lists
pub mod Decide
pub mod Stacks
pub mod Told
