-- Views: string lenses over regular forms. What a reader of the contracts has to believe.
pub mod Forms
pub mod Views
pub mod Clear
pub mod Laws
pub mod Cases
pub mod Needed
