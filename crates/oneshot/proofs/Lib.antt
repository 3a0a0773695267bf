pub mod SearchLaws
pub mod FoundLaws
pub mod PartLaws
pub mod StandLaws
pub mod OwnerLaws
pub mod FeedLaws
pub mod ReadLaws
pub mod WholeLaws
