pub mod ReportLaws
pub mod SessionCalls
pub mod SessionLaws
pub mod ExplainingLaws
pub mod SameCalls
pub mod MovingLaws
