pub use Rattle.mds_core.specs.Headline
-- Of a request.
pub mod Asked
pub mod Head
pub mod Method
pub mod Fields
pub mod Routes
pub mod Plan
pub mod HeadStatus
pub mod PlanLaws
-- Of its answer.
pub mod Found
pub mod Verdicts
pub mod Json
pub mod Bodies
pub mod AnswerHead
pub mod Answer
pub mod VerdictLaws
