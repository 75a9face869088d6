-- Of a request.
pub mod FieldLemmas
pub mod HeadLemmas
pub mod PlanLaws
pub mod RouteLemmas
-- Of its answer.
pub mod BodyLaws
pub mod ListTexts
pub mod VerdictLaws
