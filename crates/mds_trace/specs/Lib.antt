-- Definitions that the contracts cite.
pub use Rattle.mds_core.specs.Reported
pub use Rattle.mds_steps.specs.LeastChain
-- Of a replay.
pub mod Items
pub mod Verdict
pub mod Replay
pub mod Followed
pub mod Replayer
pub mod UnlimitedReplay
pub mod ReplayLaws
pub mod Parts
pub mod WithFault
-- Of sessions, and of a stream's lines.
pub mod Walk
pub mod Session
pub mod SessionFault
pub mod SessionLaws
pub mod MidwayLaws
pub mod Feeding
pub mod LineReport
pub mod LinesTaken
-- Of the debugger's script.
pub mod Script
pub mod Input
pub mod Printed
pub mod Vehicle
