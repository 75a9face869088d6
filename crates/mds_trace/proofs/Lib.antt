-- Lemmas of this crate: of a replay.
pub mod Following
pub mod Entries
pub mod Mentions
pub mod Asks
pub mod Verdicts
pub mod Keeping
pub mod Replaying
pub mod Ends
pub mod Turns
pub mod Runs
pub mod Asked
pub mod OneVerdict
pub mod OneReport
pub mod Places
pub mod Puts
pub mod Own
pub mod Shares
pub mod Collected
-- Of sessions, and of a stream's lines.
pub mod SessionLemmas
pub mod Passed
pub mod Lawful
pub mod Accepted
pub mod FeedingLemmas
pub mod Told
pub mod Midway
-- Of the debugger's script.
pub mod ScriptLemmas
pub mod MoveLemmas
pub mod WalkLemmas
pub mod VehicleLemmas
pub mod InputLemmas
