-- A write that is synced.
use Rattle.mds_journal.specs.declared.device.DeviceError.{DeviceError}
use Rattle.mds_journal.specs.declared.step.Step.{Step}
use Rattle.mds_journal.specs.declared.step.Step.TheVariants.{Done, NotWritten, NotSynced}

-- this holds if both were done
abbrev pub IfDone : Step → Type 0 → Type 0
IfDone Done P = P
IfDone (NotWritten error) P = Unit {0}
IfDone (NotSynced error) P = Unit {0}

-- this holds if the write failed
abbrev pub IfNotWritten : Step → Type 0 → Type 0
IfNotWritten Done P = Unit {0}
IfNotWritten (NotWritten error) P = P
IfNotWritten (NotSynced error) P = Unit {0}

-- this holds unless the sync failed
abbrev pub UnlessNotSynced : Step → Type 0 → Type 0
UnlessNotSynced Done P = P
UnlessNotSynced (NotWritten error) P = P
UnlessNotSynced (NotSynced error) P = Unit {0}

-- this holds of what the device told, if it did
abbrev pub IfFailed : Step → (DeviceError → Type 0) → Type 0
IfFailed Done P = Unit {0}
IfFailed (NotWritten error) P = P error
IfFailed (NotSynced error) P = P error
