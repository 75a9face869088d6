-- What a desk is known by, and what one connection does at it.
use Rattle.std.specs.Prelude.{ℕ, List, Option, Result}
use Rattle.mds_table.specs.Tables.{Tables}
use Rattle.mds_core.specs.declared.key.Key.{Key}
use Rattle.mds_core.specs.declared.request.Request.{Request}
use Rattle.mds_core.specs.declared.reply.Reply.{Reply}
use Rattle.mds_core.specs.Reported.{Reported}
use Rattle.mds_book.specs.declared.record_fault.RecordFault.{RecordFault}

-- how a desk answers
pub record DeskRules (S : Type 0) : Type 1 where
  -- by which reply a request leads from a state to the next; by none where there is no memory
  pub calls : S → Request → Option Reply → S → Type 0
  -- by which events of a vehicle a question for them does
  pub gives_events : S → Key → Option (List Reported) → S → Type 0
  -- which tables it gives in a state
  pub gives_rows : S → Tables → Type 0

-- the rules that are these
abbrev pub rules_of : {S : Type 0} → (S → Request → Option Reply → S → Type 0)
    → (S → Key → Option (List Reported) → S → Type 0) → (S → Tables → Type 0) → DeskRules S
rules_of calls gives_events gives_rows =
    record { calls = calls; gives_events = gives_events; gives_rows = gives_rows }

-- how a desk sees to it that what its answers rest on is recorded
pub record RecordRules (S : Type 0) : Type 1 where
  -- in which states that is so, for answers about one vehicle or, with none named, for all
  pub is_kept : S → Option Key → Type 0
  -- where keeping leads, by what it answers
  pub keeps : S → Result (Unit {0}) RecordFault → S → Type 0

-- the rules that are these
abbrev pub record_rules_of : {S : Type 0} → (S → Option Key → Type 0)
    → (S → Result (Unit {0}) RecordFault → S → Type 0) → RecordRules S
record_rules_of is_kept keeps = record { is_kept = is_kept; keeps = keeps }

-- what one connection did: the desk's states and the known bytes of the writer, before and after
pub record Exchange (S : Type 0) : Type 0 where
  pub old : S
  pub new : S
  pub written_old : Option (List ℕ)
  pub written_new : Option (List ℕ)

-- the exchange that is this
abbrev pub exchange_of : {S : Type 0} → S → S → Option (List ℕ) → Option (List ℕ) → Exchange S
exchange_of old new written_old written_new =
    record { old = old; new = new; written_old = written_old; written_new = written_new }
