-- What the items of a batch ask for, and their turns at a desk.
use Rattle.std.specs.Prelude.{◌≡◌, ◌++◌, ◌∷◌, List, [], Option, Some, None}
use Rattle.mds_core.specs.declared.request.Request.{Request}
use Rattle.mds_core.specs.declared.reply.Reply.{Reply}
pub use Rattle.mds_batch.specs.Asking.{registration_of, report_in}

-- the turn of an item: nothing is done for one that asks for nothing; else the call is made, and
-- its reply stands behind the others
abbrev pub IsTurn : {S : Type 0} → (S → Request → Option Reply → S → Type 0)
    → S → Option Request → List Reply → S → List Reply → Type 0
IsTurn Calls old None replies new told = (new ≡ old) × (told ≡ replies)
IsTurn Calls old (Some request) replies new told =
    (reply : Reply) × Calls old request (Some reply) new × (told ≡ replies ++ reply ∷ [])

-- the turn of an item whose call finds no memory
abbrev pub IsLastTurn : {S : Type 0} → (S → Request → Option Reply → S → Type 0)
    → S → Option Request → List Reply → S → List Reply → Type 0
IsLastTurn Calls old None replies new told = ⊥
IsLastTurn Calls old (Some request) replies new told = Calls old request None new × (told ≡ replies)
