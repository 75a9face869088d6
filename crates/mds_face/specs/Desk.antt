-- What a desk does.
use Rattle.std.specs.Prelude.{◌≡◌, List, [], ◌∷◌, Option, Some, None}
use Rattle.mds_core.specs.declared.request.Request.{Request}
use Rattle.mds_core.specs.declared.reply.Reply.{Reply}
use Rattle.mds_core.specs.Machine.{Machine, Steps, LacksMemory}

-- the calls of these requests are made in turn, each once: each leads by its reply to the next
-- state, up to the last, or up to the first that finds no memory
abbrev pub AreCalls : {S : Type 0} → (S → Request → Option Reply → S → Type 0)
    → S → List Request → List Reply → S → Type 0
AreCalls Calls old [] [] new = new ≡ old
AreCalls Calls old [] (reply ∷ replies) new = ⊥
AreCalls Calls old (request ∷ requests) [] new = Calls old request None new
AreCalls {S} Calls old (request ∷ requests) (reply ∷ replies) new =
    (middle : S)
    × Calls old request (Some reply) middle × AreCalls Calls middle requests replies new

-- a machine's calls are its steps
abbrev pub FleetCalls : Machine → Request → Option Reply → Machine → Type 0
FleetCalls old request (Some reply) new = Steps old request reply new
FleetCalls old request None new = LacksMemory old request new
