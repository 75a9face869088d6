-- Which cuts words ask for.
use Rattle.std.specs.Prelude.{◌≡◌, List}
use Rattle.std.specs.List.{AllZip}
use Rattle.mds_args.specs.declared.cuts.CutWords.{CutWords}
use Rattle.mds_commands.specs.Debug.{IsNamed}
use Rattle.mds_commands.specs.declared.debug.DebugProblem.{DebugProblem}
use Rattle.mds_commands.specs.declared.debug.DebugProblem.TheVariants.{BadIdentifier, Other}
use Rattle.mds_commands.specs.declared.problem.Problem.TheVariants.{Memory}
use Rattle.mds_compact.specs.declared.cutting.Cut.{Cut}

-- the words name this vehicle, and so many of its events stay
abbrev pub IsCutOf : CutWords → Cut → Type 0
IsCutOf words cut =
    IsNamed (record { provider = words.provider; device = words.device }) cut.key
    × (cut.events ≡ words.events)

-- so it is of each, in order
abbrev pub AreCutsOf : List CutWords → List Cut → Type 0
AreCutsOf words cuts = AllZip IsCutOf words cuts

-- why words ask for no cuts: one of them is no identifier; or memory was refused
abbrev pub ExplainsCuts : List CutWords → DebugProblem → Type 0
ExplainsCuts words BadIdentifier = (cuts : List Cut) → AreCutsOf words cuts → ⊥
ExplainsCuts words (Other Memory) = Unit {0}
ExplainsCuts words other = ⊥
