use Rattle.std.proofs.Common.{ℕ, inl, inr}
use Rattle.mds_commands.specs.declared.problem.Problem.{Problem}
use Rattle.mds_commands.specs.declared.problem.Problem.TheVariants.{CannotRead, NotATable, NotABatch, NotLines, Socket, Random, Output, Memory}
use Rattle.mds_city.specs.Host.{TableFile}
use Rattle.mds_commands.specs.Change.{Change, change_of}
use Rattle.mds_city.specs.Serve.{StopsBefore}
use Rattle.mds_city.proofs.serve.serve_at.Goals as goal

module _ {L T : Type 0} (listens : L → ℕ → Type 0) (table : TableFile T) where
  -- whatever the problem, nothing went out before it, or a front of the first line
  out_before : (problem : Problem) (out : Change) → StopsBefore listens table problem out
      → StopsBefore listens table Memory out
  out_before (CannotRead path) out stops = inl stops.1
  out_before (NotATable fault) out stops = inl stops.1
  out_before (NotABatch fault) out stops = absurd stops
  out_before (NotLines fault) out stops = absurd stops
  out_before Socket out stops = inl stops.2
  out_before Random out stops = inl stops.2
  out_before Output out stops = inr stops
  out_before Memory out stops = stops

pub returns-in-Err : goal.returns-in-Err
returns-in-Err g c =
    let stops = c.in-Err.ensures.err in
    let table : TableFile _ = record { bytes = g.T.Read.remaining; file = c.args.table } in
    let out : Change = change_of (g.W.Write.contents c.args.out.now) (g.W.Write.contents c.begin.new.out) in
    elim c.tell.ensures [
      | inl told ↦ inl (c.in-Err.problem, stops, told)
      | inr told ↦ inl (
        Memory,
        out_before (g.H.Listens.listens c.args.host.now c.args.asked.port) table c.in-Err.problem out stops,
        told,
      )
    ]
