use Rattle.std.proofs.Common.{inl, inr}
use Rattle.mds_http.proofs.response.json.write_fault.Goals as goal

pub returns-in-Missing : goal.returns-in-Missing
returns-in-Missing g c plain ok =
    let written = rw c.word-word.ensures at (c.write-in-Missing.ensures.writes plain ok) in
    elim c.in-Missing.is [
      | inl missing ↦ rw missing (rw missing at written)
      | inr bad ↦ rw bad (rw bad at written)
    ]
