use Rattle.std.proofs.Common.{◌++◌, List, drop}
use Rattle.mds_table.specs.declared.state.State.{State}
use Rattle.mds_table.specs.Chain.{Leads}
use Rattle.mds_steps.specs.LeastChain.{IsLeastChain}
use Rattle.mds_steps.proofs.chain.least_chain.Given as goal

-- the rest of the types leads on from the state, and a least chain of them goes on with the states before it
abbrev pub invariant-loop-at : goal.invariant-loop-at
invariant-loop-at l = record {
  leads : Leads l.table l.state (drop l.at l.types) l.fn.reported;
  least : (rest : List State) → IsLeastChain l.table l.state (drop l.at l.types) l.fn.reported rest
      → IsLeastChain l.table l.fn.held l.types l.fn.reported (l.chain.items ++ rest);
}
