-- The text of a refusal for want of a chain.
use Rattle.std.specs.Prelude.{ℕ, List, ◌++◌, codes}
use Rattle.std.specs.Fmt.{decimal}
use Rattle.mds_steps.specs.declared.admission.NoChain.{NoChain}

-- the words, and the place at which the event gets stuck
abbrev pub no_chain_text : NoChain → List ℕ
no_chain_text fault = codes "no_chain " ++ decimal fault.at
