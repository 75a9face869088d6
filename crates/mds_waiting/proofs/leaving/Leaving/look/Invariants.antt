use Rattle.std.proofs.Common.{◌≡◌, ◌⊎◌, ◌≤◌, length}
use Rattle.mds_waiting.specs.declared.part.Part.TheVariants.{Last}
use Rattle.mds_waiting.specs.Peers.{SendsPart, TakesOf}
use Rattle.mds_waiting.proofs.leaving.Leaving.look.Given as goal

abbrev pub invariant-loop : goal.invariant-loop
invariant-loop g l = record {
  sent : SendsPart (g.S.Peer.sent l.initial.self.peer) (g.S.Peer.sent l.self.peer) l.bytes l.initial.self.sent l.self.sent;
  part : (l.self.part ≡ l.initial.self.part) ⊎ (l.self.part ≡ Last);
  thrown : l.initial.self.part ≡ Last → TakesOf (g.S.Peer.coming l.initial.self.peer) (g.S.Peer.coming l.self.peer) l.initial.self.left l.self.left;
  last : l.self.part ≡ Last → (l.initial.self.part ≡ Last) ⊎ (length l.bytes ≤ l.self.sent);
}
