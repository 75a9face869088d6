use Rattle.std.proofs.Common.{◌≡◌, ◌⊎◌, ◌≤◌, length, max}
use Rattle.std.specs.Io.KnownBytes.{Keeps}
use Rattle.mds_waiting.specs.declared.part.Part.TheVariants.{Request}
use Rattle.mds_waiting.specs.Peers.{Grows}
use Rattle.mds_waiting.specs.Requests.{max_request}
use Rattle.mds_waiting.proofs.coming.Coming.look.Given as goal

abbrev pub invariant-loop : goal.invariant-loop
invariant-loop g l = record {
  grows : Grows (g.S.Peer.coming l.initial.self.peer) (g.S.Peer.coming l.self.peer) l.initial.bytes.items l.bytes.items;
  sent : Keeps (g.S.Peer.sent l.initial.self.peer) (g.S.Peer.sent l.self.peer);
  bound : length l.bytes.items ≤ max (length l.initial.bytes.items) max_request;
  part : (l.self.part ≡ l.initial.self.part) ⊎ (l.self.part ≡ Request);
  room : length l.room ≡ length l.initial.room;
}
