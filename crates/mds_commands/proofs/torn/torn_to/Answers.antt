use Rattle.std.proofs.Common.{◌≡◌, ◌<◌, List, ℕ, length, take, inr, refl, rules, subst}
use Rattle.std.specs.Io.KnownBytes.{Appends}
use Rattle.mds_commands.specs.Torn.{torn_text}
use Rattle.mds_commands.proofs.torn.torn_to.Goals as goal

pub returns-in-Err : goal.returns-in-Err
returns-in-Err g c =
    let contents = g.E.Write.contents in
    let sent = c.in-Err.field-0.sent in
    let line : c.as_bytes.result.now ≡ torn_text c.args.shard c.args.place = search rules in
    let cut = subst
    (λ (bytes : List ℕ). (sent < length bytes) × Appends (contents c.args.faults.now) (contents c.write_all_of.new.writer) (take sent bytes))
    line c.in-Err.ensures.err in
    inr (refl, (sent, cut.0, cut.1))
