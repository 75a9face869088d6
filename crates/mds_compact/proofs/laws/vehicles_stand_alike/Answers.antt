use Rattle.mds_core.specs.History.{requests_of}
use Rattle.mds_compact.proofs.Alike.{IsLeft, alike_compacted, standing_alike}
use Rattle.mds_compact.proofs.laws.vehicles_stand_alike.Goals as goal

pub returns : goal.returns
returns c = λ tables from old new key lawful compaction.
    let all = requests_of old key in
    let kept = requests_of new key in
    standing_alike (IsLeft all kept) all kept (alike_compacted tables from all kept (lawful key) (compaction key))
