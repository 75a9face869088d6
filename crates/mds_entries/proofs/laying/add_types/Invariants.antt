use Rattle.std.proofs.Common.{◌≡◌, ◌++◌, codes, take, string_bytes}
use Rattle.std.specs.List.{flat_map}
use Rattle.mds_batch.specs.Texts.{quoted_text}
use Rattle.mds_entries.proofs.laying.add_types.Given as goal

-- the texts of the names so far are added, each behind a comma
abbrev pub invariant-loop-name : goal.invariant-loop-name
invariant-loop-name l =
    string_bytes l.text
    ≡ string_bytes l.initial.text ++ flat_map (λ item. codes "," ++ quoted_text item) (take l.name-index l.rest)
