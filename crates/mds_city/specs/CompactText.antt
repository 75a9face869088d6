-- What is printed of a compaction.
use Rattle.std.specs.Prelude.{ℕ, List, ◌++◌, codes, decimal}
use Rattle.std.specs.List.{flat_map}
use Rattle.uuid.specs.Text.{hyphenated_text, lower}
use Rattle.mds_io.specs.Page.{with_newline}
use Rattle.mds_retention.specs.declared.compacting.Compacted.{Compacted}
use Rattle.mds_retention.specs.declared.compacting.CutTotals.{CutTotals}
use Rattle.mds_retention.specs.declared.passes.Totals.{Totals}

-- the line of a vehicle of which events are cut
abbrev pub cut_line : CutTotals → List ℕ
cut_line told =
    codes "cut " ++ hyphenated_text lower told.cut.key.provider
    ++ codes " " ++ hyphenated_text lower told.cut.key.device ++ codes " "
    ++ decimal told.cut.events ++ codes " of " ++ decimal told.events

-- a line for each of them
abbrev pub cut_lines : List CutTotals → List ℕ
cut_lines cuts = flat_map (λ told. with_newline (cut_line told)) cuts

-- the line of the totals
abbrev pub compact_line : Totals → List ℕ
compact_line totals =
    codes "registrations " ++ decimal totals.registrations ++ codes " events "
    ++ decimal totals.kept ++ codes " of " ++ decimal totals.events

-- all of it
abbrev pub compacted_text : Compacted → List ℕ
compacted_text compacted =
    cut_lines compacted.cuts.items ++ with_newline (compact_line compacted.totals)
