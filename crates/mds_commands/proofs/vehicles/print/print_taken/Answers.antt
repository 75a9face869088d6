use Rattle.std.proofs.Common.{◌≡◌, List, [], true, false, append-nil, sym, subst, rules}
use Rattle.std.proofs.lemmas.Result.{on_err_weaker}
use Rattle.mds_table.specs.Tables.{Tables}
use Rattle.mds_core.specs.declared.request.Request.{Request}
use Rattle.mds_io.specs.Page.{AppendsFront, with_newline}
use Rattle.mds_io.proofs.PageLemmas.{front_of_more, passes_front}
use Rattle.mds_commands.specs.ListingText.{counts_line, listing_text, printed_text}
use Rattle.mds_commands.specs.Roster.{IsRosterOf}
use Rattle.mds_commands.proofs.vehicles.print.print_taken.Goals as goal

pub returns-then-not-check-clause-err : goal.returns-then-not-check-clause-err
returns-then-not-check-clause-err g c =
    let old = g.W.Write.contents c.args.writer.now in
    let new = g.W.Write.contents c.print_roster.new.writer in
    let taken = c.args.taken.now in
    let no : c.args.check ≡ false = search rules in
    on_err_weaker c.print_roster.result
    (λ stopped tables history is. subst (λ check. AppendsFront old new (printed_text check history taken.lines taken.groups)) (sym no) (stopped tables history is))
    c.print_roster.ensures.err

pub returns-in_err-print_roster-clause-err : goal.returns-in_err-print_roster-clause-err
returns-in_err-print_roster-clause-err g c =
    let old = g.W.Write.contents c.args.writer.now in
    let new = g.W.Write.contents c.print_roster-2.new.writer in
    let taken = c.args.taken.now in
    let yes : c.args.check ≡ true = search rules in
    let front : (tables : Tables) (history : List Request) → IsRosterOf tables history taken.roster
    → AppendsFront old new (printed_text c.args.check history taken.lines taken.groups) = λ tables history is.
    subst (λ check. AppendsFront old new (printed_text check history taken.lines taken.groups)) (sym yes)
    (front_of_more old new (listing_text history) (with_newline (counts_line taken.lines taken.groups)) (c.in_err-print_roster.ensures.err tables history is)) in
    search rules

pub returns-clause-err : goal.returns-clause-err
returns-clause-err g c =
    let old = g.W.Write.contents c.args.writer.now in
    let middle = g.W.Write.contents c.print_roster-2.new.writer in
    let new = g.W.Write.contents c.print_counts.new.writer in
    let taken = c.args.taken.now in
    let yes : c.args.check ≡ true = search rules in
    on_err_weaker c.print_counts.result
    (λ stopped tables history is.
    let listing = listing_text history in
    subst (λ check. AppendsFront old new (printed_text check history taken.lines taken.groups)) (sym yes)
    (passes_front old middle new listing [] (with_newline (counts_line taken.lines taken.groups))
    (listing, sym (append-nil listing), c.in_ok-print_roster.ensures.ok tables history is) stopped))
    c.print_counts.ensures.err
