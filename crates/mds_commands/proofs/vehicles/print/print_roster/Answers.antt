use Rattle.std.proofs.Common.{◌≡◌, ◌≤◌, ◌∙◌, ◌++◌, List, length, ap, subst, string_bytes, rules, arith}
use Rattle.std.proofs.lemmas.List.{length-map}
use Rattle.std.proofs.lemmas.Result.{on_err_weaker, on_ok_weaker}
use Rattle.std.specs.Io.KnownBytes.{Appends}
use Rattle.mds_table.specs.Tables.{Tables}
use Rattle.mds_core.specs.declared.request.Request.{Request}
use Rattle.mds_core.specs.History.{requests_of, reports, standing_of}
use Rattle.mds_io.specs.Page.{AppendsFront, with_newline}
use Rattle.mds_io.proofs.PageLemmas.{front_of_more, passes_front, passes_to_end}
use Rattle.mds_commands.specs.Roster.{IsRosterOf, registered_in, standings_in}
use Rattle.mds_commands.specs.ListingText.{listing_text, totals_line, vehicle_line, vehicle_lines}
use Rattle.mds_commands.proofs.PrintLemmas.{page_left, text_added, text_stopped}
use Rattle.mds_commands.proofs.PlaceLemmas.{none_behind}
use Rattle.mds_commands.proofs.vehicles.print.print_roster.Goals as goal

-- there are as many standings as registrations
as_many : (history : List Request) → length (standings_in history) ≡ length (registered_in history)
as_many history = length-map (registered_in history) (λ key. (key, standing_of (requests_of history key)))

pub unreachable-requires : goal.unreachable-requires
unreachable-requires g c =
    let tables = c.requires.0 in
    let history = c.requires.1 in
    let is = c.requires.2 in
    let ended = none_behind (standings_in history) c.loop-at.at (c.in_default.ensures tables history is) in
    omega (arith, ended, as_many history, c.registrations-registrations.ensures.count tables history is, c.loop-at-test.true)

pub loop-at-preserved : goal.loop-at-preserved
loop-at-preserved g c = λ tables history is.
    text_added (standings_in history) (λ vehicle. with_newline (vehicle_line vehicle)) _ _ (vehicle_lines (standings_in history)) (string_bytes c.loop-at.page) c.loop-at.at
    (c.loop-at.invariant tables history is) (c.in-Some.key, c.in-Some.standing) _ _ (c.in-Some.ensures tables history is) c.in_ok-add_line.ensures.ok

pub returns-in_err-add_line-clause-err : goal.returns-in_err-add_line-clause-err
returns-in_err-add_line-clause-err g c =
    let contents = g.W.Write.contents in
    let front : (tables : Tables) (history : List Request) → IsRosterOf tables history c.args.roster.now
    → AppendsFront (contents c.args.writer.now) (contents c.add_line.new.writer) (listing_text history) = λ tables history is.
    front_of_more _ _ (vehicle_lines (standings_in history)) (with_newline (totals_line (length (registered_in history)) (length (reports history))))
    (text_stopped (standings_in history) (λ vehicle. with_newline (vehicle_line vehicle)) _ _ (vehicle_lines (standings_in history)) (string_bytes c.loop-at.page) c.loop-at.at
    (c.loop-at.invariant tables history is) (c.in-Some.key, c.in-Some.standing) _ (c.in-Some.ensures tables history is) c.in_err-add_line.ensures.err) in
    search rules

pub returns-clause-ok : goal.returns-clause-ok
returns-clause-ok g c =
    let contents = g.W.Write.contents in
    let regs = c.registrations-registrations.result in
    let events = c.events-events.result in
    on_ok_weaker c.end_page.result
    (λ appended tables history is.
    let few : length (standings_in history) ≤ c.loop-at.at = omega (arith, as_many history, c.registrations-registrations.ensures.count tables history is) in
    let total : totals_line regs events ≡ totals_line (length (registered_in history)) (length (reports history)) =
    ap (λ n. totals_line n events) (c.registrations-registrations.ensures.count tables history is)
    ∙ ap (totals_line (length (registered_in history))) (c.events-events.ensures.count tables history is) in
    subst (λ line. Appends (contents c.args.writer.now) (contents c.end_page.new.writer) (vehicle_lines (standings_in history) ++ with_newline line)) total
    (passes_to_end _ _ _ (vehicle_lines (standings_in history)) _ _
    (page_left (standings_in history) (λ vehicle. with_newline (vehicle_line vehicle)) _ _ _ _ c.loop-at.at (c.loop-at.invariant tables history is) few) appended))
    c.end_page.ensures.ok

pub returns-clause-err : goal.returns-clause-err
returns-clause-err g c =
    let contents = g.W.Write.contents in
    let regs = c.registrations-registrations.result in
    let events = c.events-events.result in
    on_err_weaker c.end_page.result
    (λ stopped tables history is.
    let few : length (standings_in history) ≤ c.loop-at.at = omega (arith, as_many history, c.registrations-registrations.ensures.count tables history is) in
    let total : totals_line regs events ≡ totals_line (length (registered_in history)) (length (reports history)) =
    ap (λ n. totals_line n events) (c.registrations-registrations.ensures.count tables history is)
    ∙ ap (totals_line (length (registered_in history))) (c.events-events.ensures.count tables history is) in
    subst (λ line. AppendsFront (contents c.args.writer.now) (contents c.end_page.new.writer) (vehicle_lines (standings_in history) ++ with_newline line)) total
    (passes_front _ _ _ (vehicle_lines (standings_in history)) _ _
    (page_left (standings_in history) (λ vehicle. with_newline (vehicle_line vehicle)) _ _ _ _ c.loop-at.at (c.loop-at.invariant tables history is) few) stopped))
    c.end_page.ensures.err
