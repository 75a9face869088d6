use Rattle.std.proofs.Common.{◌≡◌, ◌∙◌, refl, sym, subst}
use Rattle.mds_groups.specs.Form.{IsJournal}
use Rattle.mds_groups.specs.declared.form.JournalForm.{JournalForm}
use Rattle.mds_journal.specs.Stream.{IsStream, most_of, unread_of}
use Rattle.mds_journal.specs.declared.stream.LineStream.{LineStream}
use Rattle.mds_table.specs.Json.{max_bytes}
use Rattle.mds_commands.specs.Roster.{IsRosterOf}
use Rattle.mds_commands.specs.Taking.{Gives}
use Rattle.mds_commands.proofs.ErrorLemmas.{passed_on}
use Rattle.mds_commands.proofs.TakingLemmas.{begun}
use Rattle.mds_commands.proofs.vehicles.taking.roster_of.Goals as goal

pub returns-in_err-form-clause-fault : goal.returns-in_err-form-clause-fault
returns-in_err-form-clause-fault g c =
    let remaining = g.R.Read.remaining in
    let known = remaining c.args.reader in
    let start = begun remaining c.args.tables known _ c.new.ensures.all c.new-3.ensures c.new.ensures.number refl c.open.ensures in
    passed_on _ _ _ c.from_residual.ensures.1 (c.in_err-form.ensures.fault c.args.tables known start)

pub returns-clause-ok : goal.returns-clause-ok
returns-clause-ok g c =
    let remaining = g.R.Read.remaining in
    let known = remaining c.args.reader in
    let start = begun remaining c.args.tables known _ c.new.ensures.all c.new-3.ensures c.new.ensures.number refl c.open.ensures in
    let all = c.in_ok-form.ensures.all c.args.tables known start in
    let taken = all.taken in
    let form = c.in_ok-form.form in
    let whole : IsJournal form taken.lines taken.groups = c.in_ok-form.ensures.whole taken.lines taken.groups taken.stream in
    let roster = subst (IsRosterOf c.args.tables taken.history) (sym c.into_journal.ensures.roster) taken.roster_is in
    let behind = sym c.into_journal.ensures.behind in
    record {
      by = record {
        lines = taken.lines;
        groups = taken.groups;
        history = taken.history;
        told = record { counted = all.counted; whole = (form, whole); told = taken.told };
        roster_is = roster;
        line_count = c.into_journal.ensures.lines ∙ taken.number;
        group_count = c.into_journal.ensures.groups ∙ taken.count;
      };
      form = subst (λ (w : JournalForm). IsJournal w taken.lines taken.groups) (sym c.into_journal.ensures.form) whole;
      stream = subst (λ (w : LineStream g.row.R.Denot). IsStream w) behind c.in_ok-form.ensures.taking.stream;
      limit = subst (λ (w : LineStream g.row.R.Denot). most_of w ≡ max_bytes) behind c.in_ok-form.ensures.taking.limit;
      left = subst (λ (w : LineStream g.row.R.Denot). Gives known taken.lines (unread_of remaining w)) behind taken.given;
    }
