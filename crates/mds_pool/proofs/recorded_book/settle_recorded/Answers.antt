use Rattle.std.proofs.Common.{◌≡◌, ◌∙◌, List, subst, sym}
use Rattle.std.specs.List.{All}
use Rattle.mds_log.specs.Log.{requests}
use Rattle.mds_book.specs.Gathering.{Collected}
use Rattle.mds_book.specs.Seats.{Seated}
use Rattle.mds_follow.specs.Parts.{Covers}
use Rattle.mds_pool.specs.Recording.{IsRecordOf}
use Rattle.mds_pool.proofs.recorded_book.settle_recorded.Goals as goal

-- the seats are those of the settled book, and what is recorded has what they saw
pub returns-clause-recorded : goal.returns-clause-recorded
returns-clause-recorded g c =
    let told = c.follow_all.new.self in
    let finish = c.finish-file.ensures in
    let handed : c.as_slice.result.now ≡ c.settle-settled.result.seats = c.as_slice.ensures.value ∙ sym c.settle-settled.ensures.0.seats in
    subst (λ (all : Collected). IsRecordOf g.F.Record.is_sound g.F.Record.is_true g.F.Record.may_go_on g.F.Record.stands g.F.Tagged.tag g.F.Record.left_since
    g.J.RecordLog.start g.J.RecordLog.held c.finish-file.result all) (sym finish.same) (record {
      told = told;
      desk = finish.desk;
      covers = subst (λ (seats : List Seated). All (λ seat. Covers seat (requests told)) seats) handed c.in-Ok.ensures.covers;
      first = finish.first;
      second = finish.second;
      first_sound = finish.first_sound;
      second_sound = finish.second_sound;
    })
