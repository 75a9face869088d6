use Rattle.std.proofs.Common.{◌≡◌, inl, inr, refl, subst}
use Rattle.std.proofs.KnownBytes.{Keeps-refl}
use Rattle.mds_io.specs.declared.page.PrintError.{PrintError}
use Rattle.mds_io.specs.declared.page.PrintError.TheVariants as write
use Rattle.mds_commands.specs.declared.problem.Problem.TheVariants.{Memory}
use Rattle.mds_commands.specs.declared.vehicles.problem.JournalProblem.{JournalProblem}
use Rattle.mds_commands.specs.declared.vehicles.problem.JournalProblem.TheVariants.{Other}
use Rattle.mds_commands.specs.JournalProblem.{TellsJournal, journal_status_of}
use Rattle.mds_commands.specs.Problem.{written_problem}
use Rattle.mds_city.specs.declared.compact.CompactProblem.TheVariants.{Journal}
use Rattle.mds_city.specs.Follow.{IsNotPrinted}
use Rattle.mds_city.proofs.follow.follow_opened.Goals as goal

-- a line that could not be printed is told as an output that failed, or as want of memory
of_line : (fault : PrintError) → IsNotPrinted (Journal (Other (written_problem fault)))
of_line write.Memory = inr refl
of_line write.Device = inl refl

pub returns-in-Err : goal.returns-in-Err
returns-in-Err g c =
    let why = c.in-Err.ensures.err in
    inl (
      Keeps-refl _,
      elim c.tell_compact_problem.ensures [
        | inl told ↦ (
          c.in-Err.problem,
          inr (
            why.0,
            (
              c.begin_to_follow.new.followed,
              c.begin_to_follow.new.name,
              why.1,
              λ first known is found stands. inl (c.in-Err.ensures.stands found stands),
              λ keeps. (c.in-Err.ensures.over, why.2 keeps),
            ),
            why.3,
          ),
          told.0,
          told.1,
        )
        | inr told ↦ (Journal (Other Memory), inl refl, told.0, told.1)
      ],
    )

pub returns-in-Err-print_line : goal.returns-in-Err-print_line
returns-in-Err-print_line g c =
    let old = g.E.Write.contents c.args.faults.now in
    let new = g.E.Write.contents c.tell_journal_problem.new.faults in
    let IsTold : JournalProblem → Type 0 = λ problem. (c.tell_journal_problem.result ≡ journal_status_of problem) × TellsJournal old new problem in
    inr (inl (
      c.in-Err-print_line.ensures.err,
      elim c.tell_journal_problem.ensures [
        | inl told ↦
            let line = subst IsTold c.from.ensures told in
            (Journal (Other (written_problem c.in-Err-print_line.fault)), of_line c.in-Err-print_line.fault, line.0, line.1)
        | inr told ↦ (Journal (Other Memory), inr refl, told.0, told.1)
      ],
    ))

pub returns-in-Ok-print_line : goal.returns-in-Ok-print_line
returns-in-Ok-print_line g c =
    let begun = c.in-Ok.ensures.begun in
    let made = c.in-Ok-follow_to_end.ensures.made in
    inr (inr (
      g.W.Write.contents c.print_line.new.writer,
      c.in_default.ensures.ok,
      inl (
        c.in-Ok-follow_to_end.totals,
        (
          c.follow_to_end.new.followed,
          c.follow_to_end.new.name,
          λ first known is found stands. made c.args.asked.before first (begun first known.0 known.1) is found stands,
          c.in-Ok-follow_to_end.ensures.all,
          λ keeps. (λ over. c.in-Ok.ensures.over (c.in-Ok-follow_to_end.ensures.over keeps over), c.in-Ok.ensures.free (c.in-Ok-follow_to_end.ensures.kept keeps)),
        ),
        refl,
        c.in-Ok-print_line.ensures.ok,
        Keeps-refl _,
      ),
    ))

pub returns-in-Ok-follow_to_end : goal.returns-in-Ok-follow_to_end
returns-in-Ok-follow_to_end g c =
    let begun = c.in-Ok.ensures.begun in
    let made = c.in-Ok-follow_to_end.ensures.made in
    let fault = c.in-Err-print_line-2.fault in
    let ended = c.tell_journal_problem-in-Err-print_line-2.result in
    let old = g.E.Write.contents c.args.faults.now in
    let new = g.E.Write.contents c.tell_journal_problem-in-Err-print_line-2.new.faults in
    let IsTold : JournalProblem → Type 0 = λ problem. (ended ≡ journal_status_of problem) × TellsJournal old new problem in
    inr (inr (
      g.W.Write.contents c.print_line.new.writer,
      c.in_default.ensures.ok,
      inr (inl (
        c.in-Ok-follow_to_end.totals,
        (
          c.follow_to_end.new.followed,
          c.follow_to_end.new.name,
          λ first known is found stands. made c.args.asked.before first (begun first known.0 known.1) is found stands,
          c.in-Ok-follow_to_end.ensures.all,
          λ keeps. (λ over. c.in-Ok.ensures.over (c.in-Ok-follow_to_end.ensures.over keeps over), c.in-Ok.ensures.free (c.in-Ok-follow_to_end.ensures.kept keeps)),
        ),
        c.in-Err-print_line-2.ensures.err,
        elim c.tell_journal_problem-in-Err-print_line-2.ensures [
          | inl told ↦
              let line = subst IsTold c.from-in-Err-print_line-2.ensures told in
              (Journal (Other (written_problem fault)), of_line fault, line.0, line.1)
          | inr told ↦ (Journal (Other Memory), inr refl, told.0, told.1)
        ],
      )),
    ))

pub returns : goal.returns
returns g c =
    let begun = c.in-Ok.ensures.begun in
    let why = c.in-Err-follow_to_end.ensures.err in
    let crash = c.in-Err-follow_to_end.ensures.crash in
    inr (inr (
      g.W.Write.contents c.print_line.new.writer,
      c.in_default.ensures.ok,
      inr (inr (
        Keeps-refl _,
        elim c.tell_compact_problem-in-Err-follow_to_end.ensures [
          | inl told ↦ (
            c.in-Err-follow_to_end.problem,
            inr (
              why.0,
              (
                c.follow_to_end.new.followed,
                c.follow_to_end.new.name,
                inr (λ first readings since. why.1 c.args.asked.before first (begun first readings since)),
                λ first known is found stands. elim (crash c.args.asked.before first (begun first known.0 known.1) is found stands) [
                  | inl was ↦ inl (c.in-Ok.ensures.stands found was)
                  | inr whole ↦ inr whole
                ],
                λ keeps. (
                  λ over. c.in-Ok.ensures.over (c.in-Err-follow_to_end.ensures.over keeps over),
                  λ taken. absurd (c.in-Ok.ensures.free (c.in-Err-follow_to_end.ensures.kept keeps) taken),
                ),
              ),
              why.2,
            ),
            told.0,
            told.1,
          )
          | inr told ↦ (Journal (Other Memory), inl refl, told.0, told.1)
        ],
      )),
    ))
