use Rattle.std.proofs.Common.{◌≡◌, ◌⊎◌, ℕ, List, Option, Some, None, inl, inr, refl, subst, sym}
use Rattle.std.proofs.KnownBytes.{Keeps-refl}
use Rattle.std.specs.Io.KnownBytes.{Appends}
use Rattle.mds_io.specs.Page.{AppendsFront}
use Rattle.mds_io.specs.declared.page.PrintError.{PrintError}
use Rattle.mds_io.specs.declared.page.PrintError.TheVariants as write
use Rattle.mds_commands.specs.declared.source.Source.{Source}
use Rattle.mds_commands.specs.Files.{Files, files_of}
use Rattle.mds_commands.specs.Problem.{written_problem}
use Rattle.mds_commands.proofs.ErrorLemmas.{passed_on}
use Rattle.mds_groups.specs.declared.fault.GroupFault.TheVariants.{Damaged}
use Rattle.mds_journal.specs.Stream.{unread_of}
use Rattle.mds_commands.specs.declared.vehicles.taking.TakenJournal.{TakenJournal}
use Rattle.mds_commands.specs.Gate.{HasNoneMore, IsHurtBehind}
use Rattle.mds_commands.proofs.ListingLemmas.{came_to_hurt, came_to_some, came_to_sound, came_to_text}
use Rattle.mds_commands.specs.declared.problem.Problem.TheVariants.{CannotRead, NotATable, NotABatch, NotLines, Socket, Random, Output, Memory}
use Rattle.mds_commands.specs.declared.vehicles.problem.JournalProblem.{JournalProblem}
use Rattle.mds_commands.specs.declared.vehicles.problem.JournalProblem.TheVariants.{NotAJournal, Other}
use Rattle.mds_commands.specs.Listing.{CameToTaken, Explains, ExplainsJudging, Listed, ListedFront, ListingWentOut}
use Rattle.mds_commands.proofs.vehicles.command.vehicles_into.Goals as goal

-- a listing that could not be written is explained, and a front of it went out
unwritten : {T R : Type 0} (files : Files T R) (again : Option (Source R))
    (fault : PrintError) (old new : Option (List ℕ)) → ListedFront files again old new
    → Explains files again (Other (written_problem fault)) × ListingWentOut files again (Other (written_problem fault)) old new
unwritten files again write.Memory old new front = (inl tt, inr front)
unwritten files again write.Device old new front = (inl tt, front)

-- where the output isn't at fault nothing went out
out_kept : {T R : Type 0} (files : Files T R) (again : Option (Source R)) (problem : JournalProblem) (old : Option (List ℕ)) → ExplainsJudging files problem
    → Explains files again problem × ListingWentOut files again problem old old
out_kept files again (NotAJournal fault) old why = (inl why.0, Keeps-refl old)
out_kept files again (Other (CannotRead path)) old why = (inl why.0, Keeps-refl old)
out_kept files again (Other (NotATable fault)) old why = (inl why.0, Keeps-refl old)
out_kept files again (Other (NotABatch fault)) old why = absurd why.0
out_kept files again (Other (NotLines fault)) old why = absurd why.0
out_kept files again (Other Socket) old why = absurd why.0
out_kept files again (Other Random) old why = (inl why.0, Keeps-refl old)
out_kept files again (Other Output) old why = absurd (why.1 refl)
out_kept files again (Other Memory) old why = (inl why.0, inl (Keeps-refl old))

pub returns-in_err-taken-clause-err : goal.returns-in_err-taken-clause-err
returns-in_err-taken-clause-err g c =
    passed_on _ _ _ c.from_residual.ensures.1
    (out_kept (files_of g.T.Read.remaining c.args.table g.R.Read.remaining c.args.file) c.args.again c.in_err-taken.field-0.0 (g.W.Write.contents c.args.out.now) c.in_err-taken.ensures.err)

-- the gate was hurt, or that can't be seen
gate_problem : {T R : Type 0} (files : Files T R) (again : Source R) (journal : TakenJournal R) → CameToTaken files journal → (problem : JournalProblem) (old : Option (List ℕ))
    → (problem ≡ Other Memory) ⊎ (problem ≡ Other (CannotRead again.path))
    ⊎ ((problem ≡ NotAJournal (Damaged journal.taken.lines)) × IsHurtBehind journal.form (unread_of files.file_bytes journal.behind) × HasNoneMore files.file_bytes again.reader journal.taken.lines)
    → Explains files (Some again) problem × ListingWentOut files (Some again) problem old old
gate_problem {T} {R} files again journal came problem old cause = elim cause [
  | inl memory ↦ subst (λ (w : JournalProblem). Explains files (Some again) w × ListingWentOut files (Some again) w old old) (sym memory) (inl tt, inl (Keeps-refl old))
  | inr other ↦ elim other [
    | inl read ↦ subst (λ (w : JournalProblem). Explains files (Some again) w × ListingWentOut files (Some again) w old old) (sym read) (inr (inr refl), Keeps-refl old)
    | inr hurt ↦ subst (λ (w : JournalProblem). Explains files (Some again) w × ListingWentOut files (Some again) w old old) (sym hurt.0)
        (inr (inl (came_to_hurt files journal came again hurt.1 hurt.2)), Keeps-refl old)
  ]
]

pub print_taken-requires : goal.print_taken-requires
print_taken-requires g c =
    came_to_some (files_of g.T.Read.remaining c.args.table g.R.Read.remaining c.args.file) c.in_ok-taken.field-0 c.in_ok-taken.ensures.ok

pub returns-in_err-print_taken-clause-err : goal.returns-in_err-print_taken-clause-err
returns-in_err-print_taken-clause-err g c =
    let files = files_of g.T.Read.remaining c.args.table g.R.Read.remaining c.args.file in
    let old = g.W.Write.contents c.args.out.now in
    let new = g.W.Write.contents c.print_taken.new.writer in
    let front = came_to_text files c.in_ok-taken.field-0 c.in_ok-taken.ensures.ok None (AppendsFront old new) tt c.in_err-print_taken.ensures.err in
    passed_on _ _ _ c.from_residual-in_err-print_taken.ensures.1
    (unwritten files c.args.again c.in_err-print_taken.field-0.0 old new (subst (λ w. ListedFront files w old new) (sym c.in_default.is) front))

pub returns-in_default-clause-ok : goal.returns-in_default-clause-ok
returns-in_default-clause-ok g c =
    let files = files_of g.T.Read.remaining c.args.table g.R.Read.remaining c.args.file in
    let old = g.W.Write.contents c.args.out.now in
    let new = g.W.Write.contents c.print_taken.new.writer in
    let all = came_to_text files c.in_ok-taken.field-0 c.in_ok-taken.ensures.ok None (Appends old new) tt c.in_ok-print_taken.ensures.ok in
    subst (λ w. Listed files w old new) (sym c.in_default.is) all

pub returns-in_err-see_gate-clause-err : goal.returns-in_err-see_gate-clause-err
returns-in_err-see_gate-clause-err g c =
    let files = files_of g.T.Read.remaining c.args.table g.R.Read.remaining c.args.file in
    let old = g.W.Write.contents c.args.out.now in
    passed_on _ _ _ c.from_residual-in_err-see_gate.ensures.1
    (subst (λ w. Explains files w c.in_err-see_gate.field-0.0 × ListingWentOut files w c.in_err-see_gate.field-0.0 old old) (sym c.in-Some.is)
    (gate_problem files c.in-Some.again c.in_ok-taken.field-0 c.in_ok-taken.ensures.ok c.in_err-see_gate.field-0.0 old c.in_err-see_gate.ensures.cause))

pub returns-in_err-print_taken-2-clause-err : goal.returns-in_err-print_taken-2-clause-err
returns-in_err-print_taken-2-clause-err g c =
    let files = files_of g.T.Read.remaining c.args.table g.R.Read.remaining c.args.file in
    let journal = c.in_ok-taken.field-0 in
    let old = g.W.Write.contents c.args.out.now in
    let new = g.W.Write.contents c.print_taken-2.new.writer in
    let again = c.in-Some.again in
    let sound = came_to_sound files journal c.in_ok-taken.ensures.ok again c.in_ok-see_gate.ensures.sound in
    let front = came_to_text files journal c.in_ok-taken.ensures.ok (Some again) (AppendsFront old new) sound c.in_err-print_taken-2.ensures.err in
    passed_on _ _ _ c.from_residual-in_err-print_taken-2.ensures.1
    (unwritten files c.args.again c.in_err-print_taken-2.field-0.0 old new (subst (λ w. ListedFront files w old new) (sym c.in-Some.is) front))

pub returns-clause-ok : goal.returns-clause-ok
returns-clause-ok g c =
    let files = files_of g.T.Read.remaining c.args.table g.R.Read.remaining c.args.file in
    let journal = c.in_ok-taken.field-0 in
    let old = g.W.Write.contents c.args.out.now in
    let new = g.W.Write.contents c.print_taken-2.new.writer in
    let again = c.in-Some.again in
    let sound = came_to_sound files journal c.in_ok-taken.ensures.ok again c.in_ok-see_gate.ensures.sound in
    let all = came_to_text files journal c.in_ok-taken.ensures.ok (Some again) (Appends old new) sound c.in_ok-print_taken-2.ensures.ok in
    subst (λ w. Listed files w old new) (sym c.in-Some.is) all
