use Rattle.std.proofs.Common.{◌≡◌, ℕ, List, Option, Some, None, rules}
use Rattle.std.proofs.lemmas.Result.{IfErr-weaker, on_ok_weaker}
use Rattle.std.specs.Option.{option_map}
use Rattle.mds_core.specs.declared.request.Request.{Request}
use Rattle.mds_commands.specs.Files.{files_of}
use Rattle.mds_commands.specs.Listing.{ExplainsJudging, HasHistory}
use Rattle.mds_commands.specs.declared.source.Source.{Source}
use Rattle.mds_commands.specs.declared.vehicles.problem.JournalProblem.{JournalProblem}
use Rattle.mds_city.specs.Host.{FileHost}
use Rattle.mds_city.specs.Program.{ExplainsJudged, IsFileNamed, IsFileOf, IsJudged}
use Rattle.mds_city.proofs.program.judge_if_named.Goals as goal

module _ {F : Type 0} (files : FileHost F) (old : List ℕ) where
  -- where no file is named nothing is said
  unnamed : (path : Option (List ℕ)) (table : Option (Source F)) → IsFileNamed files.opens path table → table ≡ None → IsJudged files path old
  unnamed None table named none = tt
  unnamed (Some path) None named none = absurd named
  unnamed (Some path) (Some table) named none = cc

  -- where one is the journal is judged by it
  named_one : (path : Option (List ℕ)) (table : Option (Source F)) (file : Source F) → IsFileNamed files.opens path table → (table ≡ None → ⊥) → IsFileOf files.opens old file
      → ((history : List Request) × HasHistory (files_of files.bytes table files.bytes file) history) → IsJudged files path old
  named_one None table file named some opened has = absurd (some named)
  named_one (Some path) None file named some opened has = absurd named
  named_one (Some path) (Some table) file named some opened has = (table, file, (named, opened), has.0, has.1)

  -- and a problem of that is one of this
  of_named : (path : Option (List ℕ)) (table : Option (Source F)) (file : Source F) (problem : JournalProblem) → IsFileNamed files.opens path table → (table ≡ None → ⊥)
      → IsFileOf files.opens old file → ExplainsJudging (files_of files.bytes table files.bytes file) problem → ExplainsJudged files path old problem
  of_named None table file problem named some opened why = absurd (some named)
  of_named (Some path) None file problem named some opened why = absurd named
  of_named (Some path) (Some table) file problem named some opened why = (table, file, (named, opened), why)

pub returns-then-is_none-clause-ok : goal.returns-then-is_none-clause-ok
returns-then-is_none-clause-ok g c =
    let files : FileHost _ = record { opens = g.O.Opens.opens c.args.files.now; bytes = g.O.File.Read.remaining } in
    let none : c.file_if_named-table.result ≡ None = search rules in
    unnamed files c.args.old.now (option_map (λ named. named.now) c.args.table) c.file_if_named-table.result c.file_if_named-table.ensures none

pub returns-clause-ok : goal.returns-clause-ok
returns-clause-ok g c =
    let files : FileHost _ = record { opens = g.O.Opens.opens c.args.files.now; bytes = g.O.File.Read.remaining } in
    let some : c.file_if_named-table.result ≡ None → ⊥ = λ none. search rules in
    on_ok_weaker c.judge_journal.result
    (λ has.
    named_one files c.args.old.now (option_map (λ named. named.now) c.args.table) c.file_if_named-table.result c.file_of.result c.file_if_named-table.ensures some c.file_of.ensures
    has)
    c.judge_journal.ensures.ok

pub returns-clause-err : goal.returns-clause-err
returns-clause-err g c =
    let files : FileHost _ = record { opens = g.O.Opens.opens c.args.files.now; bytes = g.O.File.Read.remaining } in
    let some : c.file_if_named-table.result ≡ None → ⊥ = λ none. search rules in
    IfErr-weaker c.judge_journal.result _ _
    (λ problem why.
    of_named files c.args.old.now (option_map (λ named. named.now) c.args.table) c.file_if_named-table.result c.file_of.result problem c.file_if_named-table.ensures some c.file_of.ensures
    why)
    c.judge_journal.ensures.err
