use Rattle.std.proofs.Common.{◌≡◌, ◌≤◌, ◌∙◌, ℕ, Bool, List, length, Option, Result, Ok, Err, IfOk, IfSome, IfNone, true, false, refl, subst}
use Rattle.std.proofs.lemmas.Result.{IfOk-weaker, IfErr-weaker}
use Rattle.mds_table.specs.Json.{max_bytes}
use Rattle.mds_journal.specs.declared.stream.StreamError.{StreamError}
use Rattle.mds_journal.specs.Stream.{HandsOut, IsStreamFault, OpensGate, lines_given, most_of, unread_of}
use Rattle.mds_commands.specs.Gate.{HandsOutGroup, HasNoGroup, IsLong, TellsOpenBehind}
use Rattle.mds_commands.proofs.ErrorLemmas.{passed_on}
use Rattle.mds_commands.proofs.GateLemmas.{end_behind, line_behind, long_at_gate, long_at_line, none_behind}
use Rattle.mds_commands.proofs.vehicles.gate.open_line_behind.Goals as goal

pub returns-in_err-open_gate-clause-long : goal.returns-in_err-open_gate-clause-long
returns-in_err-open_gate-clause-long g c =
    let known = unread_of g.R.Read.remaining c.args.lines.now in
    passed_on _ _ (λ error. IsLong error → TellsOpenBehind known false) c.from_residual.ensures.1
    (long_at_gate known (lines_given c.args.lines.now) c.in_err-open_gate.field-0.0
    (subst (λ n. IsStreamFault (lines_given c.args.lines.now) n known c.in_err-open_gate.field-0.0) c.requires.limit c.in_err-open_gate.ensures.cause))

pub returns-clause-told : goal.returns-clause-told
returns-clause-told g c =
    let none = subst (λ w. IfNone w (HasNoGroup (unread_of g.R.Read.remaining c.open_gate.new.self))) c.in-None.is c.in_ok-_number.ensures.none in
    none_behind (unread_of g.R.Read.remaining c.args.lines.now) (unread_of g.R.Read.remaining c.open_gate.new.self) c.in_ok-open_gate.ensures.«open» none

-- what the line behind a group tells
told : (old : Option (List ℕ)) (result : Result Bool StreamError) → IfOk result (λ more. more ≡ true → TellsOpenBehind old true) → IfOk result (λ more. more ≡ false → TellsOpenBehind old false)
    → IfOk result (TellsOpenBehind old)
told old (Err error) some none = tt
told old (Ok true) some none = some refl
told old (Ok false) some none = none refl

-- a line is handed out behind a group
both : (old opened middle left : Option (List ℕ)) (line : List ℕ) (limit : ℕ) → OpensGate old opened → HandsOutGroup opened middle → limit ≡ max_bytes
    → (result : Result Bool StreamError) → IfOk result (λ more. more ≡ true → HandsOut middle line left) → IfOk result (λ more. more ≡ true → length line ≤ limit)
    → IfOk result (λ more. more ≡ true → TellsOpenBehind old true)
both old opened middle left line limit opens group is (Err error) out within = tt
both old opened middle left line limit opens group is (Ok more) out within =
    λ yes. line_behind old opened opens middle left line group (out yes) (subst (λ n. length line ≤ n) is (within yes))

pub returns-in-Some-clause-told : goal.returns-in-Some-clause-told
returns-in-Some-clause-told g c =
    let remaining = g.R.Read.remaining in
    let old = unread_of remaining c.args.lines.now in
    let opened = unread_of remaining c.open_gate.new.self in
    let middle = unread_of remaining c.take_group.new.lines in
    let left = unread_of remaining c.next_line.new.self in
    let line = c.next_line.new.line.items in
    let opens = c.in_ok-open_gate.ensures.«open» in
    let found = subst (λ w. IfSome w (λ number. (number ≡ lines_given c.take_group.new.lines) × HandsOutGroup opened middle)) c.in-Some.is c.in_ok-_number.ensures.group in
    let limit : most_of c.take_group.new.lines ≡ max_bytes = c.in_ok-_number.ensures.limit ∙ c.in_ok-open_gate.ensures.limit ∙ c.requires.limit in
    told old c.next_line.result
    (both old opened middle left line (most_of c.take_group.new.lines) opens found.1 limit c.next_line.result c.next_line.ensures.line c.next_line.ensures.within)
    (IfOk-weaker c.next_line.result _ _ (λ more done no. end_behind old opened opens middle found.1 (done no).0) c.next_line.ensures.done)

pub returns-in-Some-clause-long : goal.returns-in-Some-clause-long
returns-in-Some-clause-long g c =
    let remaining = g.R.Read.remaining in
    let old = unread_of remaining c.args.lines.now in
    let opened = unread_of remaining c.open_gate.new.self in
    let middle = unread_of remaining c.take_group.new.lines in
    let found = subst (λ w. IfSome w (λ number. (number ≡ lines_given c.take_group.new.lines) × HandsOutGroup opened middle)) c.in-Some.is c.in_ok-_number.ensures.group in
    let limit : most_of c.take_group.new.lines ≡ max_bytes = c.in_ok-_number.ensures.limit ∙ c.in_ok-open_gate.ensures.limit ∙ c.requires.limit in
    IfErr-weaker c.next_line.result _ _
    (λ error why long. long_at_line old opened middle (lines_given c.take_group.new.lines) error c.in_ok-open_gate.ensures.«open» found.1
    (subst (λ n. IsStreamFault (lines_given c.take_group.new.lines) n middle error) limit why) long)
    c.next_line.ensures.cause
