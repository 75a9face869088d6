use Rattle.std.proofs.Common.{◌≡◌, ◌∙◌, List, None, false, refl, sym, ap}
use Rattle.std.specs.List.{list_any}
use Rattle.mds_core.specs.declared.request.Request.{Request}
use Rattle.mds_core.specs.declared.request.Request.TheVariants.{Register, Report, Look}
use Rattle.mds_core.specs.History.{key_of, same_event, requests_of, report_of}
use Rattle.mds_core.specs.Known.{is_repeated}
use Rattle.mds_known.specs.Kept.{value_of}
use Rattle.mds_commands.proofs.NameLemmas.{named, repeated_is}
use Rattle.mds_commands.proofs.roster.Roster.known_of.Goals as goal
use Rattle.mds_commands.proofs.roster.Roster.known_of.Goals.{in-Some-event, in-None}

-- what reports nothing is no repetition
none_repeated : (requests : List Request) (request : Request) → None ≡ report_of request → false ≡ is_repeated requests request
none_repeated requests (Register key) none = refl
none_repeated requests (Look key) none = refl
none_repeated requests (Report event) none = absurd cc

pub returns : goal.returns
returns c = λ tables history is.
    let request = c.args.request.now in
    let known = c.args.self.now.known in
    let requests = requests_of history (key_of request) in
    let standing = c.in-Some.standing.now in record {
      standing = c.in-Some.ensures.value ∙ ap (value_of known.entries) c.key.ensures ∙ is.standings (key_of request);
      has_event = elim c.match-event.branch [
        | in-Some-event w ↦
            let event = w.in-Some-event.event.now in
            w.has_event-is ∙ w.has_event-has_event.ensures c.key.result.now standing c.in-Some.ensures.place
            ∙ ap (λ key. list_any (same_event (record { key = key; id = w.id.result })) known.names) c.key.ensures
            ∙ ap (λ id. list_any (same_event (record { key = key_of request; id = id })) known.names) w.id.ensures
            ∙ ap (list_any (same_event (record { key = key_of request; id = event.id }))) is.named
            ∙ named (record { key = key_of request; id = event.id }) history
            ∙ sym (repeated_is requests request event (sym w.in-Some-event.ensures))
        | in-None w ↦ w.has_event-is ∙ none_repeated requests request w.in-None.ensures
      ];
    }
