-- Marks of states, by the values that name them.
use Rattle.std.proofs.Common.{◌≡◌, List, [], ◌∷◌, ◌++◌, Some, codes, map, true, sym, ◌∙◌, subst, ⊎_elim}
use Rattle.std.specs.List.{Contains}
use Rattle.std.proofs.lemmas.Bool.{cases_eq}
use Rattle.std.proofs.lemmas.List.{map-append}
use Rattle.std.proofs.lemmas.List.Elements.{Contains-append_left, Contains-push, Contains-push_cases}
use Rattle.serde_json.specs.Data.{Data}
use Rattle.serde_json.specs.Find.{get}
use Rattle.mds_table.specs.declared.state.State.{State}
use Rattle.mds_table.specs.declared.entry.States.{States}
use Rattle.mds_table.specs.declared.entry.Entry.{Entry}
use Rattle.mds_table.specs.State.{code_of}
use Rattle.mds_table.specs.Json.{state_in, type_name_in}
use Rattle.mds_table.specs.TableFile.{listed_values}
use Rattle.mds_table.specs.Entry.{is_marked, AreMarked, IsEntryOf}
use Rattle.mds_table.proofs.Rows.{code_of_injective}

-- the named state is marked as well
pub marked_more : (values : List Data) (value : Data) (state : State) (old new : States) → Some state ≡ state_in value → is_marked new state ≡ true
    → ((other : State) → (code_of other ≡ code_of state → ⊥) → is_marked new other ≡ is_marked old other)
    → AreMarked values old → AreMarked (values ++ value ∷ []) new
marked_more values value state old new names here_marked kept so_far =
    let front = map state_in values in
    let more : map state_in (values ++ value ∷ []) ≡ front ++ Some state ∷ [] = rw (map-append, sym names) in record {
      named = λ other marked. rw more (⊎_elim
          (λ same.
          let here : state ≡ other = code_of_injective state other (sym same) in
          subst (λ s. Contains (front ++ Some state ∷ []) (Some s)) here (Contains-push front (Some state)))
          (λ apart. Contains-append_left front (Some state ∷ []) (Some other) (so_far.named other (sym (kept other apart) ∙ marked)))
          (cases_eq (code_of other) (code_of state)));
      all = λ other found. ⊎_elim
          (λ earlier. ⊎_elim
          (λ same. subst (λ s. is_marked new s ≡ true) (code_of_injective state other (sym same)) here_marked)
          (λ apart. kept other apart ∙ so_far.all other earlier)
          (cases_eq (code_of other) (code_of state)))
          (λ here. let same : state ≡ other = cc in subst (λ s. is_marked new s ≡ true) same here_marked)
          (Contains-push_cases front (Some state) (Some other) (rw more at found));
    }

-- an entry with the states and the type that the members of a value name
pub entry_of : (value from kind to : Data) (entry : Entry)
    → get (codes "from") value ≡ Some from → get (codes "type") value ≡ Some kind → get (codes "to") value ≡ Some to
    → AreMarked (listed_values from) entry.from → Some entry.kind ≡ type_name_in kind → AreMarked (listed_values to) entry.to → IsEntryOf value entry
entry_of value from kind to entry is_from is_kind is_to leaves names arrives = record {
  stands = λ row has. record {
    from = rw is_from (leaves.named row.from has.from);
    kind = rw is_kind (cc (names, has.kind));
    to = rw is_to (arrives.named row.to has.to);
  };
  has = λ row stands.
      let of_kind = rw is_kind at stands.kind in record {
        from = leaves.all row.from (rw is_from at stands.from);
        kind = cc;
        to = arrives.all row.to (rw is_to at stands.to);
      };
}
