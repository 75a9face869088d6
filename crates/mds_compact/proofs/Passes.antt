-- The passes after one more request: from the way of one vehicle to those of all.
use Rattle.std.proofs.Common.{◌≡◌, ◌≢◌, ℕ, suc, ◌+◌, ◌≤◌, List, [], ◌∷◌, ◌++◌, length, cond, Bool, true, false, Option, Some, None, refl, sym, ◌∙◌, ap, subst, append_assoc, arith, length-append}
use Rattle.std.proofs.lemmas.List.{append-nil, take_all}
use Rattle.mds_table.specs.Tables.{Tables}
use Rattle.mds_core.specs.declared.key.Key.{Key}
use Rattle.mds_core.specs.declared.request.Request.{Request}
use Rattle.mds_core.specs.History.{key_of, requests_of, same_key, last_time}
use Rattle.mds_core.specs.Lawful.{IsLawful, IsLawfulOf}
use Rattle.mds_core.proofs.Histories.{same_key_is, same_key_refl, requests_of-append, requests_of-push_other, requests_of-push_same}
use Rattle.mds_compact.specs.Compaction.{kept_of, thinned_count, IsCompacted, IsCompaction, IsThin}
use Rattle.mds_compact.specs.Path.{Way, way_to, IsPath, IsKept, IsMarked}
use Rattle.mds_compact.specs.Passes.{IsKnownBy, marks_of}
use Rattle.mds_compact.proofs.Kept.{kept_nil, requests_of-kept, marks_of-more}
use Rattle.mds_compact.proofs.Steps.{path_begins, path_ends}

-- a vehicle has no more requests than there are
pub own_few : (history : List Request) (key : Key) → length (requests_of history key) ≤ length history
own_few [] key = omega arith
own_few (request ∷ history) key = by_ours (same_key (key_of request) key) (own_few history key) where
  by_ours : (ours : Bool) → length (requests_of history key) ≤ length history → length (cond ours (request ∷ requests_of history key) (requests_of history key)) ≤ suc (length history)
  by_ours true few = omega arith
  by_ours false few = omega arith

-- what is known of a vehicle's way, once it was found
pub known_at : (Is : Way → Type 0) (requests : List Request) (found : Option Way) (way : Way) → Some way ≡ found → IsKnownBy Is requests found → Is way
known_at Is requests found way is known = let P : Option Way → Type 0 = λ one. IsKnownBy Is requests one in subst P (sym is) known

-- and where none was
pub unknown_at : (Is : Way → Type 0) (requests : List Request) (found : Option Way) → None ≡ found → IsKnownBy Is requests found → requests ≡ []
unknown_at Is requests found is known = let P : Option Way → Type 0 = λ one. IsKnownBy Is requests one in subst P (sym is) known

-- the value of one vehicle alone changes, by whichever equal key
pub written_for : {V : Type 0} (before after : Key → Option V) (key asked : Key) (way : V) → key ≡ asked → ((other : Key) → after other ≡ cond (same_key key other) (Some way) (before other))
    → (other : Key) → after other ≡ cond (same_key asked other) (Some way) (before other)
written_for before after key asked way is updates other = updates other ∙ ap (λ one. cond (same_key one other) (Some way) (before other)) is

-- where the value of the request's vehicle alone changes, what holds of its new value, and goes on of the others, holds of each
pub each_next : {V : Type 0} (Was Is : Key → Option V → Type 0) (request : Request) (before after : Key → Option V) (way : V) → ((key : Key) → Was key (before key))
    → ((key : Key) → after key ≡ cond (same_key (key_of request) key) (Some way) (before key)) → Is (key_of request) (Some way)
    → ((key : Key) (found : Option V) → same_key (key_of request) key ≡ false → Was key found → Is key found) → (key : Key) → Is key (after key)
each_next Was Is request before after way known updates own other key = by_key (same_key (key_of request) key) refl where
  by_key : (b : Bool) → same_key (key_of request) key ≡ b → Is key (after key)
  by_key true same =
      let P : Key → Type 0 = λ one. Is one (Some way) in
      let found = updates key ∙ ap (λ b. cond b (Some way) (before key)) same in
      subst (Is key) (sym found) (subst P (same_key_is (key_of request) key same) own)
  by_key false apart =
      let found = updates key ∙ ap (λ b. cond b (Some way) (before key)) apart in
      subst (Is key) (sym found) (other key (before key) apart (known key))

own_now : (history : List Request) (request : Request) → requests_of history (key_of request) ++ request ∷ [] ≡ requests_of (history ++ request ∷ []) (key_of request)
own_now history request = sym (requests_of-push_same history request (key_of request) (same_key_refl (key_of request)))

own_first : (request : Request) (rest : List Request) → requests_of (request ∷ rest) (key_of request) ≡ request ∷ requests_of rest (key_of request)
own_first request rest = ap (λ b. cond b (request ∷ requests_of rest (key_of request)) (requests_of rest (key_of request))) (same_key_refl (key_of request))

other_first : (request : Request) (rest : List Request) (key : Key) → same_key (key_of request) key ≡ false → requests_of (request ∷ rest) key ≡ requests_of rest key
other_first request rest key apart = ap (λ b. cond b (request ∷ requests_of rest key) (requests_of rest key)) apart

whole_same : (old : List Request) (request : Request) (rest : List Request) (key : Key) → requests_of (old ++ request ∷ rest) key ≡ requests_of ((old ++ request ∷ []) ++ rest) key
whole_same old request rest key = ap (λ all. requests_of all key) (sym (append_assoc old (request ∷ []) rest))

-- a vehicle that a request is about has requests
pub has_own : (old : List Request) (request : Request) (rest : List Request) → requests_of (old ++ request ∷ rest) (key_of request) ≢ []
has_own old request rest none =
    let is = sym (requests_of-append old (request ∷ rest) (key_of request) ∙ ap (λ tail. requests_of old (key_of request) ++ tail) (own_first request rest)) ∙ none in
    some (requests_of old (key_of request)) (requests_of rest (key_of request)) is where
      some : (front tail : List Request) → front ++ request ∷ tail ≡ [] → ⊥
      some [] tail nil = cc
      some (first ∷ front) tail nil = cc

-- what is known in the first pass of a vehicle
abbrev pub IsSurveyedFor : List Request → Key → Option Way → Type 0
IsSurveyedFor history key found = IsKnownBy (λ way. way ≡ way_to (requests_of history key)) (requests_of history key) found

pub surveyed_more : (history : List Request) (request : Request) (before after : Key → Option Way) (way : Way) → ((key : Key) → IsSurveyedFor history key (before key))
    → ((key : Key) → after key ≡ cond (same_key (key_of request) key) (Some way) (before key)) → way ≡ way_to (requests_of history (key_of request) ++ request ∷ [])
    → (key : Key) → IsSurveyedFor (history ++ request ∷ []) key (after key)
surveyed_more history request before after way known updates now =
    each_next (IsSurveyedFor history) (IsSurveyedFor (history ++ request ∷ [])) request before after way known updates (now ∙ ap way_to (own_now history request))
    (λ key found apart was.
    let P : List Request → Type 0 = λ own. IsKnownBy (λ one. one ≡ way_to own) own found in
    subst P (sym (requests_of-push_other history request key apart)) was)

-- and in the second
abbrev pub IsThinnedFor : ℕ → List Request → List Request → Key → Option Way → Type 0
IsThinnedFor from old rest key found = IsKnownBy (IsPath from (requests_of old key) (requests_of rest key)) (requests_of (old ++ rest) key) found

pub thinned_more : (from : ℕ) (old rest : List Request) (request : Request) (before after : Key → Option Way) (way : Way) → ((key : Key) → IsThinnedFor from old (request ∷ rest) key (before key))
    → ((key : Key) → after key ≡ cond (same_key (key_of request) key) (Some way) (before key))
    → IsPath from (requests_of old (key_of request) ++ request ∷ []) (requests_of rest (key_of request)) way
    → (key : Key) → IsThinnedFor from (old ++ request ∷ []) rest key (after key)
thinned_more from old rest request before after way known updates now =
    let Own : List Request → Type 0 = λ own. IsPath from own (requests_of rest (key_of request)) way in
    each_next (IsThinnedFor from old (request ∷ rest)) (IsThinnedFor from (old ++ request ∷ []) rest) request before after way known updates (subst Own (own_now old request) now)
    (λ key found apart was.
    let All : List Request → Type 0 = λ all. IsKnownBy (IsPath from (requests_of old key) (requests_of (request ∷ rest) key)) all found in
    let Rest : List Request → Type 0 = λ tail. IsKnownBy (IsPath from (requests_of old key) tail) (requests_of ((old ++ request ∷ []) ++ rest) key) found in
    let Old : List Request → Type 0 = λ own. IsKnownBy (IsPath from own (requests_of rest key)) (requests_of ((old ++ request ∷ []) ++ rest) key) found in
    subst Old (sym (requests_of-push_other old request key apart)) (subst Rest (other_first request rest key apart) (subst All (whole_same old request rest key) was)))

-- and in the third
abbrev pub IsMarkedFor : ℕ → List Bool → List Request → List Request → Key → Option Way → Type 0
IsMarkedFor from marks old rest key found = IsKnownBy (IsMarked from (marks_of marks old key) (requests_of old key) (requests_of rest key)) (requests_of (old ++ rest) key) found

pub marked_more : (from : ℕ) (marks : List Bool) (old rest : List Request) (request : Request) (mark : Bool) (before after : Key → Option Way) (way : Way) → length marks ≡ length old
    → ((key : Key) → IsMarkedFor from marks old (request ∷ rest) key (before key)) → ((key : Key) → after key ≡ cond (same_key (key_of request) key) (Some way) (before key))
    → IsMarked from (marks_of marks old (key_of request) ++ mark ∷ []) (requests_of old (key_of request) ++ request ∷ []) (requests_of rest (key_of request)) way
    → (key : Key) → IsMarkedFor from (marks ++ mark ∷ []) (old ++ request ∷ []) rest key (after key)
marked_more from marks old rest request mark before after way same known updates now =
    let Own : List Request → Type 0 = λ own. IsMarked from (marks_of marks old (key_of request) ++ mark ∷ []) own (requests_of rest (key_of request)) way in
    let Told : List Bool → Type 0 = λ next. IsMarked from next (requests_of (old ++ request ∷ []) (key_of request)) (requests_of rest (key_of request)) way in
    let next = marks_of-more marks old mark request (key_of request) same ∙ ap (λ b. marks_of marks old (key_of request) ++ cond b (mark ∷ []) []) (same_key_refl (key_of request)) in
    each_next (IsMarkedFor from marks old (request ∷ rest)) (IsMarkedFor from (marks ++ mark ∷ []) (old ++ request ∷ []) rest) request before after way known updates
    (subst Told (sym next) (subst Own (own_now old request) now))
    (λ key found apart was.
    let All : List Request → Type 0 = λ all. IsKnownBy (IsMarked from (marks_of marks old key) (requests_of old key) (requests_of (request ∷ rest) key)) all found in
    let Rest : List Request → Type 0 = λ tail. IsKnownBy (IsMarked from (marks_of marks old key) (requests_of old key) tail) (requests_of ((old ++ request ∷ []) ++ rest) key) found in
    let Old : List Request → Type 0 = λ own. IsKnownBy (IsMarked from (marks_of marks old key) own (requests_of rest key)) (requests_of ((old ++ request ∷ []) ++ rest) key) found in
    let Ours : List Bool → Type 0 = λ ours. IsKnownBy (IsMarked from ours (requests_of (old ++ request ∷ []) key) (requests_of rest key)) (requests_of ((old ++ request ∷ []) ++ rest) key) found in
    let ours = marks_of-more marks old mark request key same ∙ ap (λ b. marks_of marks old key ++ cond b (mark ∷ []) []) apart ∙ append-nil (marks_of marks old key) in
    subst Ours (sym ours) (subst Old (sym (requests_of-push_other old request key apart)) (subst Rest (other_first request rest key apart) (subst All (whole_same old request rest key) was))))

-- the second pass begins with what the first one saw
pub thinned_begins : (from : ℕ) (history : List Request) (key : Key) (found : Option Way) → IsSurveyedFor history key found → IsThinnedFor from [] history key found
thinned_begins from history key None none = none
thinned_begins from history key (Some way) is =
    let P : Way → Type 0 = λ one. IsPath from [] (requests_of history key) one in subst P (sym is) (path_begins from (requests_of history key))

-- the third with what the second one marked
pub marked_begins : (from : ℕ) (history : List Request) (key : Key) (found : Option Way) → IsThinnedFor from history [] key found → IsMarkedFor from [] [] history key found
marked_begins from history key None none = ap (λ all. requests_of all key) (sym (append-nil history)) ∙ none
marked_begins from history key (Some way) is = record { kept = path_ends from (requests_of history key) way is; next = is.next; ours = refl }

nothing_compacted : (from : ℕ) → IsCompacted from [] []
nothing_compacted from = record { cuts = tt; state = refl; last = refl; position = refl; stay = refl }

-- enough is gone of one vehicle's requests
abbrev pub IsThinOf : ℕ → List Request → List Request → Type 0
IsThinOf from old new = thinned_count from (last_time old) new ≤ 17

-- the marks that were told keep what has to be kept of each vehicle
own_kept : (from : ℕ) (marks : List Bool) (history : List Request) (key : Key) (found : Option Way) → IsMarkedFor from marks history [] key found
    → IsCompacted from (requests_of history key) (kept_of (marks_of marks history key) (requests_of history key))
    × ((tables : Tables) → IsLawfulOf tables (requests_of history key) → IsThinOf from (requests_of history key) (kept_of (marks_of marks history key) (requests_of history key)))
own_kept from marks history key None none =
    let nothing : requests_of history key ≡ [] = ap (λ all. requests_of all key) (sym (append-nil history)) ∙ none in
    let ours = marks_of marks history key in
    let P : List Request → Type 0 = λ kept. IsCompacted from [] kept in
    let Q : List Request → Type 0 = λ all. IsCompacted from all (kept_of ours all) × ((tables : Tables) → IsLawfulOf tables all → IsThinOf from all (kept_of ours all)) in
    let empty : IsCompacted from [] (kept_of ours []) = subst P (sym (kept_nil ours)) (nothing_compacted from) in
    let thin : (tables : Tables) → IsLawfulOf tables [] → IsThinOf from [] (kept_of ours []) = λ tables lawful. none_thin ours in
    subst Q (sym nothing) (empty, thin) where
      none_thin : (all : List Bool) → IsThinOf from [] (kept_of all [])
      none_thin all = let none_ : thinned_count from None (kept_of all []) ≡ 0 = ap (thinned_count from None) (kept_nil all) in omega arith
own_kept from marks history key (Some way) is =
    let own = requests_of history key in
    let P : List Request → Type 0 = λ all. IsKept from all way.marks in
    let kept : IsKept from own way.marks = subst P (append-nil own) is.kept in
    let whole : marks_of marks history key ≡ way.marks = is.ours ∙ take_all (length own) way.marks (omega (arith, kept.count)) in
    let Q : List Bool → Type 0 = λ ours. IsCompacted from own (kept_of ours own) × ((tables : Tables) → IsLawfulOf tables own → IsThinOf from own (kept_of ours own)) in
    subst Q (sym whole) (kept.compacted, kept.thin)

-- what was marked of a history is a compaction of it, and thin where it's lawful
pub marked_is : (from : ℕ) (history : List Request) (marks : List Bool) (found : Key → Option Way) → ((key : Key) → IsMarkedFor from marks history [] key (found key))
    → IsCompaction from history (kept_of marks history) × ((tables : Tables) → IsLawful tables history → IsThin from history (kept_of marks history))
marked_is from history marks found known = (
  λ key.
      let P : List Request → Type 0 = λ kept. IsCompacted from (requests_of history key) kept in
      subst P (sym (requests_of-kept marks history key)) (own_kept from marks history key (found key) (known key)).0,
  λ tables lawful key.
      let P : List Request → Type 0 = λ kept. IsThinOf from (requests_of history key) kept in
      subst P (sym (requests_of-kept marks history key)) ((own_kept from marks history key (found key) (known key)).1 tables (lawful key)),
)

-- of the request's own vehicle, it's the next one
pub own_path : (from : ℕ) (old rest : List Request) (request : Request) (way : Way) → IsPath from (requests_of old (key_of request)) (requests_of (request ∷ rest) (key_of request)) way
    → IsPath from (requests_of old (key_of request)) (request ∷ requests_of rest (key_of request)) way
own_path from old rest request way is = let P : List Request → Type 0 = λ tail. IsPath from (requests_of old (key_of request)) tail way in subst P (own_first request rest) is

pub own_marked : (from : ℕ) (ours : List Bool) (old rest : List Request) (request : Request) (way : Way)
    → IsMarked from ours (requests_of old (key_of request)) (requests_of (request ∷ rest) (key_of request)) way → IsMarked from ours (requests_of old (key_of request)) (request ∷ requests_of rest (key_of request)) way
own_marked from ours old rest request way is = let P : List Request → Type 0 = λ tail. IsMarked from ours (requests_of old (key_of request)) tail way in subst P (own_first request rest) is

-- a mark more for a request more
pub longer : (marks : List Bool) (old : List Request) (mark : Bool) (request : Request) → length marks ≡ length old → length (marks ++ mark ∷ []) ≡ length (old ++ request ∷ [])
longer marks old mark request same = length-append marks (mark ∷ []) ∙ ap (λ n. n + 1) same ∙ sym (length-append old (request ∷ []))
