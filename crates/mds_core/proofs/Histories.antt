-- Own lists, and how lawful histories grow.
use Rattle.std.proofs.Common.{◌≡◌, ◌⊎◌, inl, inr, List, [], ◌∷◌, ◌++◌, Bool, true, false, cond, refl, sym, ◌∙◌, ap, subst}
use Rattle.std.specs.Str.{bytes_eq}
use Rattle.std.proofs.lemmas.Bool.{and_parts}
use Rattle.std.proofs.lemmas.Slice.Eq.{bytes_eq-Decides}
use Rattle.std.proofs.lemmas.List.{append-nil}
use Rattle.std.proofs.lemmas.List.Elements.{filter-append}
use Rattle.std.proofs.Common.{append_assoc}
use Rattle.mds_table.specs.Tables.{Tables}
use Rattle.mds_core.specs.declared.key.Key.{Key}
use Rattle.mds_core.specs.declared.request.Request.{Request}
use Rattle.mds_core.specs.declared.request.Request.TheVariants.{Register, Report, Look}
use Rattle.mds_core.specs.declared.reply.Outcome.{Outcome}
use Rattle.mds_core.specs.declared.reply.Outcome.TheVariants.{Done, Seen, Refused}
use Rattle.mds_core.specs.Reported.{Reported}
use Rattle.mds_core.specs.History.{requests_of, key_of, same_key}
use Rattle.mds_core.specs.Answer.{IsAcceptable, Gives, next}
use Rattle.mds_core.specs.Lawful.{IsCareer, IsLawfulOf, IsLawful}

-- keys that are the same are equal
pub same_key_is : (a b : Key) → same_key a b ≡ true → a ≡ b
same_key_is a b same =
    let parts = and_parts (bytes_eq a.provider b.provider) (bytes_eq a.device b.device) same in
    let provider = (bytes_eq-Decides a.provider b.provider).0 parts.0 in
    let device = (bytes_eq-Decides a.device b.device).0 parts.1 in
    λ i. record { provider = provider i; device = device i }

pub same_key_refl : (key : Key) → same_key key key ≡ true
same_key_refl key = rw ((bytes_eq-Decides key.provider key.provider).1 refl, (bytes_eq-Decides key.device key.device).1 refl) refl

pub requests_of-append : (first second : List Request) (key : Key) → requests_of (first ++ second) key ≡ requests_of first key ++ requests_of second key
requests_of-append first second key = filter-append (λ request. same_key (key_of request) key) first second

-- a request more about another vehicle
pub requests_of-push_other : (history : List Request) (request : Request) (key : Key) → same_key (key_of request) key ≡ false → requests_of (history ++ request ∷ []) key ≡ requests_of history key
requests_of-push_other history request key other =
    requests_of-append history (request ∷ []) key ∙ ap (λ b. requests_of history key ++ cond b (request ∷ []) []) other ∙ append-nil (requests_of history key)

-- a request more about this vehicle
pub requests_of-push_same : (history : List Request) (request : Request) (key : Key) → same_key (key_of request) key ≡ true → requests_of (history ++ request ∷ []) key ≡ requests_of history key ++ request ∷ []
requests_of-push_same history request key same =
    requests_of-append history (request ∷ []) key ∙ ap (λ b. requests_of history key ++ cond b (request ∷ []) []) same

-- the history after a request is as before for every other vehicle
pub requests_of-next_other : (history : List Request) (request : Request) (outcome : Outcome) (key : Key) → same_key (key_of request) key ≡ false
    → requests_of (next history request outcome) key ≡ requests_of history key
requests_of-next_other history request Done key other = requests_of-push_other history request key other
requests_of-next_other history request (Seen standing) key other = refl
requests_of-next_other history request (Refused refusal) key other = refl

-- and for this vehicle it is its next own list
pub requests_of-next_same : (history : List Request) (request : Request) (outcome : Outcome) (key : Key) → same_key (key_of request) key ≡ true
    → requests_of (next history request outcome) key ≡ next (requests_of history key) request outcome
requests_of-next_same history request Done key same = requests_of-push_same history request key same
requests_of-next_same history request (Seen standing) key same = refl
requests_of-next_same history request (Refused refusal) key same = refl

-- a career goes on with a report that could be accepted
career_more : (tables : Tables) (before rest : List Request) (event : Reported) → IsCareer tables before rest
    → IsAcceptable tables (before ++ rest) event → IsCareer tables before (rest ++ Report event ∷ [])
career_more tables before [] event career may =
    let Takes : List Request → Type 0 = λ requests. IsAcceptable tables requests event in
    (subst Takes (append-nil before) may, tt)
career_more tables before (Report first ∷ rest) event career may =
    let Takes : List Request → Type 0 = λ requests. IsAcceptable tables requests event in
    let same : before ++ (Report first ∷ rest) ≡ (before ++ Report first ∷ []) ++ rest = sym (append_assoc before (Report first ∷ []) rest) in
    (career.0, career_more tables (before ++ Report first ∷ []) rest event career.1 (subst Takes same may))
career_more tables before (Register key ∷ rest) event career may = absurd career
career_more tables before (Look key ∷ rest) event career may = absurd career

-- a lawful list of one vehicle stays lawful with a request that is accepted behind it
lawful_of_more : (tables : Tables) (requests : List Request) (request : Request) → IsLawfulOf tables requests → Gives tables requests request Done
    → IsLawfulOf tables (requests ++ request ∷ [])
lawful_of_more tables requests (Register key) lawful gives = rw gives tt
lawful_of_more tables [] (Report event) lawful gives = absurd (gives.0.registered refl)
lawful_of_more tables (Register key ∷ rest) (Report event) lawful gives = career_more tables (Register key ∷ []) rest event lawful gives
lawful_of_more tables (Report first ∷ rest) (Report event) lawful gives = absurd lawful
lawful_of_more tables (Look key ∷ rest) (Report event) lawful gives = absurd lawful
lawful_of_more tables requests (Look key) lawful gives = absurd gives

-- a lawful history stays lawful with a request that is accepted behind it
lawful_more : (tables : Tables) (history : List Request) (request : Request) → IsLawful tables history → Gives tables (requests_of history (key_of request)) request Done
    → IsLawful tables (history ++ request ∷ [])
lawful_more tables history request lawful gives key = by_key (same_key (key_of request) key) refl where
  by_key : (b : Bool) → same_key (key_of request) key ≡ b → IsLawfulOf tables (requests_of (history ++ request ∷ []) key)
  by_key false other = rw (requests_of-push_other history request key other) (lawful key)
  by_key true same =
      let P : Key → Type 0 = λ k. Gives tables (requests_of history k) request Done in
      let gives_here = subst P (same_key_is (key_of request) key same) gives in
      rw (requests_of-push_same history request key same) (lawful_of_more tables (requests_of history key) request (lawful key) gives_here)

-- the next history of a lawful one is lawful
pub lawful_next : (tables : Tables) (history : List Request) (request : Request) (outcome : Outcome) → IsLawful tables history
    → Gives tables (requests_of history (key_of request)) request outcome → IsLawful tables (next history request outcome)
lawful_next tables history request Done lawful gives = lawful_more tables history request lawful gives
lawful_next tables history request (Seen standing) lawful gives = lawful
lawful_next tables history request (Refused refusal) lawful gives = lawful

-- each entry of a career could be accepted after those before it
career_gives : (tables : Tables) (before first : List Request) (request : Request) (rest : List Request) → IsCareer tables before (first ++ request ∷ rest)
    → Gives tables (before ++ first) request Done
career_gives tables before [] (Report event) rest career =
    let P : List Request → Type 0 = λ requests. Gives tables requests (Report event) Done in subst P (sym (append-nil before)) career.0
career_gives tables before [] (Register key) rest career = absurd career
career_gives tables before [] (Look key) rest career = absurd career
career_gives tables before (Report event ∷ first) request rest career =
    let P : List Request → Type 0 = λ requests. Gives tables requests request Done in
    subst P (append_assoc before (Report event ∷ []) first) (career_gives tables (before ++ Report event ∷ []) first request rest career.1)
career_gives tables before (Register key ∷ first) request rest career = absurd career
career_gives tables before (Look key ∷ first) request rest career = absurd career

-- each entry of a lawful own list could be accepted after those before it
lawful_gives : (tables : Tables) (first : List Request) (request : Request) (rest : List Request) → IsLawfulOf tables (first ++ request ∷ rest) → Gives tables first request Done
lawful_gives tables [] (Register key) rest lawful = refl
lawful_gives tables [] (Report event) rest lawful = absurd lawful
lawful_gives tables [] (Look key) rest lawful = absurd lawful
lawful_gives tables (Register key ∷ first) request rest lawful = career_gives tables (Register key ∷ []) first request rest lawful
lawful_gives tables (Report event ∷ first) request rest lawful = absurd lawful
lawful_gives tables (Look key ∷ first) request rest lawful = absurd lawful

-- an entry stands in its own list, between the own lists of what is before it and behind it
own_at : (before : List Request) (request : Request) (rest : List Request)
    → requests_of (before ++ request ∷ rest) (key_of request) ≡ requests_of before (key_of request) ++ request ∷ requests_of rest (key_of request)
own_at before request rest = requests_of-append before (request ∷ rest) (key_of request) ∙ rw (same_key_refl (key_of request)) refl

-- each entry of a lawful history could be accepted after those before it
pub entry_gives : (tables : Tables) (before : List Request) (request : Request) (rest : List Request) → IsLawful tables (before ++ request ∷ rest)
    → Gives tables (requests_of before (key_of request)) request Done
entry_gives tables before request rest lawful =
    let key = key_of request in
    let P : List Request → Type 0 = λ requests. IsLawfulOf tables requests in
    lawful_gives tables (requests_of before key) request (requests_of rest key) (subst P (own_at before request rest) (lawful key))

-- lawful histories with no vehicle in common, one after the other
pub joined : (tables : Tables) (first second : List Request) → IsLawful tables first → IsLawful tables second
    → ((key : Key) → (requests_of first key ≡ []) ⊎ (requests_of second key ≡ [])) → IsLawful tables (first ++ second)
joined tables first second lawful_first lawful_second apart key = rw (requests_of-append first second key) (one_side (apart key)) where
  one_side : (requests_of first key ≡ []) ⊎ (requests_of second key ≡ []) → IsLawfulOf tables (requests_of first key ++ requests_of second key)
  one_side (inl none) = rw none (lawful_second key)
  one_side (inr none) = rw (none, append-nil) (lawful_first key)
