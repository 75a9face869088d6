-- The marks of a pass by cuts, with one more, and what it keeps of each vehicle.
use Rattle.std.proofs.Common.{◌≡◌, ◌≢◌, ℕ, ◌+◌, ◌<◌, ◌≤◌, List, [], ◌∷◌, ◌++◌, length, take, min, cond, nat_le, Bool, true, false, Option, Some, None, refl, sym, ◌∙◌, ap, subst, arith, length-append}
use Rattle.std.specs.Option.{option_map}
use Rattle.std.proofs.Math.Nat.{min_comm}
use Rattle.std.proofs.lemmas.Bool.Decides.{nat_tests}
use Rattle.std.proofs.lemmas.List.{append-nil, take_all, take-append-le}
use Rattle.mds_core.specs.declared.key.Key.{Key}
use Rattle.mds_core.specs.declared.request.Request.{Request}
use Rattle.mds_core.specs.History.{key_of, requests_of, same_key}
use Rattle.mds_core.proofs.Histories.{same_key_is, same_key_refl, requests_of-append, requests_of-push_other, requests_of-push_same}
use Rattle.mds_compact.specs.Compaction.{kept_of}
use Rattle.mds_compact.specs.Cutting.{IsCutBy, front_at, front_of, least_of, most_events}
use Rattle.mds_compact.specs.declared.cutting.Cut.{Cut}
use Rattle.mds_compact.specs.declared.cutting.Front.{Front}
use Rattle.mds_compact.proofs.Kept.{kept_more}
use Rattle.mds_compact.proofs.Passes.{each_next}

-- whether a vehicle's next request stays, behind so many
abbrev pub stays_at : Option ℕ → ℕ → Bool
stays_at None count = true
stays_at (Some most) count = nat_le count most

-- with one request more a front of them has it where it isn't full
front_more : (most : Option ℕ) (all : List Request) (request : Request) (stays : Bool) → stays ≡ stays_at most (length all)
    → front_of most all ++ cond stays (request ∷ []) [] ≡ front_of most (all ++ request ∷ [])
front_more None all request true is = refl
front_more None all request false is = cc
front_more (Some events) all request true is =
    let within : length all ≤ events = grind (arith, nat_tests) in
    let few : length all ≤ 1 + events = omega arith in
    let few_more : length (all ++ request ∷ []) ≤ 1 + events = omega (arith, length-append all (request ∷ [])) in
    ap (λ front. front ++ request ∷ []) (take_all (1 + events) all few) ∙ sym (take_all (1 + events) (all ++ request ∷ []) few_more)
front_more (Some events) all request false is =
    let past : events < length all = grind (arith, nat_tests) in
    let full : 1 + events ≤ length all = omega arith in
    append-nil (take (1 + events) all) ∙ sym (take-append-le (1 + events) all (request ∷ []) full)

-- the request's own, where it stays
own_one : (request : Request) (b : Bool) → requests_of (cond b (request ∷ []) []) (key_of request) ≡ cond b (request ∷ []) []
own_one request true = ap (λ ours. cond ours (request ∷ []) []) (same_key_refl (key_of request))
own_one request false = refl

none_of : (request : Request) (key : Key) → same_key (key_of request) key ≡ false → (b : Bool) → requests_of (cond b (request ∷ []) []) key ≡ []
none_of request key apart true = ap (λ ours. cond ours (request ∷ []) []) apart
none_of request key apart false = refl

-- a request stays where its vehicle's front isn't full
pub cut_more : (cuts : List Cut) (old : List Request) (marks : List Bool) (request : Request) (stays : Bool) → length marks ≡ length old → IsCutBy cuts old (kept_of marks old)
    → stays ≡ stays_at (most_events cuts (key_of request)) (length (requests_of old (key_of request))) → IsCutBy cuts (old ++ request ∷ []) (kept_of (marks ++ stays ∷ []) (old ++ request ∷ []))
cut_more cuts old marks request stays count left is key = by_key (same_key (key_of request) key) refl where
  Left : Key → Type 0
  Left one = requests_of (kept_of (marks ++ stays ∷ []) (old ++ request ∷ [])) one ≡ front_of (most_events cuts one) (requests_of (old ++ request ∷ []) one)

  parts : (one : Key) → requests_of (kept_of (marks ++ stays ∷ []) (old ++ request ∷ [])) one ≡ requests_of (kept_of marks old) one ++ requests_of (cond stays (request ∷ []) []) one
  parts one = ap (λ all. requests_of all one) (kept_more marks old stays request count) ∙ requests_of-append (kept_of marks old) (cond stays (request ∷ []) []) one

  own : Left (key_of request)
  own =
      let ours = key_of request in
      let most = most_events cuts ours in
      parts ours ∙ ap (λ tail. requests_of (kept_of marks old) ours ++ tail) (own_one request stays) ∙ ap (λ front. front ++ cond stays (request ∷ []) []) (left ours)
      ∙ front_more most (requests_of old ours) request stays is ∙ ap (front_of most) (sym (requests_of-push_same old request ours (same_key_refl ours)))

  by_key : (b : Bool) → same_key (key_of request) key ≡ b → Left key
  by_key true same = subst Left (same_key_is (key_of request) key same) own
  by_key false apart =
      parts key ∙ ap (λ tail. requests_of (kept_of marks old) key ++ tail) (none_of request key apart stays) ∙ append-nil (requests_of (kept_of marks old) key) ∙ left key
      ∙ ap (front_of (most_events cuts key)) (sym (requests_of-push_other old request key apart))

-- what is kept of a vehicle behind these requests
abbrev pub IsFrontIn : List Cut → List Request → Key → Option Front → Type 0
IsFrontIn cuts old key found = found ≡ option_map (front_at (requests_of old key)) (most_events cuts key)

-- behind one more
pub fronts_more : (cuts : List Cut) (old : List Request) (request : Request) (before after : Key → Option Front) (front : Front) → ((key : Key) → IsFrontIn cuts old key (before key))
    → ((key : Key) → after key ≡ cond (same_key (key_of request) key) (Some front) (before key))
    → Some front ≡ option_map (front_at (requests_of old (key_of request) ++ request ∷ [])) (most_events cuts (key_of request)) → (key : Key) → IsFrontIn cuts (old ++ request ∷ []) key (after key)
fronts_more cuts old request before after front known updates now =
    let ours = key_of request in
    let next = sym (requests_of-push_same old request ours (same_key_refl ours)) in
    each_next (IsFrontIn cuts old) (IsFrontIn cuts (old ++ request ∷ [])) request before after front known updates (now ∙ ap (λ all. option_map (front_at all) (most_events cuts ours)) next)
    (λ key found apart was. was ∙ ap (λ all. option_map (front_at all) (most_events cuts key)) (sym (requests_of-push_other old request key apart)))

-- where nothing is kept of a vehicle, no cut is of it
pub uncut : (cuts : List Cut) (old : List Request) (key : Key) → None ≡ option_map (front_at (requests_of old key)) (most_events cuts key) → most_events cuts key ≡ None
uncut cuts old key is = by_most (most_events cuts key) is where
  by_most : (most : Option ℕ) → None ≡ option_map (front_at (requests_of old key)) most → most ≡ None
  by_most None none = refl
  by_most (Some count) none = cc

-- a request of such a vehicle changes nothing
pub fronts_stay : (cuts : List Cut) (old : List Request) (request : Request) (before : Key → Option Front) → ((key : Key) → IsFrontIn cuts old key (before key)) → most_events cuts (key_of request) ≡ None
    → (key : Key) → IsFrontIn cuts (old ++ request ∷ []) key (before key)
fronts_stay cuts old request before known none key = by_key (same_key (key_of request) key) refl where
  P : Key → Type 0
  P one = IsFrontIn cuts (old ++ request ∷ []) one (before one)

  by_key : (b : Bool) → same_key (key_of request) key ≡ b → P key
  by_key true same =
      let ours = key_of request in
      let own : P ours = known ours ∙ ap (option_map (front_at (requests_of old ours))) none ∙ sym (ap (option_map (front_at (requests_of (old ++ request ∷ []) ours))) none) in
      subst P (same_key_is ours key same) own
  by_key false apart = known key ∙ ap (λ all. option_map (front_at all) (most_events cuts key)) (sym (requests_of-push_other old request key apart))

-- the number that is kept of a vehicle is that of the cuts
pub front_is : (own : List Request) (most : Option ℕ) (front : Front) → Some front ≡ option_map (front_at own) most → (front ≡ front_at own front.most) × (most ≡ Some front.most)
front_is own None front is = cc
front_is own (Some count) front is = let same : front ≡ front_at own count = cc in (same ∙ sym (ap (λ (one : Front). front_at own one.most) same), sym (ap (λ (one : Front). Some one.most) same))

min_swap : (a b c : ℕ) → min (min a b) c ≡ min (min a c) b
min_swap a b c = grind arith

least_swap : (most : Option ℕ) (a b : ℕ) → least_of (Some (least_of most a)) b ≡ least_of (Some (least_of most b)) a
least_swap None a b = min_comm a b
least_swap (Some count) a b = min_swap count a b

-- with one cut more
pub most_more : (cuts : List Cut) (cut : Cut) (key : Key)
    → most_events (cuts ++ cut ∷ []) key ≡ cond (same_key cut.key key) (Some (least_of (most_events cuts key) cut.events)) (most_events cuts key)
most_more [] cut key = refl
most_more (first ∷ cuts) cut key =
    ap (λ most. cond (same_key first.key key) (Some (least_of most first.events)) most) (most_more cuts cut key) ∙ by_keys (same_key first.key key) (same_key cut.key key) (most_events cuts key) where
      by_keys : (a b : Bool) (most : Option ℕ)
          → cond a (Some (least_of (cond b (Some (least_of most cut.events)) most) first.events)) (cond b (Some (least_of most cut.events)) most)
          ≡ cond b (Some (least_of (cond a (Some (least_of most first.events)) most) cut.events)) (cond a (Some (least_of most first.events)) most)
      by_keys true true most = ap Some (least_swap most cut.events first.events)
      by_keys true false most = refl
      by_keys false true most = refl
      by_keys false false most = refl

-- a vehicle that a cut names is cut
pub named_cut : (cuts : List Cut) (cut : Cut) (rest : List Cut) → most_events (cuts ++ cut ∷ rest) cut.key ≢ None
named_cut [] cut rest none = let is = ap (λ same. cond same (Some (least_of (most_events rest cut.key) cut.events)) (most_events rest cut.key)) (same_key_refl cut.key) in cc
named_cut (first ∷ cuts) cut rest none = by_key (same_key first.key cut.key) (most_events (cuts ++ cut ∷ rest) cut.key) (named_cut cuts cut rest) none where
  by_key : (b : Bool) (most : Option ℕ) → most ≢ None → cond b (Some (least_of most first.events)) most ≡ None → ⊥
  by_key true most some is = cc
  by_key false most some is = some is

front_nil : (most : Option ℕ) → [] ≡ front_of most []
front_nil None = refl
front_nil (Some count) = sym (take_all (1 + count) [] (omega arith))

-- nothing is left of nothing
pub cut_nil : (cuts : List Cut) → IsCutBy cuts [] []
cut_nil cuts key = front_nil (most_events cuts key)

-- what is kept of a vehicle with one cut more
pub fronts_cut : (cuts : List Cut) (cut : Cut) (before after : Key → Option Front) (front : Front) → ((key : Key) → IsFrontIn cuts [] key (before key))
    → ((key : Key) → after key ≡ cond (same_key cut.key key) (Some front) (before key)) → front ≡ front_at [] (least_of (most_events cuts cut.key) cut.events)
    → (key : Key) → IsFrontIn (cuts ++ cut ∷ []) [] key (after key)
fronts_cut cuts cut before after front known updates is key = updates key ∙ by_key (same_key cut.key key) refl ∙ ap (option_map (front_at [])) (sym (most_more cuts cut key)) where
  Least : Key → Type 0
  Least one = front ≡ front_at [] (least_of (most_events cuts one) cut.events)

  by_key : (b : Bool) → same_key cut.key key ≡ b
      → cond (same_key cut.key key) (Some front) (before key) ≡ option_map (front_at []) (cond (same_key cut.key key) (Some (least_of (most_events cuts key) cut.events)) (most_events cuts key))
  by_key true same =
      ap (λ b. cond b (Some front) (before key)) same ∙ ap Some (subst Least (same_key_is cut.key key same) is)
      ∙ sym (ap (λ b. option_map (front_at []) (cond b (Some (least_of (most_events cuts key) cut.events)) (most_events cuts key))) same)
  by_key false apart =
      ap (λ b. cond b (Some front) (before key)) apart ∙ known key
      ∙ sym (ap (λ b. option_map (front_at []) (cond b (Some (least_of (most_events cuts key) cut.events)) (most_events cuts key))) apart)

-- the lesser number is kept of a vehicle that was cut before
pub least_front : (front : Front) (most : Option ℕ) (events least : ℕ) → front ≡ front_at [] front.most → most ≡ Some front.most → least ≡ min front.most events
    → record front { most = least } ≡ front_at [] (least_of most events)
least_front front most events least same is lesser = ap (λ (one : Front). record one { most = least }) same ∙ ap (front_at []) (lesser ∙ sym (ap (λ one. least_of one events) is))
