-- The vehicles that events mention, when one more event comes.
use Rattle.std.proofs.Common.{◌≡◌, ◌||◌, if◌then◌else◌, cond, List, [], ◌∷◌, ◌++◌, filter, not, Bool, true, false, refl, sym, ◌∙◌, ap}
use Rattle.std.specs.List.{list_any}
use Rattle.std.proofs.lemmas.List.{append-nil}
use Rattle.std.proofs.lemmas.List.Elements.{filter-append, filter_map-append}
use Rattle.indexmap.specs.IndexSet.{insert_key}
use Rattle.mds_core.specs.Reported.{Reported}
use Rattle.mds_core.specs.History.{same_key}
use Rattle.mds_core.proofs.Histories.{same_key_is, same_key_refl}
use Rattle.mds_batch.specs.declared.item.EventItem.{EventItem}
use Rattle.mds_trace.specs.Items.{event_of, events_of, vehicles_of}
use Rattle.mds_trace.proofs.Entries.{insert_cons, insert_first}

module _ {K : Type 0} (same : K → K → Bool) (same_is : (a b : K) → same a b ≡ true → a ≡ b) (same_refl : (a : K) → same a a ≡ true) (first key : K) where
  -- the keys other than the first
  abbrev others : List K → List K
  others keys = filter (λ other. not (same other first)) keys

  -- leaving out one key doesn't hide another
  any_others : (keys : List K) → same key first ≡ false → list_any (same key) (others keys) ≡ list_any (same key) keys
  any_others [] apart = refl
  any_others (next ∷ keys) apart = by_next (same next first) refl (any_others keys apart) where
    by_next : (b : Bool) → same next first ≡ b → list_any (same key) (others keys) ≡ list_any (same key) keys
        → list_any (same key) (cond (not b) (next ∷ others keys) (others keys)) ≡ (same key next || list_any (same key) keys)
    by_next false is rest = ap (λ b. same key next || b) rest
    by_next true is rest = let unseen : same key next ≡ false = ap (same key) (same_is next first is) ∙ apart in rw unseen rest

  -- a key more goes in behind the first as it does among the others
  pub insert_others : (keys : List K) → first ∷ others (insert_key same keys key) ≡ insert_key same (first ∷ others keys) key
  insert_others keys = by_first (same key first) refl where
    gone : same key first ≡ true → (b : Bool) → others (if b then keys else keys ++ key ∷ []) ≡ others keys
    gone is true = refl
    gone is false = filter-append (λ other. not (same other first)) keys (key ∷ []) ∙ ap (λ b. others keys ++ cond (not b) (key ∷ []) []) is ∙ append-nil (others keys)

    stays : same key first ≡ false → (b : Bool) → others (if b then keys else keys ++ key ∷ []) ≡ (if b then others keys else others keys ++ key ∷ [])
    stays is true = refl
    stays is false = filter-append (λ other. not (same other first)) keys (key ∷ []) ∙ ap (λ b. others keys ++ cond (not b) (key ∷ []) []) is

    by_first : (b : Bool) → same key first ≡ b → first ∷ others (insert_key same keys key) ≡ insert_key same (first ∷ others keys) key
    by_first true is =
        ap (λ rest. first ∷ rest) (gone is (list_any (same key) keys)) ∙ sym (insert_first same same_is same_refl first (others keys) key is)
    by_first false is =
        ap (λ rest. first ∷ rest)
        (stays is (list_any (same key) keys) ∙ ap (λ b. if b then others keys else others keys ++ key ∷ []) (sym (any_others keys is)))
        ∙ sym (insert_cons same same_is same_refl first (others keys) key is)

pub vehicles-push : (events : List Reported) (event : Reported) → vehicles_of (events ++ event ∷ []) ≡ insert_key same_key (vehicles_of events) event.key
vehicles-push [] event = refl
vehicles-push (first ∷ events) event =
    ap (λ keys. first.key ∷ filter (λ key. not (same_key key first.key)) keys) (vehicles-push events event)
    ∙ insert_others same_key same_key_is same_key_refl first.key event.key (vehicles_of events)

pub events-push : (items : List EventItem) (item : EventItem) → events_of (items ++ item ∷ []) ≡ events_of items ++ events_of (item ∷ [])
events-push items item = filter_map-append event_of items (item ∷ [])
