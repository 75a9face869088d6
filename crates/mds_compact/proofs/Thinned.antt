-- Half of the way: with one event left out, and with one request kept.
use Rattle.std.proofs.Common.{◌≡◌, ◌⊎◌, inl, inr, ◌||◌, ℕ, ◌+◌, List, [], ◌∷◌, ◌++◌, length, filter, cond, not, nat_le, nat_lt, Bool, true, false, Option, Some, None, refl, sym, ◌∙◌, ap, arith, length-append}
use Rattle.std.specs.List.{filter_map}
use Rattle.std.specs.Option.{option_or, option_map_or}
use Rattle.std.proofs.lemmas.Bool.Decides.{nat_tests}
use Rattle.std.proofs.lemmas.List.{append-nil}
use Rattle.std.proofs.lemmas.List.Elements.{filter-append, filter_map-append}
use Rattle.mds_table.specs.declared.state.State.{State}
use Rattle.mds_table.specs.declared.state.State.TheVariants.{Removed}
use Rattle.mds_core.specs.declared.position.Position.{Position}
use Rattle.mds_core.specs.declared.request.Request.{Request}
use Rattle.mds_core.specs.declared.request.Request.TheVariants.{Register, Report, Look}
use Rattle.mds_core.specs.Reported.{Reported}
use Rattle.mds_core.specs.History.{state_of, last_time, last_position, reports, report_of}
use Rattle.mds_compact.specs.Compaction.{held_after, has_to_stay, is_recent, position_count, IsCompacted}
use Rattle.mds_compact.specs.Path.{IsThinned}
use Rattle.mds_compact.proofs.Held.{state_through, state_of-more, last_time-more, time_after, last_position-more, position_in}
use Rattle.mds_compact.proofs.Cuts.{cuts_more, cuts_left}

-- the positions of one request and of those behind it
pub position_count-first : (request : Request) (rest : List Request) → position_count (request ∷ rest) ≡ position_count (request ∷ []) + position_count rest
position_count-first (Register key) rest = omega arith
position_count-first (Look key) rest = omega arith
position_count-first (Report event) rest =
    ap length (filter_map-append (λ e. e.position) (event ∷ []) (reports rest))
    ∙ length-append (filter_map (λ e. e.position) (event ∷ [])) (filter_map (λ e. e.position) (reports rest))

-- and of one request more
pub position_count-more : (requests : List Request) (request : Request) → position_count (requests ++ request ∷ []) ≡ position_count requests + position_count (request ∷ [])
position_count-more requests request =
    ap (λ events. length (filter_map (λ e. e.position) events)) (filter_map-append report_of requests (request ∷ []))
    ∙ ap length (filter_map-append (λ e. e.position) (reports requests) (reports (request ∷ [])))
    ∙ length-append (filter_map (λ e. e.position) (reports requests)) (filter_map (λ e. e.position) (reports (request ∷ [])))

-- where no position is to come behind a request, none was before it, or it has one
no_more : (request : Request) (positions : ℕ) → positions ≡ position_count (request ∷ []) + 0 → (positions ≡ 0) ⊎ ((position : Position) × (position_in request ≡ Some position))
no_more (Register key) positions is = inl (omega arith)
no_more (Look key) positions is = inl (omega arith)
no_more (Report event) positions is = by_position event.position refl is where
  by_position : (found : Option Position) → event.position ≡ found → positions ≡ length (filter_map (λ p. p) (found ∷ [])) + 0 → (positions ≡ 0) ⊎ ((position : Position) × (event.position ≡ Some position))
  by_position None at is_ = inl (omega arith)
  by_position (Some position) at is_ = inr (position, at)

end_more : (from : ℕ) (last : Option ℕ) (new old : Option ℕ) (request : Request) → (option_map_or (is_recent from last) old true ≡ true → new ≡ old)
    → option_map_or (is_recent from last) (time_after old request) true ≡ true → time_after new request ≡ time_after old request
end_more from last new old (Register key) same recent = same recent
end_more from last new old (Look key) same recent = same recent
end_more from last new old (Report event) same recent = refl

module _ (from : ℕ) (last : Option ℕ) (positions after : ℕ) (old new : List Request) (held : State) (is : IsThinned from last positions old new held) where
  -- an event that may go was left out
  pub thinned_left : (event : Reported) → is_recent from last event.time ≡ false → (after ≡ 0 → (positions ≡ 0) × (event.position ≡ None))
      → IsThinned from last after (old ++ Report event ∷ []) new held
  thinned_left event goes behind = record {
    cuts = cuts_left Removed Removed old new event is.cuts;
    state = is.state;
    end = λ recent.
        let no : option_map_or (is_recent from last) (last_time (old ++ Report event ∷ [])) true ≡ false = ap (λ time. option_map_or (is_recent from last) time true) (last_time-more old (Report event)) ∙ goes in
        absurd (let clash : true ≡ false = sym recent ∙ no in cc);
    position = λ none.
        let nothing = behind none in
        is.position nothing.0 ∙ sym (last_position-more old (Report event) ∙ ap (λ p. option_or p (last_position old)) nothing.1);
    stay =
        is.stay ∙ sym (append-nil (filter (has_to_stay from last) old)) ∙ ap (λ b. filter (has_to_stay from last) old ++ cond b (Report event ∷ []) []) (sym goes)
        ∙ sym (filter-append (has_to_stay from last) old (Report event ∷ []));
  }

  -- a request was kept
  pub thinned_kept : (request : Request) → held ≡ state_of old → positions ≡ position_count (request ∷ []) + after
      → IsThinned from last after (old ++ request ∷ []) (new ++ request ∷ []) (held_after held request)
  thinned_kept request holds counted = record {
    cuts = cuts_more Removed Removed old new (request ∷ []) is.cuts (sym (state_through old) ∙ sym holds ∙ sym is.state ∙ state_through new);
    state = state_of-more new request ∙ ap (λ state. held_after state request) is.state;
    end = λ recent.
        last_time-more new request
        ∙ end_more from last (last_time new) (last_time old) request is.end (sym (ap (λ time. option_map_or (is_recent from last) time true) (last_time-more old request)) ∙ recent)
        ∙ sym (last_time-more old request);
    position = λ none. last_position-more new request ∙ by_position (no_more request positions (counted ∙ ap (λ n. position_count (request ∷ []) + n) none)) ∙ sym (last_position-more old request);
    stay =
        filter-append (has_to_stay from last) new (request ∷ []) ∙ ap (λ front. front ++ filter (has_to_stay from last) (request ∷ [])) is.stay
        ∙ sym (filter-append (has_to_stay from last) old (request ∷ []));
  } where
    by_position : (positions ≡ 0) ⊎ ((position : Position) × (position_in request ≡ Some position)) → option_or (position_in request) (last_position new) ≡ option_or (position_in request) (last_position old)
    by_position (inl none) = ap (option_or (position_in request)) (is.position none)
    by_position (inr some) = ap (λ p. option_or p (last_position new)) some.1 ∙ sym (ap (λ p. option_or p (last_position old)) some.1)

-- the time of the last event is recent
recent_last : (from : ℕ) (last : Option ℕ) → option_map_or (is_recent from last) last true ≡ true
recent_last from None = refl
recent_last from (Some last) = let same : nat_lt last last ≡ false = grind (arith, nat_tests) in ap (λ b. nat_le from last || not b) same ∙ either (nat_le from last) where
  either : (b : Bool) → (b || true) ≡ true
  either false = refl
  either true = refl

-- at the end of the way
pub compacted_at_end : (from : ℕ) (last : Option ℕ) (old new : List Request) (held : State) → IsThinned from last 0 old new held → last ≡ last_time old → held ≡ state_of old → IsCompacted from old new
compacted_at_end from last old new held is ends holds = record {
  cuts = is.cuts;
  state = is.state ∙ holds;
  last = is.end (ap (λ time. option_map_or (is_recent from last) time true) (sym ends) ∙ recent_last from last);
  position = is.position refl;
  stay = ap (λ time. filter (has_to_stay from time) new) (sym ends) ∙ is.stay ∙ ap (λ time. filter (has_to_stay from time) old) ends;
}
