-- What a step leaves that went well, and the next of some items.
use Rattle.std.proofs.Common.{◌≡◌, ℕ, ◌+◌, List, [], ◌∷◌, ◌++◌, take, slice_get, Option, Some, Result, Ok, Err, IfOk, sym, ap, ◌∙◌, subst}
use Rattle.std.proofs.lemmas.List.{take_more}
use Rattle.std.proofs.lemmas.Option.{slice_get_within, get_or_from_slice_get}
use Rattle.std.specs.Result.{result_ok, MatchResult}
use Rattle.json.proofs.Found.{Some_inj}
use Rattle.mds_pieces.proofs.Strings.{never}

pub if_ok : {T E : Type 0} (P : T → Type 0) (r : Result T E) (o : Option T) (x : T) → o ≡ result_ok r → o ≡ Some x → IfOk r P → P x
if_ok P (Ok y) o x e f h = subst P (Some_inj y x (sym e ∙ f)) h
if_ok P (Err y) o x e f h = absurd (never (sym e ∙ f))

pub match_ok : {T E : Type 0} (P : T → Type 0) (Q : E → Type 0) (r : Result T E) (o : Option T) (x : T) → o ≡ result_ok r → o ≡ Some x → MatchResult r P Q → P x
match_ok P Q (Ok y) o x e f h = subst P (Some_inj y x (sym e ∙ f)) h
match_ok P Q (Err y) o x e f h = absurd (never (sym e ∙ f))

pub take_next : {A : Type 0} (xs : List A) (at : ℕ) (x : A) → slice_get xs at ≡ Some x → take at xs ++ x ∷ [] ≡ take (at + 1) xs
take_next xs at x e = sym (take_more xs at x (slice_get_within xs at x e) ∙ ap (λ y. take at xs ++ y ∷ []) (get_or_from_slice_get xs at x x e))
