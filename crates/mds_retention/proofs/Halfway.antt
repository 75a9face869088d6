-- How a pass over known bytes goes on.
use Rattle.std.proofs.Common.{◌≡◌, ◌∙◌, ◌<◌, ◌≤◌, ℕ, List, [], ◌∷◌, ◌++◌, length, Option, Some, sym, ap, append_assoc, append-nil, subst, arith, refl, length-append}
use Rattle.std.proofs.lemmas.List.{append_cancel_left, length_push}
use Rattle.std.specs.List.{AllZip}
use Rattle.mds_core.specs.declared.request.Request.{Request}
use Rattle.mds_entries.specs.Entry.{Tells}
use Rattle.mds_groups.specs.Form.{texts_in}
use Rattle.mds_retention.specs.declared.place.Place.{Place}
use Rattle.mds_retention.specs.declared.lines.RequestLines.{RequestLines}
use Rattle.mds_retention.specs.Lines.{HasTold}
use Rattle.mds_retention.specs.Place.{HasAll, IsTakenTo}
use Rattle.mds_retention.specs.Telling.{BeginsWith, HasFewer, HasTexts}
use Rattle.mds_retention.specs.Texts.{text_of, HandsOn, ReadsAll}
use Rattle.mds_retention.proofs.Fronts.{texts_front}
use Rattle.mds_retention.proofs.Reading.{read_texts}
use Rattle.mds_retention.proofs.Telling.{told_count, told_zip, zip_front}

-- all that counts was told
pub taken_to : (known : Option (List ℕ)) (texts : List (List ℕ)) (history : List Request) (all : (place : Place) × HasAll known texts place) → AllZip Tells texts history → IsTakenTo known history all.0
taken_to known texts history all told =
    let has = all.1 in
    let Told : List (List ℕ) → Type 0 = λ (w : List (List ℕ)). AllZip Tells w history in
    (record { form = all.0.form; lines = has.lines; groups = has.groups; counted = has.counted; journal = has.is.journal; told = subst Told (sym has.told) told }, has.is)

module _ {R : Type 0} (remaining : R → Option (List ℕ)) (known : Option (List ℕ)) (old new : RequestLines R) (history : List Request) (told : HasTold remaining known old history) where
  -- one request more
  pub told_more : (request : Request) → HandsOn remaining old.texts new.texts → Tells (text_of new.texts) request → HasTold remaining known new (history ++ request ∷ [])
  told_more request hands tells = (told.0 ++ text_of new.texts ∷ [], (hands known told.0 told.1).0, told_zip told.0 history (text_of new.texts) request told.2 tells)

  -- they are all
  pub told_all : ReadsAll remaining old.texts new.texts → IsTakenTo known history new.texts.place
  told_all all = taken_to known told.0 history (new.texts.place, all known told.0 told.1) told.2

  -- where they are all, there are fewer than some number that is greater
  pub told_fewer : (count : ℕ) → ReadsAll remaining old.texts new.texts → length history < count → HasFewer known count
  told_fewer count all few =
      let has = all known told.0 told.1 in
      let size : length (texts_in has.groups) ≡ length history = ap (λ (w : List (List ℕ)). length w) has.told ∙ told_count told.0 history told.2 in
      (new.texts.place.form, has.lines, has.groups, has.counted, has.is.journal, omega (arith, size, few))

-- what was told is a front of what known bytes tell first, where that is as long
told_front : (bytes : List ℕ) (texts : List (List ℕ)) (old all : List Request) → BeginsWith bytes all → HasTexts (Some bytes) texts → AllZip Tells texts old → length old ≤ length all
    → (rest : List Request) × (all ≡ old ++ rest)
told_front bytes texts old all begins has told few =
    let every = begins.groups in
    let short : length texts ≤ length (texts_in every) = omega (arith, few, told_count texts old told, told_count (texts_in every) all begins.told) in
    let front = texts_front bytes texts begins.lines begins.more begins.form every has begins.counted begins.journal short in
    let Told : List (List ℕ) → Type 0 = λ (w : List (List ℕ)). AllZip Tells w all in
    let zip = zip_front texts front.0 old all told (subst Told front.1 begins.told) in
    (zip.0, zip.1)

-- what is to come begins with the request that was read
pub goes_on : {R : Type 0} (remaining : R → Option (List ℕ)) (known : Option (List ℕ)) (lines : RequestLines R) (bytes : List ℕ) (old rest all : List Request) (request : Request) → known ≡ Some bytes
    → BeginsWith bytes all → all ≡ old ++ rest → HasTold remaining known lines (old ++ request ∷ []) → length old < length all
    → (behind : List Request) × (rest ≡ request ∷ behind) × (all ≡ (old ++ request ∷ []) ++ behind)
goes_on remaining known lines bytes old rest all request known_is begins is told more =
    let few : length (old ++ request ∷ []) ≤ length all = omega (arith, more, length_push old request) in
    let has = subst (λ (w : Option (List ℕ)). HasTexts w told.0) known_is (read_texts remaining known lines.texts told.0 told.1) in
    let front = told_front bytes told.0 (old ++ request ∷ []) all begins has told.2 few in
    (front.0, append_cancel_left old rest (request ∷ front.0) (sym is ∙ front.1 ∙ append_assoc old (request ∷ []) front.0), front.1)

-- once as many were read as there are, all were
pub is_through : (old rest all : List Request) → all ≡ old ++ rest → length old ≡ length all → (rest ≡ []) × (old ≡ all)
is_through old [] all is count = (refl, sym (is ∙ append-nil old))
is_through old (request ∷ rest) all is count = absurd (omega (arith, ap length is, length-append old (request ∷ rest), count))
