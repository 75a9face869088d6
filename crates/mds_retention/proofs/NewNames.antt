-- What stands under a new name.
use Rattle.std.proofs.Common.{◌≡◌, ◌∙◌, ℕ, List, Option, Some, ap, subst}
use Rattle.mds_file.specs.NewFile.{HasName}
use Rattle.mds_retention.specs.declared.draft.Draft.{Draft}
use Rattle.mds_retention.specs.Draft.{IsWritten}
use Rattle.mds_retention.specs.Compacting.{StandsWhole}

-- a file that is given a name stands there with all that was written
pub named_whole : {D : Type 0} (may_leave : D → List ℕ → Type 0) (is_true : D → Type 0) (draft : Draft D) (file : D) (Is : List ℕ → Type 0) (out : List ℕ) (found : Option (List ℕ)) → file ≡ draft.file
    → is_true file → IsWritten may_leave is_true out draft → Is out → HasName (may_leave file) found → StandsWhole Is found
named_whole may_leave is_true draft file Is out found same is written kept named =
    let leaves = subst (λ one. may_leave one named.0) same named.1 in
    (out, named.2 ∙ ap Some (written (subst is_true same is) named.0 leaves), kept)
