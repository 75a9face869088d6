-- Where the vehicles end, by what is kept of them.
use Rattle.std.proofs.Common.{List, [], ◌∷◌, map}
use Rattle.std.specs.List.{AllZip}
use Rattle.mds_table.specs.Tables.{Tables}
use Rattle.mds_core.specs.declared.key.Key.{Key}
use Rattle.mds_core.specs.Reported.{Reported}
use Rattle.mds_trace.specs.declared.report.Opening.{Opening}
use Rattle.mds_trace.specs.declared.followed.Followed.{Followed}
use Rattle.mds_trace.specs.Replay.{prior_of, IsEnd}
use Rattle.mds_trace.specs.Followed.{IsFollowed, AreEntries, end_at}

module _ (opening : Opening) (tables : Tables) (accepted : List Reported) where
  pub ends_from : (keys : List Key) (entries : List (Key × Followed)) → AreEntries (λ key vehicle. IsFollowed opening tables key (prior_of key accepted) vehicle) keys entries
      → AllZip (IsEnd opening tables accepted) keys (map end_at entries)
  ends_from [] [] are = tt
  ends_from [] (entry ∷ entries) are = absurd are
  ends_from (key ∷ keys) [] are = absurd are
  ends_from (key ∷ keys) (entry ∷ entries) are =
      (record { key_is = are.0.0; openings = are.0.1.openings; standing = are.0.1.standing }, ends_from keys entries are.1)
