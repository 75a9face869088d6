use Rattle.std.proofs.Common.{Some, refl, ap, ◌∙◌}
use Rattle.mds_batch.proofs.PutLemmas.{differs, location_put}
use Rattle.mds_batch.proofs.location.LocationFieldsFields.take.Goals as goal

pub returns-in_ok-read_whole-in-lat-clause-taken : goal.returns-in_ok-read_whole-in-lat-clause-taken
returns-in_ok-read_whole-in-lat-clause-taken c =
    let read = c.in_ok-read_whole-in-lat.ensures.read in
    (read.0, read.1, λ found holds. rw c.in-lat.is (location_put _ read.0 found c.args.self.now _ holds (c.of-self.ensures ∙ ap Some read.2) refl))

pub returns-in_ok-read_whole-in-lng-clause-taken : goal.returns-in_ok-read_whole-in-lng-clause-taken
returns-in_ok-read_whole-in-lng-clause-taken c =
    let read = c.in_ok-read_whole-in-lng.ensures.read in
    (read.0, read.1, λ found holds. rw c.in-lng.is (location_put _ read.0 found c.args.self.now _ holds refl (c.of-self-in-lng.ensures ∙ ap Some read.2)))

pub returns-in_ok-pass-in_default-clause-taken : goal.returns-in_ok-pass-in_default-clause-taken
returns-in_ok-pass-in_default-clause-taken c =
    let read = c.in_ok-pass-in_default.ensures.head in
    (read.0, read.1, λ found holds. location_put _ read.0 found _ _ holds (rw (differs _ _ c.in_default.not-lat)) (rw (differs _ _ c.in_default.not-lng)))
