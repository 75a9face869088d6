use Rattle.std.proofs.Common.{refl}
use Rattle.mds_core.specs.Reported.{max_event_types}
use Rattle.mds_past.proofs.Requests.{requests_pushed}
use Rattle.mds_past.proofs.past.Past.push.Goals as goal

pub returns-clause-requests : goal.returns-clause-requests
returns-clause-requests g c =
    rw (
      c.push.ensures,
      ← c.self.view_is,
      requests_pushed g.K.KeptForm.tells g.K.KeptForm.is_kept g.met.K.KeptForm.same c.self.inside.keys.items c.put-kept.new.keys.items c.self.inside.names.items c.put-kept.new.names.items 1
          max_event_types c.put-kept.ensures.keys c.put-kept.ensures.names c.self.inside.kept.items c.put-kept.result c.args.request.now c.self.invariant.each c.put-kept.ensures.told,
    )
    refl
