-- What an answer about one vehicle rests on.
use Rattle.std.proofs.Common.{◌≡◌, ap}
use Rattle.mds_core.specs.declared.request.Request.TheVariants.{Look}
use Rattle.mds_core.specs.declared.reply.Outcome.{Outcome}
use Rattle.mds_core.specs.Machine.{events_in, events_if}
use Rattle.mds_core.proofs.Outcomes.{same_outcome}
use Rattle.mds_http.specs.Asked as asked
use Rattle.mds_http.specs.Found as finding
use Rattle.mds_http.specs.Answer.{answer_to}
use Rattle.mds_face.specs.Laws.{LooksRestOnTheirVehicle}

-- the outcome of a look is all that its answer shows of the reply
pub rest_on_vehicle : LooksRestOnTheirVehicle
rest_on_vehicle tables key history other agree = record {
  look = λ a b first second.
      let same : a.outcome ≡ b.outcome = same_outcome tables history other (Look key) a b agree first second in
      ap (λ (outcome : Outcome). answer_to (asked.One key) (finding.One (record { place = a.place; outcome = outcome }))) same;
  events = let same : events_in history key ≡ events_in other key = ap (λ requests. events_if requests) agree in
      ap (λ events. answer_to (asked.History key) (finding.History events)) same;
}
