use Rattle.std.proofs.Common.{◌≡◌, length, count_by, ◌∙◌, ap, arith}
use Rattle.std.proofs.lemmas.List.Sums.{count_by-le-length}
use Rattle.mds_trace.specs.Verdict.{accepts}
use Rattle.mds_trace.proofs.replayer.report_of.Goals as goal

pub returns-clause-report : goal.returns-clause-report
returns-clause-report c = λ opening tables items verdicts ends.
    let counted : c.count_accepted-accepted.result ≡ count_by accepts c.args.lines.items = c.count_accepted-accepted.ensures ∙ ap (count_by accepts) c.deref.ensures.value in
    record {
      lines = verdicts;
      vehicles = ends;
      accepted = counted;
      refused = omega (
        arith,
        counted,
        count_by-le-length accepts c.args.lines.items,
        c.len.ensures,
        c.deref.ensures.len,
        ap length c.deref.ensures.value,
        verdicts.count,
      );
    }
