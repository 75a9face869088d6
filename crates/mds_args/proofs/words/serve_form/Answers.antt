use Rattle.mds_args.proofs.words.serve_form.Goals as goal

pub returns : goal.returns
returns c =
    let with_each = c.with_each-with_each.ensures _ (c.with_number-with_port.ensures _ c.bare_form-bare.ensures) in
    let with_workers = c.with_workers.ensures _ (c.with_flag-with_until_stopped.ensures _ with_each) in
    c.with_metrics.ensures _ (c.with_journal.ensures _ (c.with_table-with_tables.ensures _ with_workers))
