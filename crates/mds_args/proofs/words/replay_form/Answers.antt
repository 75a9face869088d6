use Rattle.mds_args.proofs.words.replay_form.Goals as goal

pub returns : goal.returns
returns c =
    let with_table = c.with_table.ensures _ (c.with_word-with_file.ensures _ c.bare_form-bare.ensures) in
    let with_lines = c.with_flag-with_lines.ensures _ (c.with_flag-with_any.ensures _ with_table) in
    c.with_workers.ensures _ (c.with_flag-with_unlimited.ensures _ with_lines)
