use Rattle.mds_args.proofs.words.compact_form.Goals as goal

pub returns : goal.returns
returns c =
    let with_new = c.with_word-with_new.ensures _ (c.with_word-with_old.ensures _ c.bare_form-bare.ensures) in
    let with_cuts = c.with_cut-with_cuts.ensures _ (c.with_before.ensures _ with_new) in
    c.with_judge.ensures _ (c.with_flag-with_follow.ensures _ with_cuts)
