use Rattle.mds_args.proofs.words.vehicles_form.Goals as goal

pub returns : goal.returns
returns c = c.with_flag.ensures _ (c.with_table.ensures _ (c.with_word-with_file.ensures _ c.bare_form-bare.ensures))
