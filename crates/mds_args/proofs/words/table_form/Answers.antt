use Rattle.mds_args.proofs.words.table_form.Goals as goal

pub returns : goal.returns
returns c = c.with_table.ensures _ c.bare_form-bare.ensures
