use Rattle.mds_args.proofs.words.events_form.Goals as goal

pub returns : goal.returns
returns c =
    let with_provider = c.with_word-with_provider.ensures _ (c.with_word-with_file.ensures _ c.bare_form-bare.ensures) in
    c.with_word.ensures _ with_provider
