use Rattle.mds_follow.proofs.blank.make_form.Goals as goal

pub returns-in-Ok-create-clause-made : goal.returns-in-Ok-create-clause-made
returns-in-Ok-create-clause-made g c truth = (c.in-Ok-create.ensures.stands.1 truth).now
