use Rattle.std.proofs.Common.{[]}
use Rattle.test_retention.proofs.reading.a_draft_has_its_texts.Goals as goal

pub flush-requires-clause-draft : goal.flush-requires-clause-draft
flush-requires-clause-draft c = (_, c.in_ok-add_text.ensures.draft [] c.in_ok-begin.ensures.draft)

pub add_text-requires-2-clause-draft : goal.add_text-requires-2-clause-draft
add_text-requires-2-clause-draft c = (_, c.in_ok-flush.ensures.draft _ (c.in_ok-add_text.ensures.draft [] c.in_ok-begin.ensures.draft))

pub flush-requires-2-clause-draft : goal.flush-requires-2-clause-draft
flush-requires-2-clause-draft c =
    (_, c.in_ok-add_text-2.ensures.draft _ (c.in_ok-flush.ensures.draft _ (c.in_ok-add_text.ensures.draft [] c.in_ok-begin.ensures.draft)))
