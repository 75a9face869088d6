use Rattle.mds_follow.proofs.disk.lay_out_group.Goals as goal

-- the check of the requests' texts ends the group
pub returns-in-Ok-clause-told : goal.returns-in-Ok-clause-told
returns-in-Ok-clause-told c =
    record { texts = c.lay_out.new.group; tells = c.in_ok-lay_out.ensures.told; are = c.in_ok-lay_out.ensures.texts; lines_are = c.in-Ok.ensures.ended }
