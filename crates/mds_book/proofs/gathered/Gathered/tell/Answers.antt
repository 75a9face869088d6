use Rattle.std.proofs.Common.{rules, refl}
use Rattle.mds_book.proofs.Apart.{whole}
use Rattle.mds_book.proofs.gathered.Gathered.tell.Goals as goal

pub returns : goal.returns
returns g c =
    rw (← c.self.view_is)
    (whole _ c.self.inside.first c.self.inside.second (search rules) (search rules) refl refl c.shard.ensures.is_shard.lawful c.shard-2.ensures.is_shard.lawful
    c.shard.ensures.is_shard.of_shard c.shard-2.ensures.is_shard.of_shard (search rules) (search rules))
