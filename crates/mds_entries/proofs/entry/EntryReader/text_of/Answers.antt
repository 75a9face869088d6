use Rattle.std.proofs.Common.{◌≡◌, Some, IsTrue, rules}
use Rattle.mds_entries.specs.Entry.{line_of}
use Rattle.mds_entries.proofs.LineTells.{line_tells}
use Rattle.mds_entries.proofs.entry.EntryReader.text_of.Goals as goal

pub returns-then-not-is_whole : goal.returns-then-not-is_whole
returns-then-not-is_whole c = record {
  text = tt;
  tells = tt;
  fault = λ line is tells.
      let whole : IsTrue c.is_whole.result = c.is_whole.ensures.told line tells in
      let other = c.if-not-is_whole.true in
      absurd (search rules);
}

pub returns : goal.returns
returns c =
    let is : line_of c.args.request.now ≡ Some c.as_str.result.now = search rules in
    record {
      text = is;
      tells = line_tells c.args.request.now c.as_str.result.now is c.as_str.utf8 (c.is_whole.ensures.whole (search rules));
      fault = tt;
    }
