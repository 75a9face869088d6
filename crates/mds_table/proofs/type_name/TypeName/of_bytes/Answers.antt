use Rattle.std.proofs.Common.{◌++◌, drop, length, replicate, sym, ◌∙◌, ap, subst}
use Rattle.std.proofs.Math.Seq.{take-append_seam}
use Rattle.std.proofs.lemmas.List.{drop-replicate}
use Rattle.mds_table.specs.TypeName.{IsTypeName, padded_name}
use Rattle.mds_table.proofs.type_name.TypeName.of_bytes.Goals as goal

pub invariant_of-result : goal.invariant_of-result
invariant_of-result c =
    let text = c.args.text.now in
    let zeros = drop-replicate (length text) 32 0 in
    let front = take-append_seam text (drop (length text) (replicate 32 0)) in
    rw c.copy_from_slice.ensures.after (record {
      short = c.requires.short;
      count = ap length front;
      name = subst IsTypeName (sym front) c.requires;
      whole = ap padded_name front ∙ ap (λ rest. text ++ rest) (sym zeros);
    })
