use Rattle.std.proofs.Common.{rules, ◌≡◌, ◌<◌, ℕ, length, map, get_or, slice_get, Result, Ok, Some, IfOk, refl, sym, ◌∙◌, ap, subst, arith}
use Rattle.std.specs.Option.{option_map}
use Rattle.std.specs.declared.alloc.AllocError.{AllocError}
use Rattle.std.proofs.lemmas.List.{length-map, map-id}
use Rattle.std.proofs.lemmas.Option.{slice_get-map, slice_get_within, get_or_from_slice_get}
use Rattle.std.proofs.lemmas.Iterator.Adapters.{YieldsList-from_vec}
use Rattle.std.proofs.lemmas.Iterator.Consumers.{YieldsList-end}
use Rattle.mds_trace.specs.declared.part.Part.{Part}
use Rattle.mds_trace.specs.Parts.{IsPart}
use Rattle.mds_trace.proofs.workers.replay_parts.Goals as goal

pub returns-clause-parts : goal.returns-clause-parts
returns-clause-parts g c = λ worker part at.
    let parts = c.loop-result.parts.items in
    let results = c.in_ok-results.results.items in
    let end = YieldsList-end (YieldsList-from_vec {s = c.into_iter-result-iterator.result} results (search rules) (search rules))
    c.loop-result.yielded c.loop-result.result-iterator c.loop-result.yielded_by c.next.result c.next.new.self c.in-None.is c.next.ensures.steps in
    let same : map Ok parts ≡ results = sym c.loop-result.invariant ∙ sym (map-id c.loop-result.yielded) ∙ end.0 in
    let its : slice_get results worker ≡ Some (Ok part) = ap (λ all. slice_get all worker) (sym same) ∙ slice_get-map Ok parts worker ∙ ap (option_map Ok) at in
    let count : length parts ≡ c.args.workers = omega (arith, length-map {B = Result Part AllocError} parts Ok, ap length same, c.in_ok-results.ensures.len, c.in_ok-results.results.ok.0) in
    let came = (c.in_ok-results.ensures.each worker (Ok part) (omega (arith, count, slice_get_within parts worker part at))).1 in
    let is : IfOk (get_or results worker (Ok part)) (IsPart c.args.opening c.args.tables.now c.args.items.now c.args.workers worker) = came.met in
    let ended = subst (λ result. IfOk result (IsPart c.args.opening c.args.tables.now c.args.items.now c.args.workers worker)) (get_or_from_slice_get results worker (Ok part) (Ok part) its) is in
    subst (λ workers. IsPart c.args.opening c.args.tables.now c.args.items.now workers worker part) (sym count) ended
