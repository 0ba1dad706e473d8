use Rattle.std.proofs.Common.{◌≡◌, ◌∙◌, sym}
use Rattle.std.proofs.lemmas.Iterator.Adapters.{YieldsList-from_vec}
use Rattle.std.proofs.lemmas.Iterator.Consumers.{YieldsList-end}
use Rattle.std.proofs.lemmas.List.{map-id}
use Rattle.manifest_reader.specs.Contents.{layer_content}
use Rattle.layer_search.specs.Found.{layer_at}
use Rattle.layer_search.proofs.Joins.{read_pushed}
use Rattle.layer_search.proofs.gathered.Gathered.add_entries.Goals as goal

pub loop-entry-preserved : goal.loop-entry-preserved
loop-entry-preserved c = λ met notes h. rw (read_pushed (layer_at c.args.path.now) layer_content met c.loop-entry.yielded c.in-Some.entry) (c.in_ok-add_entry.ensures _ notes (c.loop-entry.invariant met notes h))

pub returns : goal.returns
returns c =
    let made = c.into_iter-entry-iterator.ensures.into_iter_gives in
    let end = YieldsList-end (YieldsList-from_vec {s = c.into_iter-entry-iterator.result} c.args.entries.items made.0 (made.1 ∙ c.args.entries.ok.0)) c.loop-entry.yielded c.loop-entry.entry-iterator c.loop-entry.yielded_by _ c.next.new.self c.in-None.is c.next.ensures.steps in
    let whole : c.loop-entry.yielded ≡ c.args.entries.items = sym (map-id c.loop-entry.yielded) ∙ end.0 in
    λ met notes h. rw (← whole) (c.loop-entry.invariant met notes h)
