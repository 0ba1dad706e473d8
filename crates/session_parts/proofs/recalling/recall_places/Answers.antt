use Rattle.std.proofs.Common.{◌≡◌, ◌∙◌, ◌≤◌, ◌<◌, ◌+◌, List, length, set, take, ap, sym, arith, vec_capacity}
use Rattle.command_tables.specs.Handles.{list_at}
use Rattle.object_model.specs.declared.Argument.{Argument}
use Rattle.object_model.specs.declared.Argument.TheVariants.{Unborn}
use Rattle.session_parts.specs.Leaving.{recalled_places}
use Rattle.session_parts.proofs.Recalled.{bare_more, marked_more, places_all, places_long}
use Rattle.session_parts.proofs.recalling.recall_places.Goals.{then-is_marked, else-is_marked}
use Rattle.session_parts.proofs.recalling.recall_places.Goals as goal

pub loop-k-preserved : goal.loop-k-preserved
loop-k-preserved c = elim c.if-is_marked.branch [
  | then-is_marked w ↦
      let ms = list_at c.args.marks.now.marks c.args.p in
      let first = c.args.at.now.items in
      let within : c.loop-k.k < length first = omega (arith, c.loop-k-test.true, c.len-k-end.ensures, c.args.at.now.ok.0) in
      let put : c.if-is_marked.at.items ≡ set c.loop-k.at.items c.loop-k.k Unborn = λ i. (w.at-is i).items in
      let room : vec_capacity c.if-is_marked.at ≡ vec_capacity c.args.at.now = (λ i. vec_capacity (w.at-is i)) ∙ c.loop-k.invariant.room in
      let more : c.if-is_marked.at.items ≡ recalled_places (take (c.loop-k.k + 1) ms) first
      = put ∙ marked_more ms first c.loop-k.at.items c.loop-k.k within (sym c.is_marked.ensures ∙ w.if-is_marked.true) c.loop-k.invariant.places in
      record { count = ap (λ (xs : List Argument). length xs) more ∙ places_long (take (c.loop-k.k + 1) ms) first; places = more; room = room }
  | else-is_marked w ↦
      let ms = list_at c.args.marks.now.marks c.args.p in
      let first = c.args.at.now.items in
      let same : c.if-is_marked.at.items ≡ c.loop-k.at.items = λ i. (w.at-is i).items in
      let room : vec_capacity c.if-is_marked.at ≡ vec_capacity c.args.at.now = (λ i. vec_capacity (w.at-is i)) ∙ c.loop-k.invariant.room in
      let more : c.if-is_marked.at.items ≡ recalled_places (take (c.loop-k.k + 1) ms) first
      = same ∙ bare_more ms first c.loop-k.at.items c.loop-k.k (sym c.is_marked.ensures ∙ w.if-is_marked.false) c.loop-k.invariant.places in
      record { count = ap (λ (xs : List Argument). length xs) more ∙ places_long (take (c.loop-k.k + 1) ms) first; places = more; room = room }
]

pub returns-clause-places : goal.returns-clause-places
returns-clause-places c =
    let beyond : length c.args.at.now.items ≤ c.loop-k.k = omega (arith, c.loop-k-test.false, c.len-k-end.ensures, c.args.at.now.ok.0) in
    c.loop-k.invariant.places ∙ places_all (list_at c.args.marks.now.marks c.args.p) c.args.at.now.items c.loop-k.k beyond
