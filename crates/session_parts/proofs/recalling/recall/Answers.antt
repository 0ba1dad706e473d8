use Rattle.std.proofs.Common.{◌≡◌, ◌∙◌, ◌<◌, List, Vec, Global, ap, arith, length, sym, take, vec_capacity}
use Rattle.std.proofs.lemmas.List.{take-map}
use Rattle.object_model.specs.declared.Argument.{Argument}
use Rattle.session_tables.specs.Shown.{args_shown}
use Rattle.session_parts.specs.Leaving.{recalled}
use Rattle.session_parts.proofs.Capacities.{same_put}
use Rattle.session_parts.proofs.Recalled.{params_cut, recalled_more}
use Rattle.session_parts.proofs.recalling.recall.Goals as goal

pub loop-p-preserved : goal.loop-p-preserved
loop-p-preserved c =
    let within : c.loop-p.p < length c.args.args.now.items = omega (arith, c.loop-p-test.true, c.requires) in
    let here : c.loop-p.p < length c.loop-p.args.items = omega (arith, within, c.loop-p.invariant.count) in
    let more = recalled_more (λ (a : Vec Argument Global). a.items) c.args.marks.now.marks c.args.args.now.items c.loop-p.args.items c.loop-p.p c.index_mut.result.now c.recall_places.new.at within c.loop-p.invariant.count c.loop-p.invariant.args c.index_mut.ensures.value
    c.recall_places.ensures.places in
    record {
      count = more.0;
      args = more.1;
      room = same_put (λ (v : Vec Argument Global). vec_capacity v) c.loop-p.args.items c.loop-p.p c.index_mut.result.now c.recall_places.new.at here c.index_mut.ensures.value c.recall_places.ensures.room ∙ c.loop-p.invariant.room;
    }

pub returns-clause-args : goal.returns-clause-args
returns-clause-args c =
    let items = λ (a : Vec Argument Global). a.items in
    let marks = c.args.marks.now.marks in
    let first = c.args.args.now.items in
    let now = c.loop-p.args.items in
    let n = c.args.count in
    let all : c.loop-p.p ≡ n = omega (arith, c.loop-p-test.false, c.loop-p.auto.p-end) in
    let so_far : args_shown now ≡ recalled (take n marks) (args_shown first) = c.loop-p.invariant.args ∙ ap (λ k. recalled (take k marks) (args_shown first)) all in
    sym (take-map items n now) ∙ (ap (λ (xs : List (List Argument)). take n xs) so_far ∙ (params_cut marks (args_shown first) n ∙ ap (recalled marks) (take-map items n first)))
