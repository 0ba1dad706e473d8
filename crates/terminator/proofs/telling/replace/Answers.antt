use Rattle.std.proofs.Common.{◌<◌, ℕ, List, [], length, unwrap_or, ap, ◌∙◌, arith, get_or}
use Rattle.command_tables.specs.Handles.{list_at}
use Rattle.handle_map.specs.Pairs.{values_of}
use Rattle.object_model.specs.Values.{Value, value_for}
use Rattle.terminator.proofs.Places.{kept_on, replaced_more}
use Rattle.terminator.proofs.telling.replace.Goals as goal

pub loop-k-preserved : goal.loop-k-preserved
loop-k-preserved c =
    let less : c.loop-k.k < length (list_at c.args.args.now.lists c.args.p) = omega (arith, ap (λ (xs : List ℕ). length xs) c.param-k-end.ensures, c.loop-k-test.true) in (
      c.set.ensures.lists ∙ replaced_more (λ h. value_for c.args.driver (unwrap_or (values_of c.args.issued.now.ids.entries c.args.ty h) [])) c.args.args.now.lists c.loop-k.args.lists c.args.p c.loop-k.k c.value_for.result c.requires c.loop-k.invariant.0 less
          (c.value_for.ensures ∙ (ap (λ (vs : List Value). value_for c.args.driver vs) c.values.ensures ∙ ap (λ (xs : List ℕ). value_for c.args.driver (unwrap_or (values_of c.args.issued.now.ids.entries c.args.ty (get_or xs c.loop-k.k 0)) [])) c.param.ensures)),
      kept_on c.set.ensures.room c.loop-k.invariant.1,
    )
