use Rattle.std.proofs.Common.{◌≡◌, ◌∙◌, true, List, length, ap, sym, arith, rules}
use Rattle.command_tables.specs.Table.{seen_param}
use Rattle.object_model.specs.declared.Object.{Object}
use Rattle.object_model.specs.History.{born_in}
use Rattle.object_model.specs.Objects.{is_in}
use Rattle.thread_layer.proofs.Room.{uses_long}
use Rattle.thread_layer.proofs.uses.add_object_uses.Goals as goal

pub returns-in_err-list_implied-clause-succeeds : goal.returns-in_err-list_implied-clause-succeeds
returns-in_err-list_implied-clause-succeeds c = λ uses implied.
    let m = c.args.records.now.kept in
    let born : born_in m.births c.args.object ≡ true = sym c.is_born.ensures ∙ search rules in
    let long = uses_long m.births (is_in m.living) c.args.at.param (seen_param c.args.param.now) c.args.at.index c.args.object born in
    let wrong = c.in_err-list_implied.ensures.succeeds (omega (arith, long, implied)) in cc wrong

pub returns-in_err-add_use-clause-succeeds : goal.returns-in_err-add_use-clause-succeeds
returns-in_err-add_use-clause-succeeds c = λ uses implied.
    let m = c.args.records.now.kept in
    let born : born_in m.births c.args.object ≡ true = sym c.is_born.ensures ∙ search rules in
    let long = uses_long m.births (is_in m.living) c.args.at.param (seen_param c.args.param.now) c.args.at.index c.args.object born in
    let wrong = c.in_err-add_use.ensures.succeeds (omega (arith, long, uses)) in cc wrong

pub returns-clause-succeeds : goal.returns-clause-succeeds
returns-clause-succeeds c = λ uses implied.
    let m = c.args.records.now.kept in
    let born : born_in m.births c.args.object ≡ true = sym c.is_born.ensures ∙ search rules in
    let long = uses_long m.births (is_in m.living) c.args.at.param (seen_param c.args.param.now) c.args.at.index c.args.object born in
    let listed = ap (λ (os : List Object). length os) (c.deref.ensures.value ∙ c.in_ok-list_implied.ensures.listed) in
    c.add_writes.ensures.succeeds (omega (arith, long, uses, listed, c.in_ok-add_use.ensures.count, c.in_ok-add_use.ensures.room))
