use Rattle.std.proofs.Common.{◌≡◌, ◌∙◌, ◌++◌, List, ap, arith, length, subst, sym}
use Rattle.command_tables.specs.Table.{row_of}
use Rattle.object_model.specs.History.{births_given, born_in}
use Rattle.replay_model.specs.declared.Born.{Born}
use Rattle.replay_model.specs.Births.{made_by}
use Rattle.replay_model.specs.Past.{Opened, objects_of, retrieved_by}
use Rattle.session_tables.specs.Lined.{AreAdded}
use Rattle.chain_session.specs.Opened.{opened_of}
use Rattle.chain_session.specs.Raising.{MayRaise, made_at}
use Rattle.chain_session.proofs.CameBack.{came_back, made_so}
use Rattle.chain_session.proofs.finishing.come_back.Goals as goal

pub raise-requires-clause-may : goal.raise-requires-clause-may
raise-requires-clause-may g c =
    let x = c.args.parts.now in
    let p = c.args.call.now in
    let born : c.put_made.new.all.items ≡ made_by c.args.drivers c.objects.result.now.births (born_in c.objects.result.now.births) c.retrieved.result.now.kept (opened_of p)
    = c.in_ok-put_made.ensures.made ∙ ap (made_by c.args.drivers c.objects.result.now.births (born_in c.objects.result.now.births) c.retrieved.result.now.kept) c.returning-returned.ensures in
    let is : c.put_made.new.all.items ≡ made_at x p
    = made_so x p c.args.drivers c.objects.result.now.births c.retrieved.result.now.kept c.put_made.new.all.items c.requires.drivers c.objects.ensures c.retrieved.ensures born in
    subst (λ (ms : List Born). MayRaise x.states.kept x.terminator p ms) (sym (c.deref.ensures.value ∙ is)) c.requires.may

pub returns-clause-ok : goal.returns-clause-ok
returns-clause-ok g c =
    let x = c.args.parts.now in
    let p = c.args.call.now in
    let raised = c.raise.new.names.kept in
    let settled = c.settle.new.self in
    let same = c.returning-returned.ensures in
    let born : c.put_made.new.all.items ≡ made_by c.args.drivers c.objects.result.now.births (born_in c.objects.result.now.births) c.retrieved.result.now.kept (opened_of p)
    = c.in_ok-put_made.ensures.made ∙ ap (made_by c.args.drivers c.objects.result.now.births (born_in c.objects.result.now.births) c.retrieved.result.now.kept) same in
    let is : c.put_made.new.all.items ≡ made_at x p
    = made_so x p c.args.drivers c.objects.result.now.births c.retrieved.result.now.kept c.put_made.new.all.items c.requires.drivers c.objects.ensures c.retrieved.ensures born in
    let n : c.len-count.result ≡ length c.put_made.new.all.items = omega (arith, c.len-count.ensures, c.put_made.new.all.ok.0) in
    came_back x p c.raise.new.states c.raise.new.terminator raised settled c.len-count.result c.put_made.new.all.items c.deref.result.now c.deref-2.result.now is c.deref.ensures.value c.deref-2.ensures.value n
    c.in_ok-raise.ensures.rest c.in_ok-raise.ensures.chain c.in_ok-raise.ensures.drivers c.in_ok-settle.ensures.names c.in_ok-settle.ensures.count
    (subst (λ (o : Opened). AreAdded raised.births (births_given raised.births o.args (row_of o.cmd).effect (objects_of c.deref-2.result.now)) settled.kept.births) same c.in_ok-settle.ensures.births)
    (c.in_ok-settle.ensures.retrieved ∙ ap (λ (o : Opened). raised.retrieved ++ retrieved_by raised.births o c.deref-2.result.now) same) c.in_ok-settle.ensures.handed
