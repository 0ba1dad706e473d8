use Rattle.std.proofs.Common.{◌≡◌, ◌∙◌, ◌++◌, ◌∷◌, [], List, Option, Some, None, ap, cond, map, sym, true}
use Rattle.std.specs.Prelude.{is_some}
use Rattle.object_model.specs.declared.Object.{Object}
use Rattle.replay_model.specs.declared.Named.{Named}
use Rattle.replay_model.specs.Past.{object_in}
use Rattle.trace_format.specs.Accepting.{same_name}
use Rattle.session_tables.specs.Named.{NamesState, rows_named}
use Rattle.session_tables.specs.Shown.{object_at}
use Rattle.session_tables.proofs.Lists.{none_some, on_err}
use Rattle.session_tables.proofs.Names.{named_alike, named_at, named_new, named_stays}
use Rattle.session_tables.proofs.named_table.NamedTable.push.Goals as goal

pub returns-then-is_some-clause-ok : goal.returns-then-is_some-clause-ok
returns-then-is_some-clause-ok c = λ q.
    let old = c.self.inside in
    let x = c.args.named in
    let shown : List Named = rows_named 0 (map (λ r. r.items) old.types.items) ++ old.others.named in
    let found : c.object_of.result ≡ object_in shown x.name =
    c.object_of.ensures ∙ (ap (λ rows. object_at rows (object_in old.others.named x.name) x.name) c.deref.ensures.value ∙ sym (named_at old.types.items old.others.named x.name)) in
    named_stays shown x q (sym (ap is_some found) ∙ (sym c.is_some.ensures ∙ c.if-is_some.true)) ∙ ap (λ (s : NamesState). object_in (s.names ++ x ∷ []) q) c.self.view_is

pub returns-in_err-put_object-clause-err : goal.returns-in_err-put_object-clause-err
returns-in_err-put_object-clause-err c =
    let old = c.self.inside in
    on_err c.from_residual.result (λ q. named_alike old.types.items c.put_object.new.types.items old.others.named c.put_object.new.others.named q (c.in_err-put_object.ensures.err q) ∙ ap (λ (s : NamesState). object_in s.names q) c.self.view_is)

pub returns-clause-ok : goal.returns-clause-ok
returns-clause-ok c = λ q.
    let old = c.self.inside in
    let x = c.args.named in
    let shown : List Named = rows_named 0 (map (λ r. r.items) old.types.items) ++ old.others.named in
    let found : c.object_of.result ≡ object_in shown x.name =
    c.object_of.ensures ∙ (ap (λ rows. object_at rows (object_in old.others.named x.name) x.name) c.deref.ensures.value ∙ sym (named_at old.types.items old.others.named x.name)) in
    let none : object_in shown x.name ≡ None = sym found ∙ none_some c.object_of.result (sym c.is_some.ensures ∙ c.if-is_some.false) in
    named_at c.put_object.new.types.items c.put_object.new.others.named q
    ∙ (named_new shown x q (object_at c.put_object.new.types.items (object_in c.put_object.new.others.named q) q) none
    (c.in_ok-put_object.ensures.ok q ∙ ap (λ (o : Option Object). cond (same_name x.name q) (Some x.object) o) (sym (named_at old.types.items old.others.named q)))
    ∙ ap (λ (s : NamesState). object_in (s.names ++ x ∷ []) q) c.self.view_is)
