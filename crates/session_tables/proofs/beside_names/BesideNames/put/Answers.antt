use Rattle.std.proofs.Common.{◌≡◌, ◌∙◌, ◌++◌, ◌∷◌, [], List, Option, Some, ap, cond, sym}
use Rattle.std.specs.HashMap.{get}
use Rattle.object_model.specs.declared.Object.{Object}
use Rattle.replay_model.specs.Past.{object_in}
use Rattle.trace_format.specs.declared.event.Name.{Name}
use Rattle.trace_format.specs.Accepting.{same_name}
use Rattle.session_tables.specs.Named.{BesideState, is_name_listed}
use Rattle.session_tables.proofs.Names.{all_listed, beside_found}
use Rattle.session_tables.proofs.beside_names.BesideNames.put.Goals as goal

pub returns-clause-ok : goal.returns-clause-ok
returns-clause-ok c = λ q.
    let old = λ (n : Name). get same_name c.self.inside.objects n in
    let new = λ (n : Name). get same_name c.insert.new.self n in
    let names = c.self.inside.names.items in
    let x = c.args.named in
    let names_are : c.push.new.self.items ≡ names ++ x.name ∷ [] = (rw c.unwrap.ensures at c.push.ensures.items) ∙ ap (λ (ns : List Name). ns ++ x.name ∷ []) c.in_ok-reserve.ensures.items in
    beside_found c.push.new.self.items new q (λ some. ap (λ (ns : List Name). is_name_listed ns q) names_are ∙ all_listed names old new x.name x.object c.self.invariant c.in_ok-insert.ensures.updates.0 q some)
    ∙ (c.in_ok-insert.ensures.updates.0 q
    ∙ ap (λ (o : Option Object). cond (same_name x.name q) (Some x.object) o) (sym (beside_found names old q (c.self.invariant q)) ∙ ap (λ (s : BesideState). object_in s.named q) c.self.view_is))
