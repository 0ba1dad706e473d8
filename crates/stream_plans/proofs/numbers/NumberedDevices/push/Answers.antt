use Rattle.std.proofs.Common.{◌≡◌, ◌∙◌, ◌++◌, ◌∷◌, [], Some, List, ap, subst, sym}
use Rattle.std.specs.List.{IsDistinct}
use Rattle.trace_format.specs.declared.event.Name.{Name}
use Rattle.trace_format.specs.Accepting.{same_name}
use Rattle.merge_model.specs.Planned.{number_among}
use Rattle.stream_plans.proofs.NumberLemmas.{apart_pushed, numbers_pushed}
use Rattle.stream_plans.proofs.numbers.NumberedDevices.push.Goals as goal

pub returns-clause-numbered : goal.returns-clause-numbered
returns-clause-numbered c =
    let devices = c.args.self.now.names.items in
    let d = c.args.device in
    let more : c.push.new.self.items ≡ devices ++ d ∷ [] = c.in_ok-push.ensures.items in
    record {
      apart = subst (IsDistinct same_name) (sym more) (apart_pushed devices d c.requires.numbered.apart c.requires.another);
      numbers = λ n. numbers_pushed c.args.self.now.numbers.rows.items c.put.new.self.rows.items devices d c.len.result c.requires.another (c.len.ensures ∙ c.args.self.now.names.ok.0) c.requires.numbered.numbers c.in_ok-put.ensures n ∙ ap (λ (ds : List Name). number_among ds (Some n)) (sym more);
    }
