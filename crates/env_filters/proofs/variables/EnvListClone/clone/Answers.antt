use Rattle.std.proofs.Common.{◌≤◌, ◌∙◌, ap, sym, map, length, reverse, arith}
use Rattle.std.proofs.lemmas.List.{take_all}
use Rattle.env_filters.proofs.VariableLemmas.{variable_of, map-reverse}
use Rattle.env_filters.proofs.variables.EnvListClone.clone.Goals as goal

pub returns : goal.returns
returns c =
    let items = c.self.inside.entries.items in
    let all : length c.deref-entry-items.result.now ≤ c.loop-entry.entry-index = omega arith in
    let same = c.loop-entry.invariant ∙ ap (map variable_of) (take_all c.loop-entry.entry-index _ all ∙ c.deref-entry-items.ensures.value) in
    record { cases = map-reverse variable_of c.loop-entry.entries.items ∙ ap reverse same ∙ sym (map-reverse variable_of items) ∙ c.self.view_is }
