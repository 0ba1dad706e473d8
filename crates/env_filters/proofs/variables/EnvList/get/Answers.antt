use Rattle.std.proofs.Common.{rules, List, ℕ, reverse, string_bytes, ap, ◌∙◌, option_map, Some, Bor}
use borrow.Author.Tests.{tests}
use Rattle.std.specs.Str.{bytes_eq}
use Rattle.std.proofs.lemmas.Iterator.Adapters.{YieldsList-from_rev_slice}
use Rattle.std.proofs.lemmas.Iterator.Search.{find_from_yields_List}
use Rattle.env_filters.specs.Variables.{value_of}
use Rattle.env_filters.specs.declared.variables.Entry.{Entry}
use Rattle.env_filters.proofs.VariableLemmas.{variable_of, value-lent}
use Rattle.env_filters.proofs.variables.EnvList.get.Goals as goal

pub returns-in_err-entry : goal.returns-in_err-entry
returns-in_err-entry c =
    let found = find_from_yields_List (λ (e : Entry). bytes_eq (string_bytes e.name) c.args.name.now) _ _ c.find.result c.find.ensures.ran (YieldsList-from_rev_slice c.self.inside.entries.items (cc)) (λ x b q k. search (rules, tests)) in
    let lent = value-lent variable_of c.args.name.now (reverse c.self.inside.entries.items) c.find.result found in
    let none = rw c.in_err-entry.was at (lent ∙ ap (λ vs. value_of vs c.args.name.now) c.self.view_is) in
    ap (option_map (λ (v : Bor (List ℕ)). v.now)) c.from_residual.ensures ∙ none

pub returns : goal.returns
returns c =
    let found = find_from_yields_List (λ (e : Entry). bytes_eq (string_bytes e.name) c.args.name.now) _ _ c.find.result c.find.ensures.ran (YieldsList-from_rev_slice c.self.inside.entries.items (cc)) (λ x b q k. search (rules, tests)) in
    let lent = value-lent variable_of c.args.name.now (reverse c.self.inside.entries.items) c.find.result found in
    ap Some c.as_str.ensures.value ∙ rw c.in_ok-entry.was at (lent ∙ ap (λ vs. value_of vs c.args.name.now) c.self.view_is)
