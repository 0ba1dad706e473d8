use Rattle.std.proofs.Common.{◌≡◌, arith, length, List, None, Option, Some, ℕ, subst, sym}
use Rattle.std.proofs.lemmas.Bool.Decides.{nat_tests}
use Rattle.env_filters.specs.Variables.{Variable}
use Rattle.replay_tool.specs.Environment.{variable_in}
use Rattle.replay_tool.proofs.FirstValues.{no_front, no_sign, no_text, written}
use Rattle.replay_tool.proofs.environment.named.Goals as goal

pub returns-in_default : goal.returns-in_default
returns-in_default c = sym (no_text c.args.entry.now c.in_default.ensures.cases.0)

pub returns-in_default-split_once : goal.returns-in_default-split_once
returns-in_default-split_once c =
    sym (subst (λ (e : List ℕ). variable_in e ≡ None) c.in-Ok.ensures.cases.0 (no_sign c.in-Ok.text.now c.split_once.result c.split_once.ensures.cases c.in_default-split_once.is))

pub returns-then-is_empty : goal.returns-then-is_empty
returns-then-is_empty c =
    let empty : length c.in-Some.name.now ≡ 0 = grind (arith, nat_tests) in
    sym (subst (λ (e : List ℕ). variable_in e ≡ None) c.in-Ok.ensures.cases.0
    (no_front c.in-Ok.text.now c.split_once.result c.split_once.ensures.cases (c.in-Some.name, c.in-Some.value) c.in-Some.is empty))

pub returns : goal.returns
returns c =
    let same = c.in-Ok.ensures.cases.0 in
    let some : length c.in-Some.name.now ≡ 0 → ⊥ = λ none. grind (arith, nat_tests) in
    let v : Option Variable = Some (record { name = c.in-Some.name.now; value = c.in-Some.value.now }) in
    sym (subst (λ (e : List ℕ). variable_in e ≡ v) same
    (written c.in-Ok.text.now c.split_once.result c.split_once.ensures.cases (c.in-Some.name, c.in-Some.value) c.in-Some.is (rw same c.in-Ok.ensures.cases.1) some))
