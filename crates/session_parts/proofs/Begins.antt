-- A begin of the grammar fits its command's row.
use Rattle.std.proofs.Common.{◌≡◌, ◌∙◌, ◌≤◌, ℕ, suc, true, false, List, [], ◌∷◌, Option, length, map, refl, ap, sym, subst, arith}
use Rattle.std.proofs.lemmas.List.{length-map}
use Rattle.std.specs.Prelude.{nat_le}
use Rattle.command_tables.specs.declared.types.Code.{Code}
use Rattle.command_tables.specs.declared.types.CommandId.{CommandId}
use Rattle.command_tables.specs.declared.types.CommandId.TheVariants as cmd
use Rattle.command_tables.specs.declared.types.Effect.{Effect}
use Rattle.command_tables.specs.declared.types.Effect.TheVariants as eff
use Rattle.command_tables.specs.Table.{ParamSpec, row_of}
use Rattle.model_driver.specs.Driver.{FitsAsked}
use Rattle.trace_format.specs.Content.{Arg, BeginEvent}
use Rattle.trace_format.specs.Grammar.{FitParams, IsBegin}
use Rattle.replay_model.specs.declared.Named.{Named}
use Rattle.replay_model.specs.Past.{argument_in}
use Rattle.session_model.proofs.Shapes.{fit_params, le_true, takes_fits}
use Rattle.session_parts.specs.Judging.{FitsCall}
use Rattle.session_parts.specs.Opening.{opened_first}

-- no command has more than six parameters
few_there : (c : CommandId) → nat_le (length (row_of c).params) 6 ≡ true
unfolding row_of
few_there cmd.CreateInstance = refl
few_there c = refl

few_args : (ps : List ParamSpec) (args : List Arg) → FitParams ps args → length args ≡ length ps
few_args [] [] fit = refl
few_args [] (a ∷ args) fit = absurd fit
few_args (p ∷ ps) [] fit = absurd fit
few_args (p ∷ ps) (a ∷ args) fit = ap suc (few_args ps args fit.1)

most_asked : (e : Effect) (n : ℕ) → FitsAsked e n → n ≤ 1024
most_asked (eff.Create t owner true) n h = h
most_asked (eff.Create t owner false) n h = omega (arith, h)
most_asked (eff.Retrieve t owner true) n h = h
most_asked (eff.Retrieve t owner false) n h = omega (arith, h)
most_asked eff.None n h = omega (arith, h)
most_asked (eff.Destroy p) n h = omega (arith, h)
most_asked (eff.Free p) n h = omega (arith, h)
most_asked (eff.Reset p) n h = omega (arith, h)

pub fits_first : (number : ℕ) (names : List Named) (e : BeginEvent) (refusal : Option Code) → IsBegin e → FitsCall (opened_first number names e refusal)
fits_first number names e refusal is = record {
  row = λ g. fit_params g (argument_in names) (row_of e.cmd).params e.args is.args;
  params = subst (λ n. n ≤ 6) (sym (length-map e.args (λ (a : Arg). map (argument_in names) a.names) ∙ few_args (row_of e.cmd).params e.args is.args)) (le_true (length (row_of e.cmd).params) 6 (few_there e.cmd));
  results = most_asked (row_of e.cmd).effect (length e.results) (takes_fits (row_of e.cmd).effect (length e.results) is.results);
}
