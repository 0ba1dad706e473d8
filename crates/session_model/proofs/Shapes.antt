-- A begin of the grammar has its command's shape, as it comes to the first part and as the drivers are told of it.
use Rattle.std.proofs.Common.{◌≡◌, ℕ, suc, ◌≤◌, Bool, true, false, cond, List, [], ◌∷◌, length, map, refl, sym, ◌∙◌, ap, subst, arith, lit≤}
use Rattle.std.proofs.lemmas.Bool.{eqb-true}
use Rattle.std.specs.Prelude.{nat_le, Option}
use Rattle.std.specs.List.{AllByRecursion}
use Rattle.command_tables.specs.Calls.{DriverCallContent, ReplyContent}
use Rattle.command_tables.specs.declared.types.CommandId.{CommandId}
use Rattle.command_tables.specs.declared.types.CommandId.TheVariants as cmd
use Rattle.command_tables.specs.declared.types.Effect.{Effect}
use Rattle.command_tables.specs.declared.types.Effect.TheVariants as eff
use Rattle.command_tables.specs.Table.{ParamSpec, row_of}
use Rattle.command_tables.specs.Tests.{same_command}
use Rattle.model_driver.specs.Driver.{FitsAsked, FitsParam, FitsRow, HasShape}
use Rattle.trace_format.specs.declared.event.Name.{Name}
use Rattle.trace_format.specs.declared.limits.TheConstants.{MAX_PLACES}
use Rattle.trace_format.specs.Content.{Arg, BeginEvent, TraceEvent, Begin}
use Rattle.trace_format.specs.Grammar.{FitParams, HasForm, IsBegin, takes}
use Rattle.object_model.specs.declared.Argument.{Argument}
use Rattle.replay_model.specs.Setup.{Setup}
use Rattle.replay_model.specs.Past.{Opened, argument_in, history, named, retrievals}
use Rattle.replay_model.specs.Judged.{begun_of, judged}
use Rattle.replay_model.specs.Direct.{Valued, driver_call, value_in, valued}
use Rattle.chain_model.specs.Gaps.{IsGapped, may_all_come, may_come}
use Rattle.chain_model.specs.Chained.{handle_by}
use Rattle.chain_model.specs.Handed.{handle_in}
use Rattle.session_model.specs.Session.{SessionKept}
use Rattle.session_model.specs.Stands.{Stands}
use Rattle.session_model.specs.Steps.{BeginSteps}
use Rattle.layer_model.proofs.Same.{and_true}
use Rattle.chain_model.proofs.Grammar.{shaped}
use Rattle.session_model.proofs.Begun.{told_is}
use Rattle.session_model.proofs.Enough.{lined_living}
use Rattle.session_model.proofs.Owning.{owning_judged}
use Rattle.session_model.proofs.Idle.{none_open_then}

pub le_true : (a b : ℕ) → nat_le a b ≡ true → a ≤ b
le_true a b h = grind arith

-- one place, where the parameter takes no list
single_place : (many : Bool) (a : Arg) → HasForm many a → many ≡ false → length a.names ≡ 1
single_place true a form is = cc
single_place false a form is = eqb-true (length a.names) 1 form.1

-- a list may have one place at least
one_place : 1 ≤ MAX_PLACES
one_place = lit≤ tt

most_places : (many : Bool) (a : Arg) → HasForm many a → length a.names ≤ MAX_PLACES
most_places true a form = le_true (length a.names) MAX_PLACES form.1
most_places false a form = let one : length a.names ≡ 1 = eqb-true (length a.names) 1 form.1 in omega (arith, one, one_place)

twice_mapped : {X Y Z : Type 0} (f : Y → Z) (g : X → Y) (xs : List X) → length (map f (map g xs)) ≡ length xs
twice_mapped f g [] = refl
twice_mapped f g (x ∷ xs) = ap suc (twice_mapped f g xs)

fits_param : (f : Argument → ℕ) (g : Option Name → Argument) (p : ParamSpec) (a : Arg) → HasForm p.many a → FitsParam p (map f (map g a.names))
fits_param f g p a form = record {
  single = λ one. twice_mapped f g a.names ∙ single_place p.many a form one;
  most = subst (λ n. n ≤ MAX_PLACES) (sym (twice_mapped f g a.names)) (most_places p.many a form);
}

pub fit_params : (f : Argument → ℕ) (g : Option Name → Argument) (ps : List ParamSpec) (args : List Arg) → FitParams ps args → FitsRow ps (map (map f) (map (λ (a : Arg). map g a.names) args))
fit_params f g [] [] fit = tt
fit_params f g [] (a ∷ args) fit = absurd fit
fit_params f g (p ∷ ps) [] fit = absurd fit
fit_params f g (p ∷ ps) (a ∷ args) fit = (fits_param f g p a fit.0, fit_params f g ps args fit.1)

-- as many handles are asked for as the command takes results
pub takes_fits : (e : Effect) (n : ℕ) → takes e n ≡ true → FitsAsked e n
takes_fits (eff.Create t owner true) n h = le_true n MAX_PLACES h
takes_fits (eff.Create t owner false) n h = eqb-true n 1 h
takes_fits (eff.Retrieve t owner true) n h = le_true n MAX_PLACES h
takes_fits (eff.Retrieve t owner false) n h = eqb-true n 1 h
takes_fits eff.None n h = eqb-true n 0 h
takes_fits (eff.Destroy p) n h = eqb-true n 0 h
takes_fits (eff.Free p) n h = eqb-true n 0 h
takes_fits (eff.Reset p) n h = eqb-true n 0 h

-- one physical device is asked for
asked_fits : (c : CommandId) (n : ℕ) → takes (row_of c).effect n ≡ true → FitsAsked (row_of c).effect (cond (same_command c cmd.EnumeratePhysicalDevices) 1 n)
unfolding row_of same_command
asked_fits cmd.EnumeratePhysicalDevices n h = omega arith
asked_fits c n h = takes_fits (row_of c).effect n h

all_shaped : (values : List Valued) (o : Opened) → ((driver : ℕ) → HasShape (driver_call values o driver)) → (ds : List ℕ) → AllByRecursion HasShape (map (driver_call values o) ds)
all_shaped values o shape [] = tt
all_shaped values o shape (d ∷ ds) = (shape d, all_shaped values o shape ds)

pub begin_steps : (s : Setup) (k : SessionKept) (events : List TraceEvent) (e : BeginEvent) (replies : List ReplyContent) → IsGapped (Begin e ∷ events) → Stands s k events replies → BeginSteps s k e
begin_steps s k events e replies trace st =
    let is : IsBegin e = trace.grammar.0 in
    let values : List Valued = valued (judged s events) replies in
    let o : Opened = (begun_of s (judged s events) e).opened in
    record {
      idle = none_open_then s k events e replies trace st;
      row = fit_params (handle_by (handle_in k.chain.handed)) (argument_in k.names) (row_of e.cmd).params e.args is.args;
      shapes = subst (λ (cs : List DriverCallContent). AllByRecursion HasShape cs) (sym (told_is s k events e replies trace st))
          (all_shaped values o
          (λ driver. record {
            params = fit_params (value_in values driver) (argument_in (named (judged s events))) (row_of e.cmd).params e.args is.args;
            asked = asked_fits e.cmd (length e.results) is.results;
          })
          o.drivers);
      lined = lined_living (history (judged s events)) (retrievals (judged s events))
          (owning_judged s events (and_true (may_all_come events) (may_come events (Begin e)) trace.each).0 (shaped (Begin e ∷ events) trace.grammar).1) k.births st.living;
    }
