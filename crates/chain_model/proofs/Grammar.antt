-- What the grammar gives of an event's form.
use Rattle.std.proofs.Common.{◌≡◌, ◌==◌, ◌<◌, suc, Bool, true, false, not, ◌||◌, Option, List, [], ◌∷◌, length, refl, sym, ◌∙◌, ap, subst, arith, rules}
use Rattle.std.specs.Prelude.{is_some, slice_get}
use Rattle.std.specs.List.{AllByRecursion}
use Rattle.command_tables.specs.declared.types.CommandId.{CommandId}
use Rattle.command_tables.specs.declared.types.CommandId.TheVariants as cmd
use Rattle.command_tables.specs.Table.{ParamSpec, row_of}
use Rattle.command_tables.specs.Tests.{same_command}
use Rattle.trace_format.specs.declared.event.Name.{Name}
use Rattle.trace_format.specs.Content.{Arg, BeginEvent, TraceEvent, Begin, Return}
use Rattle.trace_format.specs.Grammar.{IsBegin, IsEvent, IsName, HasForm, FitParams}
use Rattle.chain_model.proofs.Shapes.{AreShaped, IsShaped}
use Rattle.chain_model.proofs.Eventing.{all_map}
use Rattle.chain_model.proofs.Quiet.{IsWhole, IsWholeEvent, has_first}

-- there is an argument for each parameter
pub fit_length : (ps : List ParamSpec) (args : List Arg) → FitParams ps args → length args ≡ length ps
fit_length [] [] fit = refl
fit_length [] (a ∷ args) fit = absurd fit
fit_length (p ∷ ps) [] fit = absurd fit
fit_length (p ∷ ps) (a ∷ args) fit = ap suc (fit_length ps args fit.1)

shaped_begin : (b : BeginEvent) → IsBegin b → IsShaped b
shaped_begin b is = record {
  names = all_map IsName (λ n. n.thread < 2048) (λ n h. let low = h.0.1 in omega (arith, low)) b.results is.names;
  args = fit_length (row_of b.cmd).params b.args is.args;
}

pub shaped : (events : List TraceEvent) → AllByRecursion IsEvent events → AreShaped events
shaped [] all = tt
shaped (Begin b ∷ events) all = (shaped_begin b all.0, shaped events all.1)
shaped (Return thread ∷ events) all = (tt, shaped events all.1)

-- the first parameter takes no list
abbrev first_single : List ParamSpec → Bool
first_single [] = false
first_single (p ∷ ps) = not p.many

abbrev single_fits : CommandId → Bool
single_fits c = same_command c cmd.CreateInstance || first_single (row_of c).params

single_in_row : (c : CommandId) → single_fits c ≡ true
unfolding row_of same_command
single_in_row c = search rules

-- so its argument has a place
first_there : (ps : List ParamSpec) (args : List Arg) → first_single ps ≡ true → FitParams ps args → has_first args ≡ true
first_there [] args single fit = cc single
first_there (p ∷ ps) [] single fit = absurd fit
first_there (p ∷ ps) (a ∷ args) single fit = go p.many refl fit.0
  where
    flip : (u : Bool) → not u ≡ true → u ≡ true → true ≡ false
    flip true e h = sym e
    flip false e h = sym h

    one : (names : List (Option Name)) → (length names == 1) ≡ true → is_some (slice_get names 0) ≡ true
    one [] e = cc e
    one (n ∷ names) e = refl

    go : (u : Bool) → p.many ≡ u → HasForm p.many a → has_first (a ∷ args) ≡ true
    go true e form = let bad : true ≡ false = flip p.many single e in cc
    go false e form = let f : HasForm false a = subst (λ u. HasForm u a) e form in one a.names f.1

whole_begin : (b : BeginEvent) → IsBegin b → IsWhole b
whole_begin b is = record {
  code = is.code;
  first = λ other. first_there (row_of b.cmd).params b.args (sym (ap (λ t. t || first_single (row_of b.cmd).params) other) ∙ single_in_row b.cmd) is.args;
}

pub whole : (events : List TraceEvent) → AllByRecursion IsEvent events → AllByRecursion IsWholeEvent events
whole [] all = tt
whole (Begin b ∷ events) all = (whole_begin b all.0, whole events all.1)
whole (Return thread ∷ events) all = (tt, whole events all.1)
