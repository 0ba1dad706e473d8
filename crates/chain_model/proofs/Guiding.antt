-- The routes of a trace, and the drivers that a call goes to.
use Rattle.std.proofs.Common.{◌≡◌, ℕ, ◌+◌, Bool, true, false, not, cond, ◌&&◌, ◌||◌, Option, Some, None, List, [], ◌∷◌, ◌++◌, map, refl, sym, ◌∙◌, ap, subst, rules}
use Rattle.std.proofs.lemmas.List.{append-nil}
use Rattle.std.specs.Prelude.{find}
use Rattle.std.specs.List.{AllByRecursion}
use Rattle.command_tables.specs.declared.types.CommandId.{CommandId}
use Rattle.command_tables.specs.declared.types.CommandId.TheVariants as cmd
use Rattle.command_tables.specs.declared.types.ObjectType.{ObjectType}
use Rattle.command_tables.specs.declared.types.ObjectType.TheVariants as ty
use Rattle.command_tables.specs.Effects.{type_made}
use Rattle.command_tables.specs.Facts.{is_dispatchable}
use Rattle.command_tables.specs.Table.{ParamSpec, row_of}
use Rattle.command_tables.specs.Tests.{same_command, same_type}
use Rattle.trace_format.specs.Content.{TraceEvent, Begin, Return}
use Rattle.object_model.specs.declared.Object.{Object}
use Rattle.object_model.specs.declared.Argument.{Argument}
use Rattle.object_model.specs.declared.Routed.{Routed}
use Rattle.object_model.specs.Objects.{first_in}
use Rattle.object_model.specs.History.{Birth, born_in, births}
use Rattle.object_model.specs.Renaming.{KnowsArgs}
use Rattle.object_model.specs.Routes.{is_routed, receivers}
use Rattle.object_model.proofs.Renaming.{IsKnown, first_in-known, first_in-renamed}
use Rattle.replay_model.specs.declared.Born.{Born}
use Rattle.replay_model.specs.Setup.{Setup}
use Rattle.replay_model.specs.Past.{Opened, Past, Returned, is_of, open_calls, history, retrievals, routed}
use Rattle.replay_model.specs.Judged.{judged, made_of, returned_by}
use Rattle.layer_model.specs.Ids.{is_wrapped}
use Rattle.layer_model.specs.Reading.{read_params}
use Rattle.layer_model.specs.Routes.{drivers_at, route_all, routes_then}
use Rattle.layer_model.proofs.Same.{and_true}
use Rattle.chain_model.specs.Gaps.{may_all_come, may_come}
use Rattle.chain_model.specs.Tokens.{number_in, token_in}
use Rattle.chain_model.proofs.Owners.{is_bare_at}
use Rattle.chain_model.proofs.OneByOne.{IsBorn, numbered}
use Rattle.chain_model.proofs.Passing.{AreTyped, HaveMade, asking_by, births_then, results_above}
use Rattle.chain_model.specs.Chained.{form_by, handle_above, handle_by, is_unborn}
use Rattle.chain_model.proofs.OneRoute.{AreRouted}
use Rattle.chain_model.specs.Routes.{routes_in}
use Rattle.chain_model.specs.Simulated.{base_of}
use Rattle.chain_model.proofs.Shapes.{AreShaped}
use Rattle.chain_model.proofs.Accepted.{IsAccepted, accepted_judged, open_apart}
use Rattle.chain_model.proofs.Borne.{births_then_is}
use Rattle.chain_model.proofs.Ending.{bare_owner}
use Rattle.chain_model.proofs.Eventing.{all_found}
use Rattle.chain_model.proofs.Leaving.{types_of}
use Rattle.chain_model.proofs.Naming.{MadeOf, made_well}
use Rattle.chain_model.proofs.OneToOne.{one_to_one}
use Rattle.chain_model.proofs.Reading.{read_form}
use Rattle.chain_model.proofs.Routing.{receivers_are, routes_returned}

-- ---- a return

-- what is made at the return of an open call
pub made_is : (s : Setup) (events : List TraceEvent) (past : Past) (thread : ℕ) (o : Opened) → IsAccepted events past → find (is_of thread) (open_calls past) ≡ Some o → MadeOf (births (history past)) (retrievals past) o (made_of s past o)
made_is s events past thread o a is =
    made_well (births (history past)) (retrievals past) o a.knowing.retrieved a.kept s.drivers _ (all_found (λ x. AllByRecursion _ x.results) (is_of thread) (open_calls past) o a.names.fresh is) (open_apart (is_of thread) (open_calls past) o a.names.apart is)

-- a return that makes nothing
births_same : (past : Past) (o : Opened) → births (history (Returned o [] ∷ past)) ≡ births (history past)
births_same past o = sym (births_then_is (births (history past)) o.cmd o.args [] tt (λ e. refl))

none_routed : (past : Past) (o : Opened) → AreRouted (births (history past)) (routed past) → AreRouted (births (history (Returned o [] ∷ past))) (routed (Returned o [] ∷ past))
none_routed past o a = subst (λ bs. AreRouted bs (routed past ++ [])) (sym (births_same past o)) (subst (AreRouted (births (history past))) (sym (append-nil (routed past))) a)

pub none_then : (past : Past) (o : Opened) → routes_in (births (history past)) (routed past) ≡ routes_in (births (history (Returned o [] ∷ past))) (routed (Returned o [] ∷ past))
none_then past o = ap (λ rs. routes_in (births (history past)) rs) (sym (append-nil (routed past))) ∙ ap (λ bs. routes_in bs (routed past ++ [])) (sym (births_same past o))

routed_returned : (past : Past) (o : Opened) (made : List Born) → AreRouted (births (history past)) (routed past) → MadeOf (births (history past)) (retrievals past) o made → AreRouted (births (history (Returned o made ∷ past))) (routed (Returned o made ∷ past))
routed_returned past o made a well = go (type_made (row_of o.cmd).effect) refl well.have
  where
    go : (mt : Option ObjectType) → type_made (row_of o.cmd).effect ≡ mt → HaveMade (births (history past)) (retrievals past) o.cmd o.payload o.args mt made → AreRouted (births (history (Returned o made ∷ past))) (routed (Returned o made ∷ past))
    go None is d = subst (λ (ms : List Born). AreRouted (births (history (Returned o ms ∷ past))) (routed (Returned o ms ∷ past))) (sym d) (none_routed past o a)
    go (Some t) is d =
        (routes_returned {X = ℕ} past o t made [] a well.placed well.apart (types_of (asking_by (births (history past)) o.cmd o.payload o.args (row_of o.cmd).effect) t (births (history past)) (retrievals past) made d) is).routed_then

-- all events of a trace
pub routed_judged : (s : Setup) (events : List TraceEvent) → may_all_come events ≡ true → AreShaped events → AreRouted (births (history (judged s events))) (routed (judged s events))
routed_judged s [] ok shaped = record { routes = λ o is. refl; born = tt }
routed_judged s (Begin b ∷ before) ok shaped = routed_judged s before (and_true (may_all_come before) (may_come before (Begin b)) ok).0 shaped.1
routed_judged s (Return t ∷ before) ok shaped =
    let earlier : may_all_come before ≡ true = (and_true (may_all_come before) (may_come before (Return t)) ok).0 in
    go (accepted_judged s before earlier shaped.1) (routed_judged s before earlier shaped.1) (find (is_of t) (open_calls (judged s before))) refl
  where
    go : IsAccepted before (judged s before) → AreRouted (births (history (judged s before))) (routed (judged s before)) → (f : Option Opened) → find (is_of t) (open_calls (judged s before)) ≡ f
        → AreRouted (births (history (returned_by s (judged s before) f))) (routed (returned_by s (judged s before) f))
    go a r None is = r
    go a r (Some o) is = routed_returned (judged s before) o (made_of s (judged s before) o) r (made_is s before (judged s before) t o a is)

-- wrapped results have no routes
no_route : (t : ObjectType) → is_wrapped t ≡ true → is_routed t ≡ false
no_route t w = ap (λ u. u && not (same_type t ty.Instance)) (flip (is_dispatchable t) (and_true (not (is_dispatchable t)) (not (same_type t ty.Surface)) w).0)
  where
    flip : (u : Bool) → not u ≡ true → u ≡ false
    flip false e = refl
    flip true e = cc e

no_routes : (routes : List Routed) (c : CommandId) (drivers : List ℕ) (t : ObjectType) → is_routed t ≡ false → (place : ℕ) (hs : List ℕ) → route_all routes c drivers t place hs ≡ routes
no_routes routes c drivers t w place [] = refl
no_routes routes c drivers t w place (h ∷ hs) =
    ap (λ rs. route_all rs c drivers t (place + 1) hs) (rw w (same_both _)) ∙ no_routes routes c drivers t w (place + 1) hs
  where
    same_both : (u : Bool) → cond u routes routes ≡ routes
    same_both true = refl
    same_both false = refl

-- bare results have their numbers
bare_numbers : {X : Type 0} (bs : List Birth) (f : Object → ℕ) (lost : List X) (t : ObjectType) → is_wrapped t ≡ false → (made : List Born) → AllByRecursion (λ b. b.object.ty ≡ t) made → results_above [] bs f made lost ≡ numbered bs made lost
bare_numbers bs f lost t w [] typed = refl
bare_numbers bs f lost t w (b ∷ made) typed =
    ap (λ u. cond u (f b.object) (number_in bs b.object) ∷ results_above [] bs f made lost) (ap is_wrapped typed.0 ∙ w) ∙ ap (λ xs. number_in bs b.object ∷ xs) (bare_numbers bs f lost t w made typed.1)

-- the terminator's results give the routes of what was made
pub routes_sent : {X : Type 0} (past : Past) (o : Opened) (made : List Born) (lost : List X) (f : Object → ℕ) (results : List ℕ) → AreRouted (births (history past)) (routed past) → MadeOf (births (history past)) (retrievals past) o made
    → results ≡ results_above [] (births_then (births (history past)) o.cmd o.args made) f made lost
    → routes_then (routes_in (births (history past)) (routed past)) o.cmd o.drivers (type_made (row_of o.cmd).effect) results ≡ routes_in (births (history (Returned o made ∷ past))) (routed (Returned o made ∷ past))
routes_sent {X = X} past o made lost f results a well is = go (type_made (row_of o.cmd).effect) refl well.have
  where
    some : (t : ObjectType) → type_made (row_of o.cmd).effect ≡ Some t → AllByRecursion (λ b. b.object.ty ≡ t) made → (w : Bool) → is_wrapped t ≡ w
        → route_all (routes_in (births (history past)) (routed past)) o.cmd o.drivers t 0 results ≡ routes_in (births (history (Returned o made ∷ past))) (routed (Returned o made ∷ past))
    some t e typed true w =
        no_routes (routes_in (births (history past)) (routed past)) o.cmd o.drivers t (no_route t w) 0 results
        ∙ (sym (no_routes (routes_in (births (history past)) (routed past)) o.cmd o.drivers t (no_route t w) 0 (numbered (births (history (Returned o made ∷ past))) made lost))
        ∙ (routes_returned past o t made lost a well.placed well.apart typed e).routes)
    some t e typed false w =
        ap (λ hs. route_all (routes_in (births (history past)) (routed past)) o.cmd o.drivers t 0 hs)
        (is ∙ (bare_numbers (births_then (births (history past)) o.cmd o.args made) f lost t w made typed
        ∙ ap (λ bs. numbered bs made lost) (births_then_is (births (history past)) o.cmd o.args made well.apart (λ n. no_type (sym e ∙ n)))))
        ∙ (routes_returned past o t made lost a well.placed well.apart typed e).routes
      where
        no_type : Some t ≡ None → made ≡ []
        no_type n = cc

    go : (mt : Option ObjectType) → type_made (row_of o.cmd).effect ≡ mt → HaveMade (births (history past)) (retrievals past) o.cmd o.payload o.args mt made
        → routes_then (routes_in (births (history past)) (routed past)) o.cmd o.drivers mt results ≡ routes_in (births (history (Returned o made ∷ past))) (routed (Returned o made ∷ past))
    go None e d = none_then past o ∙ ap (λ (ms : List Born). routes_in (births (history (Returned o ms ∷ past))) (routed (Returned o ms ∷ past))) (sym d)
    go (Some t) e d = some t e (types_of (asking_by (births (history past)) o.cmd o.payload o.args (row_of o.cmd).effect) t (births (history past)) (retrievals past) made d) (is_wrapped t) refl

-- ---- a begin

-- the first argument of a command but the creation of an instance has an id of the terminator
abbrev first_bare : CommandId → Bool
first_bare c = same_command c cmd.CreateInstance || is_bare_at (row_of c).params 0

first_is_bare : (c : CommandId) → first_bare c ≡ true
unfolding row_of same_command same_type
first_is_bare c = search rules

-- no parameter, no argument
none_first : (bs : List Birth) (f : Object → ℕ) (ps : List ParamSpec) (args : List (List Argument)) → ps ≡ [] → AreTyped ps args
    → first_in (read_params ps (map (map (handle_by (handle_above [] bs f))) args) (map (map is_unborn) args)) 0 ≡ first_in (read_params ps (map (map (handle_by (number_in bs))) args) (map (map is_unborn) args)) 0
none_first bs f [] args e typed = refl
none_first bs f (p ∷ ps) args e typed = cc e

-- the drivers that it goes to are found by its token
pub drivers_are : (drivers : ℕ) (bs : List Birth) (rs : List Routed) (f : Object → ℕ) (o : Opened) → ((same_command o.cmd cmd.CreateInstance ≡ true) → (row_of o.cmd).params ≡ []) → AreTyped (row_of o.cmd).params o.args → KnowsArgs (born_in bs) o.args → AreRouted bs rs
    → drivers_at drivers (routes_in bs rs) (form_by (handle_above [] bs f) (base_of o) o.args) ≡ receivers drivers rs (first_in o.args 0)
drivers_are drivers bs rs f o none typed known a =
    ap (λ x. receivers drivers (routes_in bs rs) x)
    (by_params (same_command o.cmd cmd.CreateInstance) refl
    ∙ (ap (λ as0. first_in as0 0) (read_form bs (row_of o.cmd).params o.args typed) ∙ first_in-renamed (born_in bs) (token_in bs) (one_to_one bs) o.args 0))
    ∙ receivers_are drivers bs rs (first_in o.args 0) (is_born (first_in o.args 0) (first_in-known (born_in bs) (token_in bs) (one_to_one bs) o.args known 0)) a
  where
    is_born : (x : Option Object) → IsKnown (born_in bs) x → IsBorn bs x
    is_born None k = tt
    is_born (Some x) k = k

    by_params : (u : Bool) → same_command o.cmd cmd.CreateInstance ≡ u
        → first_in (read_params (row_of o.cmd).params (map (map (handle_by (handle_above [] bs f))) o.args) (map (map is_unborn) o.args)) 0 ≡ first_in (read_params (row_of o.cmd).params (map (map (handle_by (number_in bs))) o.args) (map (map is_unborn) o.args)) 0
    by_params true e = none_first bs f (row_of o.cmd).params o.args (none e) typed
    by_params false e = bare_owner bs f (row_of o.cmd).params o.args typed 0 (sym (ap (λ t. t || is_bare_at (row_of o.cmd).params 0) e) ∙ first_is_bare o.cmd)
