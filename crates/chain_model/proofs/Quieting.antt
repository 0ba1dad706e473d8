-- Until a trace makes an instance, nothing is born.
use Rattle.std.proofs.Common.{◌≡◌, ◌≤◌, ℕ, Bool, true, false, not, cond, ◌&&◌, ◌||◌, Option, Some, None, List, [], ◌∷◌, ◌++◌, map, refl, sym, ◌∙◌, ap, subst, arith, rules}
use Rattle.std.proofs.lemmas.Bool.{leb-true}
use Rattle.std.proofs.lemmas.List.{append-nil}
use Rattle.std.specs.Prelude.{find, is_some, slice_get, nat_le}
use Rattle.std.specs.List.{list_any, AllByRecursion}
use Rattle.std.specs.Option.{option_map_or}
use Rattle.command_tables.specs.contracts.types.CommandId as command
use Rattle.command_tables.specs.declared.types.CommandId.{CommandId}
use Rattle.command_tables.specs.declared.types.CommandId.TheVariants as cmd
use Rattle.command_tables.specs.declared.types.Code.{Code}
use Rattle.command_tables.specs.declared.types.Code.TheVariants as code
use Rattle.object_model.specs.declared.Object.{Object}
use Rattle.object_model.specs.declared.Argument.{Argument}
use Rattle.object_model.specs.declared.Argument.TheVariants.{Null, Unborn, The}
use Rattle.replay_model.specs.declared.Born.{Born}
use Rattle.replay_model.specs.declared.Named.{Named}
use Rattle.chain_model.proofs.Sounding.{none_given}
use Rattle.command_tables.specs.Table.{ParamSpec, row_of}
use Rattle.command_tables.specs.Tests.{same_command, same_code}
use Rattle.trace_format.specs.Accepting.{makes_instance}
use Rattle.trace_format.specs.Content.{Arg, TraceEvent, BeginEvent, Begin, Return}
use Rattle.object_model.specs.History.{births, alive, is_ended, born_in}
use Rattle.object_model.specs.Rules.{Failure, loader_failures, parameter_holds, unless, failure}
use Rattle.object_model.proofs.Ended.{alive-born}
use Rattle.replay_model.specs.Setup.{Setup}
use Rattle.replay_model.specs.Past.{Opened, Past, Retrieval, Returned, is_of, is_skipped, call_of, history, retrievals, retrieves, open_calls, named, argument_in, arguments_in, owner_by}
use Rattle.object_model.specs.Findings.{Findings, is_failing, at_place}
use Rattle.replay_model.specs.ChainPlaces.{parts_in_force, parts_checked, findings}
use Rattle.command_tables.specs.Effects.{succeeds, lists_objects}
use Rattle.replay_model.specs.Births.{owner_lives, bears}
use Rattle.replay_model.specs.Judged.{begun_of, judge, judged, made_of, returned_by}
use Rattle.chain_model.proofs.Quiet.{has_first, first_needed, first_fits_row, IsWhole, IsWholeEvent, IsIdle, IsQuiet}
use Rattle.chain_model.proofs.Eventing.{all_append, all_filter, all_found}
use Rattle.chain_model.proofs.Simulating.{found_all}
use denote.Enum.Bare.{same_true}

-- ---- the table

first_in_row : (c : CommandId) → first_fits_row c ≡ true
unfolding row_of same_command
first_in_row c = search rules

pub command_is : (a b : CommandId) → same_command a b ≡ true → a ≡ b
unfolding same_command
command_is a b e = same_true command.the_type tt a b e

lists_none : lists_objects (row_of cmd.CreateInstance).effect ≡ false
unfolding row_of
lists_none = refl

answers_code : (row_of cmd.CreateInstance).returns ≡ true
unfolding row_of
answers_code = refl

-- ---- the loader stops what needs an object

-- where nothing lives, a first argument is reported
loader_stops : (living : Object → Bool) → ((o : Object) → living o ≡ false) → (names : List Named) (ps : List ParamSpec) (args : List Arg) → first_needed ps ≡ true → has_first args ≡ true → is_failing (loader_failures living ps (arguments_in names args)) ≡ true
loader_stops living none names [] args needed first = cc needed
loader_stops living none names (p ∷ ps) [] needed first = cc first
loader_stops living none names (p ∷ ps) (a ∷ args) needed first = go a.names first
  where
    fails : (x : Argument) → parameter_holds living p x ≡ false
    fails Null = flip p.optional needed
      where
        flip : (u : Bool) → not u ≡ true → u ≡ false
        flip false e = refl
        flip true e = cc e
    fails Unborn = refl
    fails (The o) = none o

    noted : (u : Bool) (f : Failure) → u ≡ false → is_failing (unless u f) ≡ true
    noted true f e = cc e
    noted false f e = refl

    go : (ns : List _) → is_some (slice_get ns 0) ≡ true → is_failing (loader_failures living (p ∷ ps) (map (argument_in names) ns ∷ arguments_in names args)) ≡ true
    go [] e = cc e
    go (n ∷ ns) e = noted (parameter_holds living p (argument_in names n)) (failure 0 0 _ 0) (fails (argument_in names n))

-- ---- a begin

none_alive : (past : Past) → births (history past) ≡ [] → (x : Object) → alive (history past) x ≡ false
none_alive past none x = alive-born (history past) x ∙ ap (λ bs. born_in bs x && not (is_ended (history past) x)) none

-- a creation that makes no instance fails
pub creation_fails : (c : CommandId) (answer : Option Code) → same_command c cmd.CreateInstance ≡ true → is_some answer ≡ (row_of c).returns → (same_command c cmd.CreateInstance && option_map_or (λ a. same_code a code.Success) answer false) ≡ false → succeeds c answer ≡ false
creation_fails c answer creates whole makes = go answer whole makes
  where
    is : c ≡ cmd.CreateInstance
    is = command_is c cmd.CreateInstance creates

    lists : lists_objects (row_of c).effect ≡ false
    lists = ap (λ d. lists_objects (row_of d).effect) is ∙ lists_none

    go : (x : Option Code) → is_some x ≡ (row_of c).returns → (same_command c cmd.CreateInstance && option_map_or (λ a. same_code a code.Success) x false) ≡ false → succeeds c x ≡ false
    go None w m = let bad : false ≡ true = w ∙ (ap (λ d. (row_of d).returns) is ∙ answers_code) in cc
    go (Some a) w m =
        let failed : same_code a code.Success ≡ false = sym (ap (λ t. t && same_code a code.Success) creates) ∙ m in
        ap (λ t. t || (same_code a code.Incomplete && lists_objects (row_of c).effect)) failed ∙ (ap (λ t. same_code a code.Incomplete && t) lists ∙ none (same_code a code.Incomplete))
      where
        none : (t : Bool) → (t && false) ≡ false
        none true = refl
        none false = refl

no_place_0 : (j : ℕ) → 1 ≤ j → nat_le j 0 ≡ false
no_place_0 j l = at (nat_le j 0) refl
  where
    at : (t : Bool) → nat_le j 0 ≡ t → t ≡ false
    at true e = let m : j ≤ 0 = leb-true j 0 e in absurd (omega (arith, m, l))
    at false e = refl

-- a begin that makes no instance is idle
pub begun_idle : (s : Setup) (past : Past) (b : BeginEvent) → births (history past) ≡ [] → makes_instance (Begin b) ≡ false → IsWhole b → IsIdle (begun_of s past b).opened
begun_idle s past b born makes whole = record {
  fails = λ creates. creation_fails b.cmd b.code creates whole.code makes;
  stopped = λ other j low.
      ap (λ (f : Findings). not (begun_of s past b).opened.refused && option_map_or (nat_le j) f.stop true) (found_all past (call_of (begun_of s past b).opened) (parts_checked past (call_of (begun_of s past b).opened) 1 (parts_in_force s past)))
      ∙ (ap (λ u. not (begun_of s past b).opened.refused && option_map_or (nat_le j) (cond u (record { reports = at_place 0 (loader_failures (alive (history past)) (row_of b.cmd).params (arguments_in (named past) b.args)); stop = Some 0 })
      (findings (parts_checked past (call_of (begun_of s past b).opened) 1 (parts_in_force s past)))).stop true)
      (loader_stops (alive (history past)) (none_alive past born) (named past) (row_of b.cmd).params b.args (sym (ap (λ t. t || first_needed (row_of b.cmd).params) other) ∙ first_in_row b.cmd) (whole.first other))
      ∙ (ap (λ t. not (begun_of s past b).opened.refused && t) (no_place_0 j low) ∙ none (not (begun_of s past b).opened.refused)));
}
  where
    none : (t : Bool) → (t && false) ≡ false
    none true = refl
    none false = refl

pub quiet_begun : (s : Setup) (past : Past) (b : BeginEvent) → IsQuiet s past → makes_instance (Begin b) ≡ false → IsWhole b → IsQuiet s (judge s past (Begin b))
quiet_begun s past b q makes whole = record {
  born = q.born;
  kept = q.kept;
  parts = q.parts;
  opens = all_append IsIdle (open_calls past) ((begun_of s past b).opened ∷ []) q.opens (begun_idle s past b q.born makes whole, tt);
}

-- ---- a return

none_made : (s : Setup) (past : Past) (o : Opened) → births (history past) ≡ [] → IsIdle o → made_of s past o ≡ []
none_made s past o born idle = rw (bears_none (same_command o.cmd cmd.CreateInstance) refl) refl
  where
    all_none : (a : Bool) → (a && false) ≡ false
    all_none true = refl
    all_none false = refl

    owner_none : (x : Option Object) → option_map_or (alive (history past)) x false ≡ false
    owner_none None = refl
    owner_none (Some x) = none_alive past born x

    bears_none : (u : Bool) → same_command o.cmd cmd.CreateInstance ≡ u → bears (births (history past)) (alive (history past)) o ≡ false
    bears_none true e = ap (λ t. not (is_skipped o) && (t && owner_lives (alive (history past)) o.cmd (owner_by (births (history past)) o.args (row_of o.cmd).effect))) (idle.fails e) ∙ all_none (not (is_skipped o))
    bears_none false e =
        ap (λ t. not (is_skipped o) && (succeeds o.cmd o.code && (t || option_map_or (alive (history past)) (owner_by (births (history past)) o.args (row_of o.cmd).effect) false))) e
        ∙ (ap (λ t. not (is_skipped o) && (succeeds o.cmd o.code && t)) (owner_none (owner_by (births (history past)) o.args (row_of o.cmd).effect))
        ∙ (ap (λ t. not (is_skipped o) && t) (all_none (succeeds o.cmd o.code)) ∙ all_none (not (is_skipped o))))

pub quiet_returned : (s : Setup) (past : Past) (o : Opened) → IsQuiet s past → IsIdle o → IsQuiet s (Returned o (made_of s past o) ∷ past)
quiet_returned s past o q idle =
    subst (λ (ms : List Born). IsQuiet s (Returned o ms ∷ past)) (sym (none_made s past o q.born idle))
    (record {
      born = ap (λ xs. births (history past) ++ xs) (none_given (births (history past)) o.args (row_of o.cmd).effect) ∙ (append-nil (births (history past)) ∙ q.born);
      kept = ap (λ xs. retrievals past ++ xs) (no_retrieval (retrieves (row_of o.cmd).effect)) ∙ (append-nil (retrievals past) ∙ q.kept);
      parts = still (same_command o.cmd cmd.CreateInstance) refl;
      opens = all_filter IsIdle (λ x. not (is_of o.thread x)) (open_calls past) q.opens;
    })
  where
    no_retrieval : (u : Bool) → cond {A = List Retrieval} u [] [] ≡ []
    no_retrieval true = refl
    no_retrieval false = refl

    all_none : (a : Bool) → (a && false) ≡ false
    all_none true = refl
    all_none false = refl

    still : (u : Bool) → same_command o.cmd cmd.CreateInstance ≡ u → parts_in_force s (Returned o [] ∷ past) ≡ []
    still true e = rw (idle.fails e, all_none (not (is_skipped o)), all_none (same_command o.cmd cmd.CreateInstance)) q.parts
    still false e = rw e q.parts

-- ---- all events

pub quiet_judged : (s : Setup) (events : List TraceEvent) → list_any makes_instance events ≡ false → AllByRecursion IsWholeEvent events → IsQuiet s (judged s events)
quiet_judged s [] none whole = record { born = refl; kept = refl; parts = refl; opens = tt }
quiet_judged s (Begin b ∷ before) none whole =
    quiet_begun s (judged s before) b (quiet_judged s before (right (makes_instance (Begin b)) (list_any makes_instance before) none) whole.1) (left (makes_instance (Begin b)) (list_any makes_instance before) none) whole.0
  where
    left : (p q : Bool) → (p || q) ≡ false → p ≡ false
    left false q e = refl
    left true q e = cc e

    right : (p q : Bool) → (p || q) ≡ false → q ≡ false
    right false q e = e
    right true q e = cc e
quiet_judged s (Return thread ∷ before) none whole = go (find (is_of thread) (open_calls (judged s before))) refl (quiet_judged s before none whole.1)
  where
    go : (f : Option Opened) → find (is_of thread) (open_calls (judged s before)) ≡ f → IsQuiet s (judged s before) → IsQuiet s (returned_by s (judged s before) f)
    go None is q = q
    go (Some o) is q = quiet_returned s (judged s before) o q (all_found IsIdle (is_of thread) (open_calls (judged s before)) o q.opens is)
