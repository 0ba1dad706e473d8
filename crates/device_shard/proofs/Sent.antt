-- What a driver is told of a call that is its begin in other handles.
use Rattle.std.proofs.Common.{◌≡◌, ◌+◌, ℕ, Bool, true, false, cond, ◌||◌, List, [], ◌∷◌, length, map, unwrap_or, refl, ◌∙◌, ap}
use Rattle.std.specs.List.{AllByRecursion}
use Rattle.std.proofs.lemmas.List.{length-map}
use Rattle.command_tables.specs.Calls.{CallContent}
use Rattle.command_tables.specs.Table.{ParamSpec, row_of}
use Rattle.command_tables.specs.Tests.{same_command}
use Rattle.command_tables.specs.declared.types.CommandId.TheVariants as cmd
use Rattle.command_tables.specs.declared.types.ObjectType.{ObjectType}
use Rattle.trace_format.specs.Content.{BeginEvent}
use Rattle.model_driver.specs.Driver.{HasShape}
use Rattle.handle_map.specs.Pairs.{values_of}
use Rattle.object_model.specs.Findings.{is_failing}
use Rattle.object_model.specs.Values.{Value, value_for}
use Rattle.replay_model.specs.Past.{Opened}
use Rattle.layer_model.specs.Ids.{IdMap, is_wrapped}
use Rattle.layer_model.specs.Parts.{life_failures, unique_enter}
use Rattle.layer_model.specs.Reading.{read_call}
use Rattle.layer_model.specs.Terminator.{told_call, told_handles, told_params}
use Rattle.layer_model.specs.Walks.{Lifetimes, PartState, Threads, Unique, enter_parts}
use Rattle.chain_model.specs.Chained.{form_by}
use Rattle.chain_model.specs.Handed.{handle_in}
use Rattle.chain_model.specs.Simulated.{base_of, held_of, walk_of}
use Rattle.session_model.specs.Beginning.{loader_kept}
use Rattle.session_model.specs.Session.{SessionKept}
use Rattle.session_parts.specs.Entering.{held_begun}
use Rattle.shard_start.specs.Starting.{IsPassedOn}
use Rattle.device_shard.specs.Steps.{IsToldOf}

-- ---- its code

-- no part changes the code of a call
walk_code : (thread number k : ℕ) (states : List PartState) (c : CallContent) → (enter_parts thread number k states c).bottom.code ≡ c.code
walk_code thread number k [] c = refl
walk_code thread number k (Threads m ∷ states) c = walk_code thread number (k + 1) states c
walk_code thread number k (Lifetimes m ∷ states) c = go (is_failing (life_failures m c.cmd (read_call c))) refl (walk_code thread number (k + 1) states c)
  where
    go : (u : Bool) → is_failing (life_failures m c.cmd (read_call c)) ≡ u → (enter_parts thread number (k + 1) states c).bottom.code ≡ c.code → (enter_parts thread number k (Lifetimes m ∷ states) c).bottom.code ≡ c.code
    go true fails ih = rw fails refl
    go false fails ih = rw fails ih
walk_code thread number k (Unique m ∷ states) c = walk_code thread number (k + 1) states (unique_enter m c)

pub held_code : (k : SessionKept) (e : BeginEvent) (o : Opened) → (held_begun k e o).bottom.code ≡ o.code
held_code k e o = go (o.refused || is_failing (loader_kept k e))
  where
    go : (u : Bool) → (cond u (held_of o [] (base_of o)) (held_of o (walk_of k.chain o).forms (walk_of k.chain o).bottom)).bottom.code ≡ o.code
    go true = refl
    go false = walk_code o.thread o.number 1 k.chain.states (form_by (handle_in k.chain.handed) (base_of o) o.args)

-- ---- its handles

told_long : (m : IdMap (List Value)) (driver : ℕ) (t : ObjectType) (hs : List ℕ) → length (told_handles m driver t hs) ≡ length hs
told_long m driver t hs = go (is_wrapped t)
  where
    go : (u : Bool) → length (cond u hs (map (λ h. value_for driver (unwrap_or (values_of m.entries t h) [])) hs)) ≡ length hs
    go true = refl
    go false = length-map hs (λ h. value_for driver (unwrap_or (values_of m.entries t h) []))

told_sizes : (m : IdMap (List Value)) (driver : ℕ) (params : List ParamSpec) (lists : List (List ℕ)) → map (λ (hs : List ℕ). length hs) (told_params m driver params lists) ≡ map (λ (hs : List ℕ). length hs) lists
told_sizes m driver [] lists = refl
told_sizes m driver (p ∷ params) [] = refl
told_sizes m driver (p ∷ params) (hs ∷ lists) =
    ap (λ n. n ∷ map (λ (xs : List ℕ). length xs) (told_params m driver params lists)) (told_long m driver p.ty hs) ∙ ap (λ ns. length hs ∷ ns) (told_sizes m driver params lists)

-- ---- all drivers

pub told_all : (b : BeginEvent) (call : CallContent) (ids : IdMap (List Value)) → IsPassedOn b call → call.code ≡ b.code → same_command call.cmd cmd.EnumeratePhysicalDevices ≡ false → (drivers : List ℕ)
    → AllByRecursion HasShape (map (told_call ids call) drivers) → AllByRecursion (IsToldOf b) (map (told_call ids call) drivers)
told_all b call ids passed code plain [] shapes = tt
told_all b call ids passed code plain (d ∷ drivers) shapes = (
  record {
    cmd = passed.cmd;
    code = code;
    bytes = passed.bytes;
    asked = ap (λ (u : Bool). cond u 1 call.asked) plain ∙ passed.asked;
    sizes = told_sizes ids d (row_of call.cmd).params call.args ∙ passed.sizes;
    shape = shapes.0;
  },
  told_all b call ids passed code plain drivers shapes.1,
)
