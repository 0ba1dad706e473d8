-- How large the call of a begin is in handles: as large as by its names.
use Rattle.std.proofs.Common.{◌≡◌, ◌≤◌, ◌+◌, ◌*◌, ℕ, Bool, true, false, cond, Option, List, [], ◌∷◌, length, map, sum_by, refl, ap, sym, ◌∙◌, arith}
use Rattle.std.proofs.lemmas.List.{length-map}
use Rattle.std.proofs.lemmas.List.Sums.{sum_by-cons}
use Rattle.command_tables.specs.Calls.{CallContent}
use Rattle.command_tables.specs.Handles.{count_in}
use Rattle.command_tables.specs.Table.{ParamSpec, row_of}
use Rattle.command_tables.specs.Tests.{same_command}
use Rattle.command_tables.specs.declared.types.CommandId.{CommandId}
use Rattle.command_tables.specs.declared.types.CommandId.TheVariants as cmd
use Rattle.command_tables.specs.declared.types.Effect.{Effect}
use Rattle.command_tables.specs.declared.types.Effect.TheVariants as eff
use Rattle.trace_format.specs.Content.{Arg, BeginEvent}
use Rattle.trace_format.specs.declared.event.Name.{Name}
use Rattle.object_model.specs.declared.Argument.{Argument}
use Rattle.object_model.specs.declared.Object.{Object}
use Rattle.object_model.specs.Keys.{key_payload}
use Rattle.replay_model.specs.declared.Named.{Named}
use Rattle.replay_model.specs.Past.{argument_in, arguments_in}
use Rattle.layer_model.specs.Parts.{key_read}
use Rattle.layer_model.specs.Reading.{read_call}
use Rattle.terminator.specs.Room.{bytes_with}
use Rattle.terminator.specs.Shown.{bytes_of}
use Rattle.chain_model.specs.Chained.{form_by, handle_by}
use Rattle.session_parts.specs.Scratch.{AreWithin}
use Rattle.walk_bounds.specs.Bounds.{failures_most, implied_most, uses_most, weigh}
use Rattle.shard_room.specs.Needs.{IsWithin, Needs, names_at, names_in}

-- ---- arguments

-- the handles of the arguments of a begin
abbrev handled : (Argument → ℕ) → List Named → List Arg → List (List ℕ)
handled h names args = map (map h) (arguments_in names args)

place_long : (h : Argument → ℕ) (names : List Named) (ns : List (Option Name)) → length (map h (map (argument_in names) ns)) ≡ length ns
place_long h names ns = length-map (map (argument_in names) ns) h ∙ length-map ns (argument_in names)

handled_long : (h : Argument → ℕ) (names : List Named) (args : List Arg) → length (handled h names args) ≡ length args
handled_long h names args = length-map (arguments_in names args) (map h) ∙ length-map args (λ (a : Arg). map (argument_in names) a.names)

pub args_six : (n : Needs) (b : BeginEvent) → IsWithin n b → length (names_at b) ≤ 6
args_six n b within = let long = length-map b.args (λ (a : Arg). a.names) in omega (arith, long, within.params)

-- none has more arguments than names
pub args_within : (w m : ℕ) (names : List Named) (args : List Arg) → w ≤ m → AreWithin w (map (λ (a : Arg). a.names) args) → AreWithin m (arguments_in names args)
args_within w m names [] more within = tt
args_within w m names (a ∷ args) more within =
    let few = within.0 in
    let long = length-map a.names (argument_in names) in
    (omega (arith, few, long, more), args_within w m names args more within.1)

weighs_same : (w : ParamSpec → ℕ) (params : List ParamSpec) (h : Argument → ℕ) (names : List Named) (args : List Arg) → weigh w params (handled h names args) ≡ weigh w params (map (λ (a : Arg). a.names) args)
weighs_same w [] h names args = refl
weighs_same w (p ∷ params) h names [] = refl
weighs_same w (p ∷ params) h names (a ∷ args) =
    ap (λ n. n * w p + weigh w params (handled h names args)) (place_long h names a.names) ∙ ap (λ n. length a.names * w p + n) (weighs_same w params h names args)

counts_same : (h : Argument → ℕ) (names : List Named) (args : List Arg) → count_in (handled h names args) ≡ names_in (map (λ (a : Arg). a.names) args)
counts_same h names [] = refl
counts_same h names (a ∷ args) =
    let one : length (map h (map (argument_in names) a.names)) ≡ length a.names = place_long h names a.names in
    let rest : count_in (handled h names args) ≡ names_in (map (λ (b : Arg). b.names) args) = counts_same h names args in
    let whole = sum_by-cons (λ (xs : List (Option Name)). length xs) a.names (map (λ (b : Arg). b.names) args) in
    let part = sum_by-cons (λ (xs : List ℕ). length xs) (map h (map (argument_in names) a.names)) (handled h names args) in
    part ∙ ((λ i. one i + rest i) ∙ sym whole)

-- three for each argument
weighs_three : {X : Type 0} (params : List ParamSpec) (xss : List (List X)) → weigh (λ p. 3) params xss ≤ 3 * sum_by (λ xs. length xs) xss
weighs_three [] xss = omega arith
weighs_three (p ∷ params) [] = omega arith
weighs_three {X = X} (p ∷ params) (xs ∷ xss) =
    let rest = weighs_three params xss in
    let whole = sum_by-cons (λ (ys : List X). length ys) xs xss in
    omega (arith, rest, whole)

-- ---- the call of a begin that needs no more than so much

-- it is no larger
pub record IsSmall (n : Needs) (c : CallContent) : Type 0 where
  pub slots : length c.args ≤ 6
  pub handles : count_in c.args ≤ n.args
  pub bytes : length c.payload ≤ n.bytes

pub form_small : (n : Needs) (b : BeginEvent) (g : Object → ℕ) (names : List Named) (base : CallContent) → base.payload ≡ b.payload → IsWithin n b → IsSmall n (form_by g base (arguments_in names b.args))
form_small n b g names base is within =
    let long = handled_long (handle_by g) names b.args in
    let count = counts_same (handle_by g) names b.args in
    let bytes = ap (λ (p : List ℕ). length p) is in
    record { slots = omega (arith, long, within.params); handles = omega (arith, count, within.args); bytes = omega (arith, bytes, within.bytes) }

-- it has no more uses
pub uses_few : (n : Needs) (b : BeginEvent) (g : Object → ℕ) (names : List Named) (base : CallContent) → base.cmd ≡ b.cmd → IsWithin n b → uses_most n.born (form_by g base (arguments_in names b.args)) ≤ n.uses
uses_few n b g names base is within =
    let same : uses_most n.born (form_by g base (arguments_in names b.args)) ≡ weigh (λ p. 1 + implied_most n.born p.implied) (row_of b.cmd).params (names_at b) =
    ap (λ (c : CommandId). weigh (λ p. 1 + implied_most n.born p.implied) (row_of c).params (handled (handle_by g) names b.args)) is
    ∙ weighs_same (λ (p : ParamSpec). 1 + implied_most n.born p.implied) (row_of b.cmd).params (handle_by g) names b.args in
    omega (arith, same, within.uses)

-- and no more is found at it
pub found_few : (n : Needs) (b : BeginEvent) (g : Object → ℕ) (names : List Named) (base : CallContent) → IsWithin n b → failures_most (form_by g base (arguments_in names b.args)) ≤ 3 * n.args
found_few n b g names base within =
    let three = weighs_three (row_of base.cmd).params (handled (handle_by g) names b.args) in
    let count = counts_same (handle_by g) names b.args in
    omega (arith, three, count, within.args)

-- ---- the bytes of keys

pub key_short : (c : CommandId) (payload : List ℕ) → length (key_payload c payload) ≤ length payload
key_short c payload = go (same_command c cmd.GetDeviceQueue)
  where
    go : (u : Bool) → length (cond u payload []) ≤ length payload
    go true = omega arith
    go false = omega arith

pub bytes_few : (c : CallContent) → bytes_with c ≤ length c.payload
bytes_few c = go (row_of c.cmd).effect
  where
    go : (e : Effect) → bytes_of (key_read c.cmd c.payload (read_call c) e) ≤ length c.payload
    go eff.None = omega arith
    go (eff.Create t owner many) = omega arith
    go (eff.Retrieve t owner many) = key_short c.cmd c.payload
    go (eff.Destroy p) = omega arith
    go (eff.Free p) = omega arith
    go (eff.Reset p) = omega arith
