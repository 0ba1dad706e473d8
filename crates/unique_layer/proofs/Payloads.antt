-- No payload is part of the key of an object with an id of this part.
use Rattle.std.proofs.Common.{◌≡◌, ℕ, Bool, true, false, Some, List, [], refl, ap, sym, ◌∙◌, cond, Option, map}
use denote.Enum.Bare.{same_true}
use Rattle.command_tables.specs.declared.types.CommandId.{CommandId}
use Rattle.command_tables.specs.declared.types.CommandId.TheVariants as cmd
use Rattle.command_tables.specs.declared.types.Effect.{Effect}
use Rattle.command_tables.specs.declared.types.Effect.TheVariants as eff
use Rattle.command_tables.specs.declared.types.ObjectType.{ObjectType}
use Rattle.command_tables.specs.declared.types.ObjectType.TheVariants as ty
use Rattle.command_tables.specs.contracts.types.CommandId as command
use Rattle.command_tables.specs.Effects.{type_made}
use Rattle.command_tables.specs.Table.{ParamSpec, RowSpec, row_of, seen, seen_param}
use Rattle.command_tables.specs.Calls.{CallContent, call_content}
use Rattle.command_tables.specs.declared.types.Row.{Row}
use Rattle.command_tables.specs.declared.call.LayerCall.{LayerCall}
use Rattle.command_tables.specs.Tests.{same_command}
use Rattle.object_model.specs.declared.Argument.{Argument}
use Rattle.layer_model.specs.Ids.{IdMap, Key, is_wrapped, issue_all}
use Rattle.layer_model.specs.Parts.{key_read, owner_read, there, unique_leave, unique_results}
use Rattle.layer_model.specs.Reading.{read_call, read_params}
use Rattle.unique_layer.specs.Shown.{key_named}

command_is : (a b : CommandId) → same_command a b ≡ true → a ≡ b
unfolding same_command
command_is a b e = same_true command.the_type tt a b e

-- a queue gets no id
not_a_queue : (t : ObjectType) → Some ty.Queue ≡ Some t → is_wrapped t ≡ true → ⊥
not_a_queue t made wrapped = let queue : ty.Queue ≡ t = cc made in let is : false ≡ true = ap is_wrapped queue ∙ wrapped in cc is

-- the command isn't the one whose payload tells what it retrieves
not_by_payload : (c : CommandId) (t : ObjectType) → type_made (row_of c).effect ≡ Some t → is_wrapped t ≡ true → same_command c cmd.GetDeviceQueue ≡ false
unfolding row_of
not_by_payload c t made wrapped = go (same_command c cmd.GetDeviceQueue) refl
  where
    go : (u : Bool) → same_command c cmd.GetDeviceQueue ≡ u → u ≡ false
    go true is = absurd (not_a_queue t (sym (ap (λ (x : CommandId). type_made (row_of x).effect) (command_is c cmd.GetDeviceQueue is)) ∙ made) wrapped)
    go false is = refl

-- without a payload the key is the one read
key_with : (c : CommandId) (payload : List ℕ) (args : List (List Argument)) (e : Effect) → same_command c cmd.GetDeviceQueue ≡ false → key_read c payload args e ≡ key_named args e
key_with c payload args eff.None not = refl
key_with c payload args (eff.Create t owner many) not = refl
key_with c payload args (eff.Retrieve t owner many) not = ap (λ (u : Bool). let key : Key = record { owner = owner_read args owner; ty = t; place = 0; payload = cond u payload [] } in Some key) not
key_with c payload args (eff.Destroy p) not = refl
key_with c payload args (eff.Free p) not = refl
key_with c payload args (eff.Reset p) not = refl

pub no_payload : (c : CommandId) (payload : List ℕ) (args : List (List Argument)) (t : ObjectType) → type_made (row_of c).effect ≡ Some t → is_wrapped t ≡ true
    → key_read c payload args (row_of c).effect ≡ key_named args (row_of c).effect
no_payload c payload args t made wrapped = key_with c payload args (row_of c).effect (not_by_payload c t made wrapped)

-- results of such a type get their ids by that key
leave_is : (m : IdMap ℕ) (c : CallContent) (hs : List ℕ) (t : ObjectType) → type_made (row_of c.cmd).effect ≡ Some t → is_wrapped t ≡ true → unique_leave m c hs ≡ issue_all m (key_named (read_call c) (row_of c.cmd).effect) t 0 (map there hs)
leave_is m c hs t made wrapped =
    ap (λ (k : Option Key). unique_results m k (type_made (row_of c.cmd).effect) hs) (no_payload c.cmd c.payload (read_call c) t made wrapped)
    ∙ (ap (λ (o : Option ObjectType). unique_results m (key_named (read_call c) (row_of c.cmd).effect) o hs) made
    ∙ ap (λ (u : Bool). cond u (issue_all m (key_named (read_call c) (row_of c.cmd).effect) t 0 (map there hs)) (record { results = hs; ids = m })) wrapped)

-- the same, as the code has it
pub leave_by : (m : IdMap ℕ) (u : LayerCall) (hs : List ℕ) (t : ObjectType) (r : Row) (k : Option Key) → seen r ≡ row_of u.cmd → type_made r.effect ≡ Some t → is_wrapped t ≡ true
    → k ≡ key_named (read_params (map seen_param r.params.now) u.args.lists u.args.marks) r.effect → issue_all m k t 0 (map there hs) ≡ unique_leave m (call_content u) hs
leave_by m u hs t r k is made wrapped key =
    let effect : r.effect ≡ (row_of u.cmd).effect = ap (λ (x : RowSpec). x.effect) is in
    let params : map seen_param r.params.now ≡ (row_of u.cmd).params = ap (λ (x : RowSpec). x.params) is in
    ap (λ (x : Option Key). issue_all m x t 0 (map there hs))
    (key
    ∙ (ap (λ (ps : List ParamSpec). key_named (read_params ps u.args.lists u.args.marks) r.effect) params
    ∙ ap (λ (e : Effect). key_named (read_call (call_content u)) e) effect))
    ∙ sym (leave_is m (call_content u) hs t (ap type_made (sym effect) ∙ made) wrapped)
