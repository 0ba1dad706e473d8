-- By what a call retrieves.
use Rattle.std.proofs.Common.{◌≡◌, ℕ, List, refl, ap, ◌∙◌, map, Option}
use Rattle.command_tables.specs.declared.types.CommandId.{CommandId}
use Rattle.command_tables.specs.declared.types.Effect.{Effect}
use Rattle.command_tables.specs.declared.types.Effect.TheVariants as eff
use Rattle.command_tables.specs.declared.types.Row.{Row}
use Rattle.command_tables.specs.declared.call.LayerCall.{LayerCall}
use Rattle.command_tables.specs.Calls.{call_content}
use Rattle.command_tables.specs.Table.{RowSpec, row_of, seen, seen_param}
use Rattle.object_model.specs.declared.Argument.{Argument}
use Rattle.object_model.specs.Keys.{key_payload}
use Rattle.object_model.specs.Objects.{first_in}
use Rattle.layer_model.specs.Ids.{Key}
use Rattle.layer_model.specs.Parts.{key_read}
use Rattle.layer_model.specs.Reading.{read_call, read_params}
use Rattle.terminator.specs.Shown.{key_named}

-- the first argument, read by the program's row
pub first_is : (c : LayerCall) (r : Row) (p : ℕ) → seen r ≡ row_of c.cmd → first_in (read_params (map seen_param r.params.now) c.args.lists c.args.marks) p ≡ first_in (read_call (call_content c)) p
first_is c r p is = ap (λ (x : RowSpec). first_in (read_params x.params c.args.lists c.args.marks) p) is

key_with : (c : CommandId) (payload : List ℕ) (args : List (List Argument)) (e : Effect) → key_named (key_payload c payload) args e ≡ key_read c payload args e
key_with c payload args eff.None = refl
key_with c payload args (eff.Create t owner many) = refl
key_with c payload args (eff.Retrieve t owner many) = refl
key_with c payload args (eff.Destroy p) = refl
key_with c payload args (eff.Free p) = refl
key_with c payload args (eff.Reset p) = refl

-- the key, read by the program's row
pub key_is : (c : LayerCall) (r : Row) (payload : List ℕ) (k : Option Key) → seen r ≡ row_of c.cmd → payload ≡ key_payload c.cmd c.payload.items → k ≡ key_named payload (read_params (map seen_param r.params.now) c.args.lists c.args.marks) r.effect
    → k ≡ key_read c.cmd c.payload.items (read_call (call_content c)) (row_of c.cmd).effect
key_is c r payload k is part key =
    key
    ∙ (ap (λ (x : List ℕ). key_named x (read_params (map seen_param r.params.now) c.args.lists c.args.marks) r.effect) part
    ∙ (ap (λ (x : RowSpec). key_named (key_payload c.cmd c.payload.items) (read_params x.params c.args.lists c.args.marks) x.effect) is
    ∙ key_with c.cmd c.payload.items (read_call (call_content c)) (row_of c.cmd).effect))
