-- The call that makes the instance comes down through new parts.
use Rattle.std.proofs.Common.{◌≡◌, ◌∙◌, ◌≤◌, ℕ, true, List, [], length, map, ap, sym, subst, lit≤}
use Rattle.command_tables.specs.Calls.{CallContent, call_content}
use Rattle.command_tables.specs.Effects.{succeeds}
use Rattle.command_tables.specs.Handles.{list_at}
use Rattle.command_tables.specs.Table.{ParamSpec, row_of}
use Rattle.command_tables.specs.Tests.{same_command}
use Rattle.command_tables.specs.declared.types.CommandId.TheVariants as cmd
use Rattle.command_tables.specs.declared.call.LayerCall.{LayerCall}
use Rattle.object_model.specs.declared.PartKind.{PartKind}
use Rattle.replay_model.specs.Past.{Opened}
use Rattle.layer_model.specs.Walks.{PartState, Walked, enter_parts, new_part}
use Rattle.layer_model.proofs.Same.{and_true}
use Rattle.chain_model.specs.Simulated.{base_of, fresh_of}
use Rattle.chain_model.specs.Traces.{starts_chain}
use Rattle.chain_model.proofs.Newly.{new_walk}
use Rattle.chain_model.proofs.Starting.{params_none}
use Rattle.dispatch_chain.specs.Holding.{HeldCalls, IsHeldOf}
use Rattle.dispatch_chain.specs.Seats.{kinds_of}
use Rattle.dispatch_chain.proofs.Seats.{kinds_new}
use Rattle.object_records.specs.Shape.{HasParams}
use Rattle.lifetime_layer.specs.Shape.{HasFewPlaces}

-- it has no parameters
pub no_params : (o : Opened) → starts_chain o ≡ true → (row_of o.cmd).params ≡ []
no_params o starts = params_none o.cmd (and_true (same_command o.cmd cmd.CreateInstance) (succeeds o.cmd o.code) starts).0

pub has_no_params : (o : Opened) (d : LayerCall) → starts_chain o ≡ true → call_content d ≡ base_of o → HasParams d
has_no_params o d starts e =
    ap (λ (x : CallContent). length x.args) e
    ∙ sym (ap (λ (x : CallContent). length (row_of x.cmd).params) e ∙ ap (λ (ps : List ParamSpec). length ps) (no_params o starts))

pub has_no_places : (o : Opened) (d : LayerCall) → call_content d ≡ base_of o → HasFewPlaces d
has_no_places o d e p = subst (λ (xs : List (List ℕ)). length (list_at xs p) ≤ 1024) (sym (ap (λ (x : CallContent). x.args) e)) (lit≤ tt)

-- the walk through new parts
pub walk_new : (o : Opened) (c : CallContent) (kinds : List PartKind) (states : List PartState) → starts_chain o ≡ true → c ≡ base_of o → states ≡ map new_part kinds
    → enter_parts o.thread o.number 1 states c ≡ enter_parts o.thread o.number 1 (map new_part kinds) (base_of o)
walk_new o c kinds states starts e f = ap (λ x. enter_parts o.thread o.number 1 states x) e ∙ ap (λ xs. enter_parts o.thread o.number 1 xs (base_of o)) f

pub new_states : (o : Opened) (c : CallContent) (kinds : List PartKind) (states after : List PartState) → starts_chain o ≡ true → c ≡ base_of o → states ≡ map new_part kinds → after ≡ (enter_parts o.thread o.number 1 states c).states
    → after ≡ map (fresh_of o) kinds
new_states o c kinds states after starts e f g = g ∙ ap (λ (w : Walked). w.states) (walk_new o c kinds states starts e f ∙ new_walk o (no_params o starts) kinds 1)

pub rows_new : (kinds : List PartKind) (states : List PartState) → states ≡ map new_part kinds → kinds ≡ kinds_of states
rows_new kinds states f = sym (ap kinds_of f ∙ kinds_new kinds)

pub new_held : (o : Opened) (c : CallContent) (kinds : List PartKind) (states : List PartState) (held : HeldCalls) → starts_chain o ≡ true → c ≡ base_of o → states ≡ map new_part kinds → IsHeldOf held (kinds_of states) (enter_parts o.thread o.number 1 states c).forms
    → IsHeldOf held kinds (map (λ _. base_of o) kinds)
new_held o c kinds states held starts e f h =
    subst (λ ks. IsHeldOf held ks (map (λ _. base_of o) kinds)) (sym (rows_new kinds states f))
    (subst (λ forms. IsHeldOf held (kinds_of states) forms) (ap (λ (w : Walked). w.forms) (walk_new o c kinds states starts e f ∙ new_walk o (no_params o starts) kinds 1)) h)
