-- The shape of a call in handles.
use Rattle.std.proofs.Common.{◌≡◌, ◌∙◌, ◌≤◌, ℕ, zero, suc, List, [], ◌∷◌, length, map, refl, ap, sym, subst, lit≤}
use Rattle.command_tables.specs.Calls.{CallContent, call_content}
use Rattle.command_tables.specs.Handles.{list_at}
use Rattle.command_tables.specs.Table.{ParamSpec, row_of}
use Rattle.command_tables.specs.declared.types.CommandId.{CommandId}
use Rattle.command_tables.specs.declared.call.LayerCall.{LayerCall}
use Rattle.model_driver.specs.Driver.{FitsRow}
use Rattle.object_model.specs.declared.Object.{Object}
use Rattle.replay_model.specs.Past.{Opened}
use Rattle.chain_model.specs.Chained.{form_by, handle_by}
use Rattle.chain_model.specs.Simulated.{base_of}
use Rattle.object_records.specs.Shape.{HasParams}
use Rattle.lifetime_layer.specs.Shape.{HasFewPlaces}
use Rattle.session_parts.specs.Judging.{FitsCall}

row_length : (ps : List ParamSpec) (lists : List (List ℕ)) → FitsRow ps lists → length lists ≡ length ps
row_length [] [] h = refl
row_length [] (hs ∷ lists) h = absurd h
row_length (p ∷ ps) [] h = absurd h
row_length (p ∷ ps) (hs ∷ lists) h = ap suc (row_length ps lists h.1)

few_at : (ps : List ParamSpec) (lists : List (List ℕ)) → FitsRow ps lists → (p : ℕ) → length (list_at lists p) ≤ 1024
few_at [] [] h p = lit≤ tt
few_at [] (hs ∷ lists) h p = absurd h
few_at (q ∷ ps) [] h p = absurd h
few_at (q ∷ ps) (hs ∷ lists) h zero = h.0.most
few_at (q ∷ ps) (hs ∷ lists) h (suc p) = few_at ps lists h.1 p

-- the call above the first part has its row's shape
pub has_params : (g : Object → ℕ) (o : Opened) (d : LayerCall) → FitsCall o → call_content d ≡ form_by g (base_of o) o.args → HasParams d
has_params g o d fits e =
    ap (λ (x : CallContent). length x.args) e
    ∙ (row_length (row_of o.cmd).params (map (map (handle_by g)) o.args) (fits.row (handle_by g)) ∙ ap (λ (x : CommandId). length (row_of x).params) (sym (ap (λ (x : CallContent). x.cmd) e)))

-- and few places
pub has_few_places : (g : Object → ℕ) (o : Opened) (d : LayerCall) → FitsCall o → call_content d ≡ form_by g (base_of o) o.args → HasFewPlaces d
has_few_places g o d fits e p =
    subst (λ (xs : List (List ℕ)). length (list_at xs p) ≤ 1024) (sym (ap (λ (x : CallContent). x.args) e)) (few_at (row_of o.cmd).params (map (map (handle_by g)) o.args) (fits.row (handle_by g)) p)
