-- A unique part leaves the shape of a call.
use Rattle.std.proofs.Common.{◌≡◌, ◌≤◌, ◌+◌, ℕ, zero, suc, List, [], ◌∷◌, length, map, ap, sym, subst, refl, ◌∙◌, true, false, if◌then◌else◌, unwrap_or, arith}
use Rattle.std.proofs.lemmas.List.Sums.{sum_by-cons}
use Rattle.command_tables.specs.Calls.{CallContent, call_content}
use Rattle.command_tables.specs.Handles.{count_in, list_at}
use Rattle.command_tables.specs.Table.{ParamSpec, row_of}
use Rattle.command_tables.specs.declared.types.CommandId.{CommandId}
use Rattle.command_tables.specs.declared.types.ObjectType.{ObjectType}
use Rattle.command_tables.specs.declared.call.LayerCall.{LayerCall}
use Rattle.layer_model.specs.Ids.{IdMap, is_wrapped}
use Rattle.layer_model.specs.Parts.{below_handles, below_params, unique_enter}
use Rattle.handle_map.specs.Pairs.{values_of}
use Rattle.object_records.specs.Shape.{HasParams}
use Rattle.lifetime_layer.specs.Shape.{HasFewPlaces}
use Rattle.dispatch_chain.specs.Forms.{IsAsLarge}

mapped_as_long : (f : ℕ → ℕ) (xs : List ℕ) → length (map f xs) ≡ length xs
mapped_as_long f [] = refl
mapped_as_long f (x ∷ xs) = ap suc (mapped_as_long f xs)

handles_as_long : (m : IdMap ℕ) (t : ObjectType) (hs : List ℕ) → length (below_handles m t hs) ≡ length hs
handles_as_long m t hs = elim (is_wrapped t) as (λ b. length (if b then map (λ h. unwrap_or (values_of m.entries t h) 0) hs else hs) ≡ length hs)
    [ true ↦ mapped_as_long (λ h. unwrap_or (values_of m.entries t h) 0) hs | false ↦ refl ]

params_as_many : (m : IdMap ℕ) (ps : List ParamSpec) (lists : List (List ℕ)) → length ps ≡ length lists → length (below_params m ps lists) ≡ length lists
params_as_many m [] lists h = refl
params_as_many m (p ∷ ps) [] h = refl
params_as_many m (p ∷ ps) (hs ∷ lists) h = ap suc (params_as_many m ps lists (omega (arith, h)))

few_below : (m : IdMap ℕ) (ps : List ParamSpec) (lists : List (List ℕ)) → ((p : ℕ) → length (list_at lists p) ≤ 1024) → (p : ℕ) → length (list_at (below_params m ps lists) p) ≤ 1024
few_below m [] lists h p = h p
few_below m (q ∷ ps) [] h p = h p
few_below m (q ∷ ps) (hs ∷ lists) h zero = rw (handles_as_long m q.ty hs) (h 0)
few_below m (q ∷ ps) (hs ∷ lists) h (suc p) = few_below m ps lists (λ j. h (suc j)) p

-- the call below has its row's shape
pub params_below : (m : IdMap ℕ) (c d : LayerCall) → call_content d ≡ unique_enter m (call_content c) → HasParams c → HasParams d
params_below m c d e h =
    ap (λ (x : CallContent). length x.args) e ∙ params_as_many m (row_of c.cmd).params c.args.lists (sym h) ∙ h ∙ ap (λ (x : CommandId). length (row_of x).params) (sym (ap (λ (x : CallContent). x.cmd) e))

-- and few places
pub few_places_below : (m : IdMap ℕ) (c d : LayerCall) → call_content d ≡ unique_enter m (call_content c) → HasFewPlaces c → HasFewPlaces d
few_places_below m c d e h p = subst (λ (xs : List (List ℕ)). length (list_at xs p) ≤ 1024) (sym (ap (λ (x : CallContent). x.args) e)) (few_below m (row_of c.cmd).params c.args.lists h p)

counted_below : (m : IdMap ℕ) (ps : List ParamSpec) (lists : List (List ℕ)) → length ps ≡ length lists → count_in (below_params m ps lists) ≡ count_in lists
counted_below m [] lists h = refl
counted_below m (p ∷ ps) [] h = refl
counted_below m (p ∷ ps) (hs ∷ lists) h =
    sum_by-cons (λ (xs : List ℕ). length xs) (below_handles m p.ty hs) (below_params m ps lists)
    ∙ (ap (λ (n : ℕ). n + count_in (below_params m ps lists)) (handles_as_long m p.ty hs)
    ∙ (ap (λ (n : ℕ). length hs + n) (counted_below m ps lists (omega (arith, h))) ∙ sym (sum_by-cons (λ (xs : List ℕ). length xs) hs lists)))

-- and is as large
pub as_large_below : (m : IdMap ℕ) (c d : LayerCall) → call_content d ≡ unique_enter m (call_content c) → HasParams c → IsAsLarge (call_content d) (call_content c)
as_large_below m c d e h = record {
  slots = ap (λ (x : CallContent). length x.args) e ∙ params_as_many m (row_of c.cmd).params c.args.lists (sym h);
  handles = ap (λ (x : CallContent). count_in x.args) e ∙ counted_below m (row_of c.cmd).params c.args.lists (sym h);
  bytes = ap (λ (x : CallContent). length x.payload) e;
}
