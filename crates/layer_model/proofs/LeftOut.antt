-- A unique part that doesn't intercept a command does nothing at it.
use Rattle.std.proofs.Common.{◌≡◌, ℕ, Bool, true, false, ◌||◌, Option, Some, None, List, [], ◌∷◌, refl, ap}
use Rattle.std.specs.List.{list_any}
use Rattle.std.specs.Option.{option_map_or}
use Rattle.command_tables.specs.Calls.{CallContent}
use Rattle.command_tables.specs.declared.types.ObjectType.{ObjectType}
use Rattle.command_tables.specs.Effects.{type_made}
use Rattle.command_tables.specs.Table.{ParamSpec, row_of}
use Rattle.object_model.specs.declared.PartKind.TheVariants as part
use Rattle.layer_model.specs.Ids.{IdMap, Key, is_wrapped}
use Rattle.layer_model.specs.Reading.{read_call}
use Rattle.layer_model.specs.Parts.{below_params, key_read, unique_enter, unique_leave, unique_results}
use Rattle.layer_model.specs.Walks.{intercepts}

left : (a b : Bool) → (a || b) ≡ false → a ≡ false
left false b e = refl
left true b e = cc e

right : (a b : Bool) → (a || b) ≡ false → b ≡ false
right false b e = e
right true b e = cc e

-- arguments of no wrapped type stay
args_stay : (m : IdMap ℕ) (ps : List ParamSpec) (lists : List (List ℕ)) → list_any (λ p. is_wrapped p.ty) ps ≡ false → below_params m ps lists ≡ lists
args_stay m [] lists none = refl
args_stay m (p ∷ ps) [] none = refl
args_stay m (p ∷ ps) (hs ∷ lists) none =
    rw (left (is_wrapped p.ty) (list_any (λ q. is_wrapped q.ty) ps) none) (ap (λ xs. hs ∷ xs) (args_stay m ps lists (right (is_wrapped p.ty) (list_any (λ q. is_wrapped q.ty) ps) none)))

pub enters_as_it_is : (m : IdMap ℕ) (c : CallContent) → intercepts part.Unique c.cmd ≡ false → unique_enter m c ≡ c
enters_as_it_is m c none =
    ap (λ (xs : List (List ℕ)). record c { args = xs }) (args_stay m (row_of c.cmd).params c.args (left (list_any (λ p. is_wrapped p.ty) (row_of c.cmd).params) (option_map_or is_wrapped (type_made (row_of c.cmd).effect) false) none))

-- results of no wrapped type stay
results_stay : (m : IdMap ℕ) (k : Option Key) (mt : Option ObjectType) (hs : List ℕ) → option_map_or is_wrapped mt false ≡ false → unique_results m k mt hs ≡ record { results = hs; ids = m }
results_stay m k None hs none = refl
results_stay m k (Some t) hs none = rw none refl

pub leaves_as_they_are : (m : IdMap ℕ) (c : CallContent) (hs : List ℕ) → intercepts part.Unique c.cmd ≡ false → unique_leave m c hs ≡ record { results = hs; ids = m }
leaves_as_they_are m c hs none =
    results_stay m (key_read c.cmd c.payload (read_call c) (row_of c.cmd).effect) (type_made (row_of c.cmd).effect) hs (right (list_any (λ p. is_wrapped p.ty) (row_of c.cmd).params) (option_map_or is_wrapped (type_made (row_of c.cmd).effect) false) none)
