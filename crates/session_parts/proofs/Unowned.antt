-- What has no owner is never found among retrieved objects.
use Rattle.std.proofs.Common.{◌≡◌, ℕ, ◌&&◌, Bool, true, false, refl, cond, ◌==◌, ap, ◌∙◌, List, [], ◌∷◌, Option, Some, None}
use Rattle.std.specs.Prelude.{find}
use Rattle.std.specs.Str.{bytes_eq}
use Rattle.command_tables.specs.declared.types.ObjectType.{ObjectType}
use Rattle.command_tables.specs.Tests.{same_type}
use Rattle.object_model.specs.declared.Object.{Object}
use Rattle.object_model.specs.Objects.{are_same}
use Rattle.replay_model.specs.Past.{Retrieval}
use Rattle.replay_model.specs.Births.{is_kept}

-- and is never found
pub none_kept : (t : ObjectType) (place : ℕ) (payload : List ℕ) (rs : List Retrieval) → find (is_kept t None place payload) rs ≡ None
none_kept t place payload [] = refl
none_kept t place payload (r ∷ rs) = ap (λ b. cond b (Some r) (find (is_kept t None place payload) rs)) (apart r.owner (same_type r.object.ty t)) ∙ none_kept t place payload rs
  where
    apart : (o : Option Object) (b : Bool) → (b && (are_same o None && (r.place == place && bytes_eq r.payload payload))) ≡ false
    apart (Some a) true = refl
    apart (Some a) false = refl
    apart None true = refl
    apart None false = refl
