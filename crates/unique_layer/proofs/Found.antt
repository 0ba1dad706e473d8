-- Looking into what is kept.
use Rattle.std.proofs.Common.{◌≡◌, Bool, true, false, cond, Some, List, [], ◌∷◌, map, refl}
use Rattle.std.specs.List.{find}
use Rattle.std.specs.Option.{option_map}
use Rattle.layer_model.specs.Ids.{Key, KeptId, has_key, kept_id}
use Rattle.unique_layer.specs.declared.entry.KeptEntry.{KeptEntry}
use Rattle.unique_layer.specs.Shown.{kept_of}

-- the id kept by a key is that of its entry
pub found_kept : (es : List KeptEntry) (k : Key) → kept_id (map kept_of es) k ≡ option_map (λ (e : KeptEntry). e.id) (find (λ e. has_key k (kept_of e)) es)
found_kept [] k = refl
found_kept (e ∷ es) k = go (has_key k (kept_of e)) (found_kept es k)
  where
    go : (u : Bool) → kept_id (map kept_of es) k ≡ option_map (λ (x : KeptEntry). x.id) (find (λ x. has_key k (kept_of x)) es)
        → option_map (λ (x : KeptId). x.id) (cond u (Some (kept_of e)) (find (has_key k) (map kept_of es))) ≡ option_map (λ (x : KeptEntry). x.id) (cond u (Some e) (find (λ x. has_key k (kept_of x)) es))
    go true ih = refl
    go false ih = ih
