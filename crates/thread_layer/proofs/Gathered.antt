-- What was gathered of a call so far.
use Rattle.std.proofs.Common.{◌≡◌, ◌<◌, ◌≤◌, ℕ, zero, suc, ◌+◌, ◌-◌, Bool, true, List, [], ◌∷◌, ◌++◌, map, length, take, drop, get_or, refl, sym, ap, ◌∙◌, arith, add-one, append_assoc}
use Rattle.std.proofs.Math.Seq.{drop-cons, take-length}
use Rattle.std.proofs.lemmas.List.{map-append, length-drop}
use Rattle.command_tables.specs.declared.types.ObjectType.{ObjectType}
use Rattle.command_tables.specs.Handles.{list_at}
use Rattle.command_tables.specs.Table.{ParamSpec}
use Rattle.object_model.specs.declared.Object.{Object}
use Rattle.object_model.specs.declared.Argument.{Argument}
use Rattle.object_model.specs.Findings.{Report, at_place}
use Rattle.object_model.specs.Rules.{Failure, places_from, params_from}
use Rattle.object_model.specs.Uses.{Use, use_of}
use Rattle.layer_model.specs.Reading.{read_handles, read_params}
use Rattle.thread_layer.specs.Kept.{use_seen}
use Rattle.thread_layer.specs.declared.object_use.ObjectUse.{ObjectUse}

-- one written object more
pub written_more : (param index : ℕ) (objects : List Object) (i : ℕ) (d : Object) (now next all : List Use) → i < length objects → now ++ map (use_of param index true) (drop i objects) ≡ all
    → next ≡ now ++ use_of param index true (get_or objects i d) ∷ [] → next ++ map (use_of param index true) (drop (i + 1) objects) ≡ all
written_more param index objects i d now next all less is more =
    ap (λ xs. xs ++ map (use_of param index true) (drop (i + 1) objects)) more
    ∙ (append_assoc now (use_of param index true (get_or objects i d) ∷ []) (map (use_of param index true) (drop (i + 1) objects))
    ∙ (ap (λ n. now ++ map (use_of param index true) (get_or objects i d ∷ drop n objects)) (add-one i) ∙ (ap (λ (xs : List Object). now ++ map (use_of param index true) xs) (sym (drop-cons objects i d less)) ∙ is)))

added_behind : (uses old : List ObjectUse) (added : List Use) → map use_seen uses ≡ map use_seen old ++ added → map use_seen (drop (length old) uses) ≡ added
added_behind uses [] added e = e
added_behind [] (o ∷ old) added e = cc e
added_behind (u ∷ uses) (o ∷ old) added e = added_behind uses old added (cc e)

-- what was added behind the first so many uses, as a slice from there on
pub behind : (uses old shown : List ObjectUse) (n : ℕ) (added : List Use) → n ≡ length old → shown ≡ uses → map use_seen uses ≡ map use_seen old ++ added → map use_seen (take (length shown - n) (drop n shown)) ≡ added
behind uses old shown n added long is e =
    ap (λ (us : List ObjectUse). map use_seen us) (ap (λ k. take k (drop n shown)) (sym (length-drop n shown)) ∙ take-length (drop n shown))
    ∙ (ap (λ k. map use_seen (drop k shown)) long ∙ (ap (λ (us : List ObjectUse). map use_seen (drop (length old) us)) is ∙ added_behind uses old added e))

-- the reports of failures in the places of a parameter
places_placed : (place : ℕ) (f : ℕ → Argument → List Failure) (k : ℕ) (args : List Argument) → places_from (λ j a. at_place place (f j a)) k args ≡ at_place place (places_from f k args)
places_placed place f k [] = refl
places_placed place f k (a ∷ args) =
    ap (λ (rs : List Report). at_place place (f k a) ++ rs) (places_placed place f (k + 1) args) ∙ sym (map-append (λ (x : Failure). record { place = place; failure = x }) (f k a) (places_from f (k + 1) args))

-- the reports of failures in all parameters
pub params_placed : (place : ℕ) (f : ℕ → ParamSpec → ℕ → Argument → List Failure) (i : ℕ) (ps : List ParamSpec) (parts : List (List Argument))
    → params_from (λ j p k a. at_place place (f j p k a)) i ps parts ≡ at_place place (params_from f i ps parts)
params_placed place f i [] parts = refl
params_placed place f i (p ∷ ps) [] = refl
params_placed place f i (p ∷ ps) (args ∷ parts) =
    ap (λ (rs : List Report). rs ++ params_from (λ j q k a. at_place place (f j q k a)) (i + 1) ps parts) (places_placed place (f i p) 0 args)
    ∙ (ap (λ (rs : List Report). at_place place (places_from (f i p) 0 args) ++ rs) (params_placed place f (i + 1) ps parts)
    ∙ sym (map-append (λ (x : Failure). record { place = place; failure = x }) (places_from (f i p) 0 args) (params_from f (i + 1) ps parts)))

-- no more places are read of a parameter than it has handles
pub few_read : (ps : List ParamSpec) (lists : List (List ℕ)) (mss : List (List Bool)) (p : ℕ) → length (list_at (read_params ps lists mss) p) ≤ length (list_at lists p)
few_read [] lists mss p = omega arith
few_read (x ∷ ps) [] mss p = omega arith
few_read (x ∷ ps) (l ∷ lists) [] p = omega arith
few_read (x ∷ ps) (l ∷ lists) (m ∷ mss) zero = few_handles x.ty l m
  where
    few_handles : (t : ObjectType) (hs : List ℕ) (ms : List Bool) → length (read_handles t hs ms) ≤ length hs
    few_handles t [] ms = omega arith
    few_handles t (h ∷ hs) [] = omega arith
    few_handles t (h ∷ hs) (m ∷ ms) = let i = few_handles t hs ms in omega (arith, i)
few_read (x ∷ ps) (l ∷ lists) (m ∷ mss) (suc p) = few_read ps lists mss p
