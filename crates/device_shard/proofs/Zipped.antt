-- Logs beside their owners, closed one after another.
use Rattle.std.proofs.Common.{◌≡◌, List, [], ◌∷◌, ◌++◌, length, map, refl, sym, ◌∙◌, ap, subst, arith}
use Rattle.std.specs.List.{AllByRecursion, zip}
use Rattle.std.proofs.lemmas.List.{map_push}
use Rattle.atomic_table.specs.Seated.{TableId}
use Rattle.stream_log.specs.declared.line.Line.{Line}
use Rattle.stream_log.specs.Log.{OwnerView, RisesFrom}
use Rattle.trace_format.specs.declared.event.Name.{Name}
use Rattle.device_shard.specs.Closing.{lists_of}
use Rattle.device_shard.proofs.Taken.{all_pushed}

-- each log stands beside its owner
pub logs_paired : (devices : List Name) (logs : List TableId) (owners : List OwnerView) → map (λ (o : OwnerView). o.log) owners ≡ logs → AllByRecursion (λ (x : Name × (TableId × OwnerView)). x.1.1.log ≡ x.1.0) (zip devices (zip logs owners))
logs_paired [] logs owners same = tt
logs_paired (d ∷ devices) [] owners same = tt
logs_paired (d ∷ devices) (l ∷ logs) [] same = tt
logs_paired (d ∷ devices) (l ∷ logs) (o ∷ owners) same =
    let here : o.log ≡ l = cc same in
    let rest : map (λ (p : OwnerView). p.log) owners ≡ logs = cc same in
    (here, logs_paired devices logs owners rest)

-- none is left out
pub devices_paired : (devices : List Name) (logs : List TableId) (owners : List OwnerView) → map (λ (o : OwnerView). o.log) owners ≡ logs → length devices ≡ length logs
    → map (λ (x : Name × (TableId × OwnerView)). x.0) (zip devices (zip logs owners)) ≡ devices
devices_paired [] logs owners same count = refl
devices_paired (d ∷ devices) [] owners same count = absurd (omega (arith, count))
devices_paired (d ∷ devices) (l ∷ logs) [] same count = cc same
devices_paired (d ∷ devices) (l ∷ logs) (o ∷ owners) same count =
    let rest : map (λ (p : OwnerView). p.log) owners ≡ logs = cc same in
    ap (λ (ds : List Name). d ∷ ds) (devices_paired devices logs owners rest (omega (arith, count)))

pub lists_paired : (devices : List Name) (logs : List TableId) (owners : List OwnerView) → map (λ (o : OwnerView). o.log) owners ≡ logs → length devices ≡ length logs
    → map (λ (x : Name × (TableId × OwnerView)). x.1.1.list) (zip devices (zip logs owners)) ≡ lists_of owners
lists_paired [] [] [] same count = refl
lists_paired [] [] (o ∷ owners) same count = cc same
lists_paired [] (l ∷ logs) owners same count = absurd (omega (arith, count))
lists_paired (d ∷ devices) [] owners same count = absurd (omega (arith, count))
lists_paired (d ∷ devices) (l ∷ logs) [] same count = cc same
lists_paired (d ∷ devices) (l ∷ logs) (o ∷ owners) same count =
    let rest : map (λ (p : OwnerView). p.log) owners ≡ logs = cc same in
    ap (λ (ls : List (List Line)). o.list ∷ ls) (lists_paired devices logs owners rest (omega (arith, count)))

-- one more on both sides
pub both_pushed : {X Y Z : Type 0} (f : X → Z) (g : Y → Z) (xs : List X) (ys : List Y) (x : X) (y : Y) → map f xs ≡ map g ys → f x ≡ g y → map f (xs ++ x ∷ []) ≡ map g (ys ++ y ∷ [])
both_pushed {X} {Y} {Z} f g xs ys x y same here = map_push f xs x ∙ (ap (λ (zs : List Z). zs ++ f x ∷ []) same ∙ (ap (λ (z : Z). map g ys ++ z ∷ []) here ∙ sym (map_push g ys y)))

-- a list more whose times rise
pub rises_pushed : {X : Type 0} (f : X → List Line) (xs : List X) (x : X) → AllByRecursion (RisesFrom 0) (map f xs) → RisesFrom 0 (f x) → AllByRecursion (RisesFrom 0) (map f (xs ++ x ∷ []))
rises_pushed f xs x before here =
    subst (λ (ls : List (List Line)). AllByRecursion (RisesFrom 0) ls) (sym (map_push f xs x)) (all_pushed (RisesFrom 0) (map f xs) (f x) before here)
