-- The results of a call that retrieves.
use Rattle.std.proofs.Common.{◌≡◌, ◌<◌, ◌+◌, ℕ, suc, Bool, Option, List, [], ◌∷◌, ◌++◌, map, length, take, get_or, refl, sym, ap, ◌∙◌, arith}
use Rattle.std.proofs.lemmas.List.{map-append, take_more, length-take-le}
use Rattle.std.specs.List.{enumerate_from}
use Rattle.command_tables.specs.declared.types.ObjectType.{ObjectType}
use Rattle.command_tables.specs.declared.types.OwnerOf.{OwnerOf}
use Rattle.command_tables.specs.declared.types.Effect.TheVariants as eff
use Rattle.command_tables.specs.Table.{row_of}
use Rattle.trace_format.specs.declared.event.Name.{Name}
use Rattle.object_model.specs.declared.Object.{Object}
use Rattle.object_model.specs.History.{Birth}
use Rattle.replay_model.specs.declared.Born.{Born}
use Rattle.replay_model.specs.Past.{Opened, Retrieval, owner_by}
use Rattle.replay_model.specs.Births.{bearable, born_with, retrieved_object}

-- each result with its place and the object that it retrieves
abbrev pub retrieving : List Retrieval → Opened → Option Object → ObjectType → List Name → List Born
retrieving kept o owner t names = map (λ (x : ℕ × Name). record { place = x.0; name = x.1; object = retrieved_object kept o owner t x.0 x.1 }) (enumerate_from 0 names)

pub retrieved_all : (drivers : ℕ) (bs : List Birth) (kept : List Retrieval) (o : Opened) (t : ObjectType) (owner : OwnerOf) (many : Bool) (w : Option Object) (names : List Name)
    → (row_of o.cmd).effect ≡ eff.Retrieve t owner many → w ≡ owner_by bs o.args (eff.Retrieve t owner many) → names ≡ bearable drivers o → retrieving kept o w t names ≡ born_with bs kept o (bearable drivers o)
retrieved_all drivers bs kept o t owner many w names is who there =
    ap (λ (v : Option Object). retrieving kept o v t names) who ∙ (ap (retrieving kept o (owner_by bs o.args (eff.Retrieve t owner many)) t) there ∙ rw is refl)

-- one more behind a list has the next place
place_behind : {X : Type 0} (n : ℕ) (xs : List X) (y : X) → enumerate_from n (xs ++ y ∷ []) ≡ enumerate_from n xs ++ (n + length xs, y) ∷ []
place_behind n [] y = let k : n ≡ n + 0 = omega arith in ap (λ m. (m, y) ∷ []) k
place_behind n (x ∷ xs) y =
    let k : (n + 1) + length xs ≡ n + suc (length xs) = omega arith in
    ap (λ rest. (n, x) ∷ rest) (place_behind (n + 1) xs y ∙ ap (λ m. enumerate_from (n + 1) xs ++ (m, y) ∷ []) k)

-- the results so far, with the next
pub placed_more : (f : ℕ → Name → Object) (names : List Name) (k : ℕ) (d : Name) (all more : List Born) (o : Object) → k < length names
    → all ≡ map (λ (x : ℕ × Name). record { place = x.0; name = x.1; object = f x.0 x.1 }) (enumerate_from 0 (take k names))
    → more ≡ all ++ record { place = k; name = get_or names k d; object = o } ∷ [] → o ≡ f k (get_or names k d)
    → more ≡ map (λ (x : ℕ × Name). record { place = x.0; name = x.1; object = f x.0 x.1 }) (enumerate_from 0 (take (k + 1) names))
placed_more f names k d all more o less so_far grown is =
    let mk : ℕ × Name → Born = λ x. record { place = x.0; name = x.1; object = f x.0 x.1 } in
    let y = get_or names k d in
    let count : k ≡ 0 + length (take k names) = omega (arith, length-take-le k names (omega (arith, less))) in
    grown
    ∙ (ap (λ x. all ++ record { place = k; name = y; object = x } ∷ []) is
    ∙ (ap (λ xs. xs ++ mk (k, y) ∷ []) so_far
    ∙ (ap (λ m. map mk (enumerate_from 0 (take k names)) ++ mk (m, y) ∷ []) count
    ∙ (sym (map-append mk (enumerate_from 0 (take k names)) ((0 + length (take k names), y) ∷ []))
    ∙ ap (map mk) (sym (place_behind 0 (take k names) y) ∙ ap (enumerate_from 0) (sym (take_more names k d less)))))))
