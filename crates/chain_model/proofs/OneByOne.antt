-- Births, retrievals and values result by result.
use Rattle.std.specs.Prelude.{◌≡◌, ℕ, ◌+◌, Bool, true, false, if◌then◌else◌, Option, Some, None, List, [], ◌∷◌, ◌++◌, map, find}
use Rattle.std.specs.Option.{option_map}
use Rattle.command_tables.specs.declared.types.ObjectType.{ObjectType}
use Rattle.object_model.specs.declared.Object.{Object}
use Rattle.replay_model.specs.declared.Born.{Born}
use Rattle.object_model.specs.Objects.{same}
use Rattle.object_model.specs.History.{Birth, born_in}
use Rattle.replay_model.specs.Past.{Retrieval}
use Rattle.replay_model.specs.Births.{is_kept}
use Rattle.layer_model.specs.Ids.{Key}
use Rattle.chain_model.specs.Mirrored.{key_in}
use Rattle.chain_model.specs.Tokens.{number_in}

-- the same values but for this object
abbrev pub with_value : {V : Type 0} → (Object → V) → Object → V → Object → V
with_value f o v x = if same o x then v else f x

-- the object is born with these owners, unless it is
abbrev pub bear : Bool → List Object → List Birth → Object → List Birth
bear created owners bs o = if born_in bs o then bs else bs ++ record { object = o; created = created; owners = owners } ∷ []

-- by what a call retrieves: owner and payload
pub record Asking : Type 0 where
  pub owner : Option Object
  pub payload : List ℕ

-- the object that was retrieved before by this place of the call, if the call retrieves
abbrev pub kept_object : Option Asking → ObjectType → List Retrieval → ℕ → Option Object
kept_object None t rs place = None
kept_object (Some q) t rs place = option_map (λ r. r.object) (find (is_kept t q.owner place q.payload) rs)

-- the key of a result
abbrev pub key_of : List Birth → Option Asking → ObjectType → Option Key
key_of bs None t = None
key_of bs (Some q) t = Some (key_in bs q.owner t 0 q.payload)

-- a result that is retrieved first is kept
abbrev pub keep_one : Option Asking → List Birth → List Retrieval → Born → List Retrieval
keep_one None bs rs b = rs
keep_one (Some q) bs rs b = if born_in bs b.object then rs else rs ++ record { owner = q.owner; place = b.place; payload = q.payload; object = b.object } ∷ []

-- births, retrievals and values after the results of a call
abbrev pub births_after : Bool → List Object → List Birth → List Born → List Birth
births_after created owners bs [] = bs
births_after created owners bs (b ∷ made) = births_after created owners (bear created owners bs b.object) made

abbrev pub retrievals_after : Bool → List Object → Option Asking → List Birth → List Retrieval → List Born → List Retrieval
retrievals_after created owners q bs rs [] = rs
retrievals_after created owners q bs rs (b ∷ made) = retrievals_after created owners q (bear created owners bs b.object) (keep_one q bs rs b) made

abbrev pub values_after : {V : Type 0} → (Born → V) → (Object → V) → List Born → Object → V
values_after val f [] = f
values_after val f (b ∷ made) = values_after val (with_value f b.object (val b)) made

-- the object itself where it is there
abbrev pub only : Bool → Object → Option Object
only true o = Some o
only false o = None

-- each result's object is new, or it is the one that was retrieved before by its place; all are of this type
abbrev pub AreDecided : Option Asking → ObjectType → List Birth → List Retrieval → List Born → Type 0
AreDecided q t bs rs [] = Unit {0}
AreDecided q t bs rs (b ∷ made) = (kept_object q t rs b.place ≡ only (born_in bs b.object) b.object) × (b.object.ty ≡ t) × AreDecided q t bs rs made

-- none of these results is of this object
abbrev pub AreOther : Object → List Born → Type 0
AreOther o [] = Unit {0}
AreOther o (b ∷ made) = (same o b.object ≡ false) × AreOther o made

-- the results are of objects apart from one another
abbrev pub AreApart : List Born → Type 0
AreApart [] = Unit {0}
AreApart (b ∷ made) = AreOther b.object made × AreApart made

-- the results stand in the places from n on
abbrev pub ArePlaced : ℕ → List Born → Type 0
ArePlaced n [] = Unit {0}
ArePlaced n (b ∷ made) = (b.place ≡ n) × ArePlaced (n + 1) made

-- no object is born twice
abbrev pub AreOnce : List Birth → Type 0
AreOnce [] = Unit {0}
AreOnce (b ∷ bs) = (born_in bs b.object ≡ false) × AreOnce bs

-- the object, if there is one, is born
abbrev pub IsBorn : List Birth → Option Object → Type 0
IsBorn bs None = Unit {0}
IsBorn bs (Some o) = born_in bs o ≡ true

-- retrieved objects and their owners are born
abbrev pub AreRetrieved : List Birth → List Retrieval → Type 0
AreRetrieved bs [] = Unit {0}
AreRetrieved bs (r ∷ rs) = IsBorn bs r.owner × (born_in bs r.object ≡ true) × AreRetrieved bs rs

-- the owner by which a call retrieves is born
abbrev pub AsksBorn : List Birth → Option Asking → Type 0
AsksBorn bs None = Unit {0}
AsksBorn bs (Some q) = IsBorn bs q.owner

-- the values of a call's results, with nothing for each lost one
abbrev pub offered : {V X : Type 0} → (Born → V) → List Born → List X → List (Option V)
offered val made lost = map (λ b. Some (val b)) made ++ map (λ _. None) lost

-- the numbers of a call's results, with 0 for each lost one
abbrev pub numbered : {X : Type 0} → List Birth → List Born → List X → List ℕ
numbered bs made lost = map (λ b. number_in bs b.object) made ++ map (λ _. 0) lost
