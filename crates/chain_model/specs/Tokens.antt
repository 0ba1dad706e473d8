-- The tokens of objects: ids are positions. In each place above which a token is checked an object has one number, 1 more than the
-- births before its own among those for which the same part issues ids. Source: this project.
use Rattle.std.specs.Prelude.{ℕ, suc, Bool, if◌then◌else◌, List, [], ◌∷◌}
use Rattle.command_tables.specs.declared.types.ObjectType.{ObjectType}
use Rattle.object_model.specs.declared.Object.{Object}
use Rattle.object_model.specs.Objects.{same}
use Rattle.object_model.specs.History.{Birth}
use Rattle.layer_model.specs.Ids.{is_bare, is_wrapped}

-- the types that are numbered together with this one
abbrev pub issued_with : ObjectType → ObjectType → Bool
issued_with t = if is_wrapped t then is_wrapped else is_bare

-- how many births of these types stand before the object's own
abbrev pub births_before : (ObjectType → Bool) → List Birth → Object → ℕ
births_before issues [] o = 0
births_before issues (b ∷ bs) o = if same b.object o then 0 else (if issues b.object.ty then suc (births_before issues bs o) else births_before issues bs o)

-- the number of an object
abbrev pub number_in : List Birth → Object → ℕ
number_in bs o = suc (births_before (issued_with o.ty) bs o)

-- the token of an object: a pair of its type and its number
abbrev pub token_in : List Birth → Object → Object
token_in bs o = record { ty = o.ty; number = number_in bs o }
