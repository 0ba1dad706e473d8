-- Small inputs of the machine. Source: this project.
use Rattle.std.specs.Prelude.{ℕ, false, Some, List, [], ◌∷◌, map}
use Rattle.command_tables.specs.Calls.{CallContent}
use Rattle.command_tables.specs.declared.types.CommandId.{CommandId}
use Rattle.command_tables.specs.declared.types.Code.TheVariants as code
use Rattle.command_tables.specs.declared.types.ObjectType.{ObjectType}
use Rattle.command_tables.specs.declared.types.ObjectType.TheVariants as ty
use Rattle.object_model.specs.declared.Object.{Object}
use Rattle.object_model.specs.History.{births}
use Rattle.object_model.specs.Samples.{buffer, device, instance, physical_device, sample}
use Rattle.layer_model.specs.Ids.{IdMap, Key, issue_all, no_ids}
use Rattle.handle_map.specs.Pairs.{MapEntry}
use Rattle.layer_model.specs.Parts.{LifeModel}

-- a call with one handle at each parameter, that asks for one handle
abbrev pub call_on : CommandId → List ℕ → CallContent
call_on c handles = record { cmd = c; args = map (λ h. h ∷ []) handles; unborn = map (λ h. false ∷ []) handles; asked = 1; code = Some code.Success; payload = [] }

-- by what the images of an object are kept
abbrev pub image_key : Object → Key
image_key owner = record { owner = Some owner; ty = ty.Image; place = 0; payload = [] }

-- one image that was retrieved of this owner, with the value 7
abbrev pub retrieved : Object → IdMap ℕ
retrieved owner = (issue_all no_ids (Some (image_key owner)) ty.Image 0 (Some 7 ∷ [])).ids

-- the first id of a type, with this value
abbrev pub values_one : ObjectType → ℕ → List (MapEntry ℕ)
values_one t v = record { ty = t; id = 1; values = v } ∷ []

-- a lifetimes part that has an instance, its physical device, a device, a buffer, a descriptor pool and a set, of which the first four live
abbrev pub device_and_buffer : LifeModel
device_and_buffer = record { births = births sample; living = instance ∷ physical_device ∷ device ∷ buffer ∷ [] }

-- a unique part that has given out the number of that buffer, with this value
abbrev pub gives_buffer : ℕ → IdMap ℕ
gives_buffer v = record { entries = record { ty = ty.Buffer; id = 4; values = v } ∷ []; kept = [] }
