-- Names and handles that are kept in another way and say the same. Source: this project.
use Rattle.std.specs.Prelude.{◌≡◌, List}
use Rattle.trace_format.specs.declared.event.Name.{Name}
use Rattle.object_model.specs.declared.Object.{Object}
use Rattle.replay_model.specs.declared.Named.{Named}
use Rattle.replay_model.specs.Past.{object_in}
use Rattle.chain_model.specs.Handed.{Handed, handle_in}
use Rattle.session_model.specs.Session.{SessionKept}

-- what is kept, with these names and these handles
abbrev pub with_tables : SessionKept → List Named → List Handed → SessionKept
with_tables k names handed = record k { names = names; chain = record k.chain { handed = handed } }

-- names and handles that say the same as those that are kept: each name stands for the object for which it stands there, and each object has the handle that it has there
pub record SaySame (k : SessionKept) (ns : List Named) (hs : List Handed) : Type 0 where
  pub names : (n : Name) → object_in ns n ≡ object_in k.names n
  pub handed : (o : Object) → handle_in hs o ≡ handle_in k.chain.handed o
