-- The records as the links between queues see them. Source: this project.
use Rattle.std.specs.Prelude.{ℕ, ◌-◌, ◌++◌, false, if◌then◌else◌, List, length, map, replicate}
use Rattle.command_tables.specs.declared.types.ObjectType.TheVariants as ty
use Rattle.command_tables.specs.Tests.{same_type}
use Rattle.object_records.specs.declared.kept_owner.KeptOwner.{KeptOwner}
use Rattle.object_records.specs.declared.kept_owner.KeptOwner.TheVariants.{Nobody}
use Rattle.object_records.specs.declared.links.Links.{Links}
use Rattle.object_records.specs.declared.record.ObjectRecord.{ObjectRecord}

-- the owner of a queue; anything else has none here
abbrev pub queue_owner : ObjectRecord → KeptOwner
queue_owner r = if same_type r.object.ty ty.Queue then r.owner else Nobody

-- a record with only a queue's owner, and as what is no child
abbrev pub queue_seen : ObjectRecord → ObjectRecord
queue_seen r = record r { is_created = false; owner = queue_owner r }

-- all records so
abbrev pub queues_seen : List ObjectRecord → List ObjectRecord
queues_seen rs = map queue_seen rs

-- the links of a record that links nothing
abbrev pub no_links : Links
no_links = record { last_owned = 0; previous = 0; children = 0 }

-- the links of so many records, of which the last ones may not be kept, since they link nothing
abbrev pub padded : ℕ → List Links → List Links
padded count links = links ++ replicate (count - length links) no_links
