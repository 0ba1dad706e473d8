use Rattle.std.proofs.Common.{◌∙◌, ap}
use Rattle.std.specs.Option.{option_and_then}
use Rattle.manifest_reader.specs.Values.{first_of, first_member}
use Rattle.manifest_reader.proofs.Views.{first_found}
use Rattle.manifest_reader.proofs.values.first_member.Goals as goal

pub returns-in-Some : goal.returns-in-Some
unfolding first_member
returns-in-Some c = first_found c.in-Some.members.now.entries c.first_key_value.result c.first_key_value.ensures.variant c.first_key_value.ensures.first ∙ ap (option_and_then first_of) c.in-Some.ensures
