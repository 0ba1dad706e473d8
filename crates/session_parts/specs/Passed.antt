-- What a call passes on, as a call without arguments. Source: this project.
use Rattle.std.specs.Prelude.{[]}
use Rattle.command_tables.specs.Calls.{CallContent}
use Rattle.session_parts.specs.declared.forms.Passed.{Passed}

-- the call without its arguments
abbrev pub base_passed : Passed → CallContent
base_passed p = record { cmd = p.cmd; args = []; unborn = []; asked = p.asked; code = p.code; payload = p.payload.now }
