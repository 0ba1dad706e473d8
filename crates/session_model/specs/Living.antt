-- The births of what lives alone, which say of the living what all births say of them, and how a begin and a return change them. Source: this project.
use Rattle.std.specs.Prelude.{◌≡◌, true, not, ◌&&◌, ◌||◌, List, ◌++◌, filter}
use Rattle.command_tables.specs.Table.{row_of}
use Rattle.object_model.specs.declared.Object.{Object}
use Rattle.object_model.specs.History.{Birth, History, alive, births, born_in, created_in, ends_by, owners_in}
use Rattle.replay_model.specs.Past.{Opened, is_skipped}
use Rattle.session_tables.specs.Lined.{IsBornAlike}

-- these are the births of what lives after a history, in any order: they say of what lives what all births say of it
pub record AreOfLiving (living : List Birth) (h : History) : Type 0 where
  pub lives : (x : Object) → born_in living x ≡ alive h x
  pub created : (x : Object) → alive h x ≡ true → created_in living x ≡ created_in (births h) x
  pub owners : (x : Object) → alive h x ≡ true → owners_in living x ≡ owners_in (births h) x

-- the births of what lives after a begin, by those before it: a skipped call ends nothing
pub record ArePast (before : List Birth) (o : Opened) (after : List Birth) : Type 0 where
  pub lives : (x : Object) → born_in after x ≡ (born_in before x && (is_skipped o || not (ends_by before o.args (row_of o.cmd).effect x)))
  pub alike : (x : Object) → born_in after x ≡ true → IsBornAlike after before x

-- such a list: those before, in their order, without what the call ends
abbrev pub births_past : List Birth → Opened → List Birth
births_past before o = filter (λ b. is_skipped o || not (ends_by before o.args (row_of o.cmd).effect b.object)) before

-- the births of what lives after a return are those before it and what was given: those before, and behind them what was given, are such a list
abbrev pub births_since : List Birth → List Birth → List Birth
births_since before given = before ++ given
