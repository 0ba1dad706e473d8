-- Commands by name.
use Rattle.std.proofs.Common.{◌≡◌, ◌≢◌, Bool, true, false, Option, Some, None, List, [], ◌∷◌, ℕ, refl, sym, ap, ◌∙◌, IfSome, IfNone, cond}
use Rattle.std.specs.List.{find}
use Rattle.std.specs.Str.{bytes_eq}
use Rattle.std.proofs.lemmas.Slice.Eq.{bytes_eq-Decides}
use Rattle.command_tables.specs.declared.types.CommandId.{CommandId}
use Rattle.command_tables.specs.declared.types.CommandId.TheVariants as cmd
use Rattle.command_tables.specs.declared.lookup.TheConstants.{COMMANDS}
use Rattle.command_tables.specs.Table.{row_of}
use Rattle.trace_format.specs.Words.{command_of}

-- each command is the one with its name
named : (c : CommandId) → command_of (row_of c).name ≡ Some c
unfolding row_of command_of
named cmd.AcquireNextImageKHR = refl
named _ = refl

-- a word that is no command's name finds none
unnamed : (word : List ℕ) → ((c : CommandId) → (row_of c).name ≢ word) → (cs : List CommandId) → find (λ c. bytes_eq (row_of c).name word) cs ≡ None
unnamed word none [] = refl
unnamed word none (c ∷ cs) = go (bytes_eq (row_of c).name word) (bytes_eq-Decides (row_of c).name word).0 (unnamed word none cs)
  where
    go : (t : Bool) → (t ≡ true → (row_of c).name ≡ word) → find (λ c. bytes_eq (row_of c).name word) cs ≡ None → cond t (Some c) (find (λ c. bytes_eq (row_of c).name word) cs) ≡ None
    go true is rest = absurd (none c (is refl))
    go false is rest = rest

-- the command that was found is the one with the name
pub found_by_name : (word : List ℕ) (r : Option CommandId) → IfSome r (λ c. (row_of c).name ≡ word) → IfNone r ((c : CommandId) → (row_of c).name ≢ word) → r ≡ command_of word
unfolding command_of
found_by_name word None some none = sym (unnamed word none COMMANDS)
found_by_name word (Some c) some none = sym (named c) ∙ ap command_of some
