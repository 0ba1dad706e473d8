-- The rows of a table.
use Rattle.std.proofs.Common.{◌≡◌, ℕ, zero, suc, ◌-◌, List, [], ◌∷◌, map, ◌||◌, ap, refl, slice_get, Option, None, Some, sym, ◌∙◌}
use Rattle.std.specs.Prelude.{Vec}
use Rattle.std.specs.Option.{option_map, option_map_or}
use Rattle.std.proofs.lemmas.Option.{same_Some}
use Rattle.command_tables.specs.Numbers.{number_of}
use Rattle.command_tables.specs.declared.lookup.TheConstants.{COMMANDS}
use Rattle.command_tables.specs.declared.types.CommandId.{CommandId}
use Rattle.object_model.specs.declared.PartKind.{PartKind}
use Rattle.dispatch_chain.specs.Rows.{AreRows, entries_of, rows_of}
use Rattle.dispatch_chain.specs.declared.entry.Entry.{Entry}
use Rattle.std.specs.List.{list_any}
use Rattle.command_tables.specs.declared.types.Param.{Param}
use Rattle.command_tables.specs.Table.{ParamSpec, seen_param}
use Rattle.layer_model.specs.Ids.{is_wrapped}

-- what parameters name is read in them as in those of the table
pub any_seen : (ps : List Param) → list_any (λ p. is_wrapped p.ty) (map seen_param ps) ≡ list_any (λ p. is_wrapped p.ty) ps
any_seen [] = refl
any_seen (p ∷ ps) = ap (λ b. is_wrapped p.ty || b) (any_seen ps)

-- so too where they are those of a row
pub any_of_the_table : (ps : List Param) (qs : List ParamSpec) → map seen_param ps ≡ qs → list_any (λ p. is_wrapped p.ty) qs ≡ list_any (λ p. is_wrapped p.ty) ps
any_of_the_table ps qs e = ap (list_any (λ p. is_wrapped p.ty)) (sym e) ∙ any_seen ps

mapped_at : {X Y : Type 0} (f : X → Y) (xs : List X) (i : ℕ) → slice_get (map f xs) i ≡ option_map f (slice_get xs i)
mapped_at f [] i = refl
mapped_at f (x ∷ xs) zero = refl
mapped_at f (x ∷ xs) (suc i) = mapped_at f xs i

-- what stands at a place of a list stands there in the list of its values
pub get_mapped : {X Y : Type 0} (f : X → Y) (xs : List X) (i : ℕ) (x : X) → slice_get xs i ≡ Some x → slice_get (map f xs) i ≡ Some (f x)
get_mapped f xs i x h = mapped_at f xs i ∙ ap (option_map f) h

-- the row of a command stands at its number
pub row_at : (kinds : List PartKind) (cmd : CommandId) (rows : List (List Entry)) → rows ≡ rows_of kinds → slice_get COMMANDS (number_of cmd - 1) ≡ Some cmd → slice_get rows (number_of cmd - 1) ≡ Some (entries_of cmd kinds)
row_at kinds cmd rows e h = ap (λ rs. slice_get rs (number_of cmd - 1)) e ∙ get_mapped (λ c. entries_of c kinds) COMMANDS (number_of cmd - 1) cmd h

got_row : {X : Type 0} (f : X → List Entry) (r : Option X) (es : List Entry) → option_map f r ≡ Some es → option_map_or f r [] ≡ es
got_row f None es h = cc h
got_row f (Some x) es h = same_Some (f x) es h

-- where there are no parts, none intercepts a command
pub rows_none : {A : Type 0} (kinds : List PartKind) (rows : List (Vec Entry A)) → kinds ≡ [] → rows ≡ [] → AreRows kinds rows
rows_none {A = A} kinds rows no_kinds no_rows = record {
  each = λ cmd. ap (λ (rs : List (Vec Entry A)). option_map_or (λ (r : Vec Entry A). r.items) (slice_get rs (number_of cmd - 1)) []) no_rows ∙ ap (entries_of cmd) (sym no_kinds);
}

-- a row for each command stands at its number
pub rows_built : {A : Type 0} (kinds : List PartKind) (rows : List (Vec Entry A)) → map (λ row. row.items) rows ≡ rows_of kinds → ((cmd : CommandId) → slice_get COMMANDS (number_of cmd - 1) ≡ Some cmd) → AreRows kinds rows
rows_built {A = A} kinds rows are numbered = record {
  each = λ cmd.
      got_row (λ (r : Vec Entry A). r.items) (slice_get rows (number_of cmd - 1)) (entries_of cmd kinds)
      (sym (mapped_at (λ (r : Vec Entry A). r.items) rows (number_of cmd - 1)) ∙ row_at kinds cmd (map (λ (r : Vec Entry A). r.items) rows) are (numbered cmd));
}

-- what stands at a command's number is its row
pub row_read : {A : Type 0} (kinds seen : List PartKind) (rows read : List (Vec Entry A)) (cmd : CommandId) (n : ℕ) (row : List Entry) → AreRows kinds rows → kinds ≡ seen → read ≡ rows → n ≡ number_of cmd
    → row ≡ option_map_or (λ r. r.items) (slice_get read (n - 1)) [] → row ≡ entries_of cmd seen
row_read {A = A} kinds seen rows read cmd n row are same is at found =
    found
    ∙ (ap (λ (rs : List (Vec Entry A)). option_map_or (λ (r : Vec Entry A). r.items) (slice_get rs (n - 1)) []) is
    ∙ (ap (λ (m : ℕ). option_map_or (λ (r : Vec Entry A). r.items) (slice_get rows (m - 1)) []) at ∙ (are.each cmd ∙ ap (entries_of cmd) same)))
