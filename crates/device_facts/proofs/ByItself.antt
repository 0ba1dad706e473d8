-- A call on a device by what its trace and its own log say of it.
use Rattle.std.proofs.Common.{◌≡◌, ◌∙◌, ℕ, Bool, true, false, cond, Option, Some, List, [], ◌∷◌, ◌++◌, length, map, refl, sym, ap, subst, append-nil}
use Rattle.std.specs.Prelude.{filter, find, reverse}
use Rattle.std.specs.List.{AllByRecursion}
use Rattle.std.specs.Option.{option_map_or}
use Rattle.std.proofs.lemmas.List.{reverse-append}
use Rattle.std.proofs.lemmas.List.Elements.{filter-append}
use Rattle.command_tables.specs.Calls.{ReplyContent}
use Rattle.trace_format.specs.declared.event.Name.{Name}
use Rattle.trace_format.specs.Content.{BeginEvent, Begin}
use Rattle.object_model.specs.declared.Object.{Object}
use Rattle.object_model.specs.declared.Argument.{Argument}
use Rattle.object_model.specs.declared.Argument.TheVariants.{Null, Unborn, The}
use Rattle.object_model.specs.Objects.{same}
use Rattle.object_model.specs.Values.{asked_of_each, value_for}
use Rattle.replay_model.specs.Setup.{Setup}
use Rattle.replay_model.specs.Past.{Opened, is_skipped}
use Rattle.replay_model.specs.Direct.{Valued, driver_call, driver_calls, last_values, sends_in, value_in, valued}
use Rattle.replay_model.specs.Judged.{begun_of, judged}
use Rattle.replay_model.proofs.Alike.{numbered}
use Rattle.stream_model.specs.FileLines.{FileLine}
use Rattle.stream_model.specs.FileParts.{parts}
use Rattle.stream_model.specs.Order.{device_named}
use Rattle.stream_model.specs.Plans.{device_written, events_along}
use Rattle.merge_model.specs.Merges.{last_on}
use Rattle.device_facts.specs.Apart.{ComesOn, device_replies, device_so_far, merged_so_far}
use Rattle.device_facts.proofs.Beheld.{Beheld, StreamFits, beheld, named_one}
use Rattle.device_facts.proofs.Beside.{ArgsAt, At, begun_alike}
use Rattle.device_facts.proofs.Homes.{Held, Homes, homes}
use Rattle.device_facts.proofs.Looks.{find_part, mapped_alike}
use Rattle.device_facts.proofs.Opening.{OnDevice, on_open}
use Rattle.device_facts.proofs.Sections.{Sectioned}
use Rattle.device_facts.proofs.Telling.{told}
use Rattle.device_facts.proofs.Told.{values_at}
use Rattle.device_facts.proofs.Weaving.{along_fits, along_idle, closed_setup, held_setup, next_fits, sectioned}

-- ---- values

filter_back : (p : Valued → Bool) (vs : List Valued) → filter p (reverse vs) ≡ reverse (filter p vs)
filter_back p [] = refl
filter_back p (v ∷ vs) =
    ap (filter p) (reverse-append (v ∷ []) vs) ∙ (filter-append p (reverse vs) (v ∷ []) ∙ (ap (λ ws. ws ++ filter p (v ∷ [])) (filter_back p vs) ∙ go (p v)))
  where
    go : (u : Bool) → reverse (filter p vs) ++ cond u (v ∷ []) [] ≡ reverse (cond u (v ∷ filter p vs) (filter p vs))
    go true = sym (reverse-append (v ∷ []) (filter p vs))
    go false = append-nil (reverse (filter p vs))

last_alike : (o : Object) (vs ws : List Valued) → values_at o vs ≡ values_at o ws → last_values vs o ≡ last_values ws o
last_alike o vs ws is =
    let p : Valued → Bool = λ (v : Valued). same v.object o in
    ap (λ (f : Option Valued). option_map_or (λ (v : Valued). v.values) f []) (
    sym (find_part p p (λ v e. e) (reverse vs)) ∙ (ap (find p) (filter_back p vs ∙ (ap reverse is ∙ sym (filter_back p ws))) ∙ find_part p p (λ v e. e) (reverse ws)))

module _ (h : Homes) (device : Name) (vs ws : List Valued) (same_values : (o : Object) → h.object o ≡ Some device → values_at o vs ≡ values_at o ws) where
  places_alike : (driver : ℕ) (xs : List Argument) → AllByRecursion (At h device) xs → map (value_in vs driver) xs ≡ map (value_in ws driver) xs
  places_alike driver [] all = refl
  places_alike driver (Null ∷ xs) all = ap (λ ys. 0 ∷ ys) (places_alike driver xs all.1)
  places_alike driver (Unborn ∷ xs) all = ap (λ ys. 0 ∷ ys) (places_alike driver xs all.1)
  places_alike driver (The o ∷ xs) all =
      ap (λ ls. value_for driver ls ∷ map (value_in vs driver) xs) (last_alike o vs ws (same_values o all.0)) ∙ ap (λ ys. value_for driver (last_values ws o) ∷ ys) (places_alike driver xs all.1)

  told_args : (driver : ℕ) (args : List (List Argument)) → ArgsAt h device args → map (map (value_in vs driver)) args ≡ map (map (value_in ws driver)) args
  told_args driver [] all = refl
  told_args driver (xs ∷ args) all = ap (λ ys. ys ∷ map (map (value_in vs driver)) args) (places_alike driver xs all.0) ∙ ap (λ zs. map (value_in ws driver) xs ∷ zs) (told_args driver args all.1)

  calls_alike : (o : Opened) → ArgsAt h device o.args → driver_calls vs o ≡ driver_calls ws o
  calls_alike o all =
      mapped_alike (driver_call vs o) (driver_call ws o)
      (λ driver. ap (λ (args : List (List ℕ)). record { driver = driver; cmd = o.cmd; args = args; asked = asked_of_each o.cmd (length o.results); code = o.code; payload = o.payload }) (told_args driver o.args all)) o.drivers

-- ---- the law

module _ (s : Setup) (lines : List FileLine) (device : Name) (turns : List ℕ) (b : BeginEvent) (c : ComesOn s lines device turns b) where
  sections : Sectioned (device_written (parts lines)) (parts lines)
  sections = sectioned lines c.order c.grammar b.thread turns (Begin b) c.next

  held : Held (homes (device_written (parts lines))) (judged s (reverse (parts lines).setup))
  held = held_setup (homes (device_written (parts lines))) s (parts lines) sections

  both : Beheld (homes (device_written (parts lines))) s device (judged s (merged_so_far (parts lines) turns)) (judged s (device_so_far (parts lines) device turns))
      (λ t. last_on (device_written (parts lines)) device t (events_along (parts lines).streams turns))
  both =
      beheld (homes (device_written (parts lines))) s device (reverse (parts lines).setup) held (closed_setup (device_written (parts lines)) s (parts lines) sections) (events_along (parts lines).streams turns)
      (along_fits (device_written (parts lines)) (parts lines).streams turns sections.streams) (along_idle s (device_written (parts lines)) (parts lines) sections turns c.along)

  there : OnDevice (device_written (parts lines)) device b
  there =
      let fits : StreamFits (device_written (parts lines)) (Begin b) = next_fits (device_written (parts lines)) (parts lines).streams b.thread turns (Begin b) sections.streams c.next in
      subst (λ d. OnDevice (device_written (parts lines)) d b) (named_one (device_named (device_written (parts lines)) b.cmd b.args) fits.1.0 device fits.1.1.device c.on) fits.1.1

  alike : numbered 0 (begun_of s (judged s (device_so_far (parts lines) device turns)) b).opened ≡ numbered 0 (begun_of s (judged s (merged_so_far (parts lines) turns)) b).opened
  alike = begun_alike (homes (device_written (parts lines))) device s (judged s (merged_so_far (parts lines) turns)) (judged s (device_so_far (parts lines) device turns)) b both.held both.beside there.names there.ends

  pub same_args : (begun_of s (judged s (merged_so_far (parts lines) turns)) b).opened.args ≡ (begun_of s (judged s (device_so_far (parts lines) device turns)) b).opened.args
  same_args = sym (ap (λ (o : Opened). o.args) alike)

  pub same_skipped : is_skipped (begun_of s (judged s (merged_so_far (parts lines) turns)) b).opened ≡ is_skipped (begun_of s (judged s (device_so_far (parts lines) device turns)) b).opened
  same_skipped = sym (ap is_skipped alike)

  pub same_drivers : (begun_of s (judged s (merged_so_far (parts lines) turns)) b).opened.drivers ≡ (begun_of s (judged s (device_so_far (parts lines) device turns)) b).opened.drivers
  same_drivers = sym (ap (λ (o : Opened). o.drivers) alike)

  pub same_calls : (replies : List ReplyContent) → length replies ≡ sends_in (judged s (merged_so_far (parts lines) turns))
      → driver_calls (valued (judged s (merged_so_far (parts lines) turns)) replies) (begun_of s (judged s (merged_so_far (parts lines) turns)) b).opened
      ≡ driver_calls (valued (judged s (device_so_far (parts lines) device turns)) (device_replies s (parts lines) device turns replies)) (begun_of s (judged s (device_so_far (parts lines) device turns)) b).opened
  same_calls replies enough =
      let values = told s (parts lines) device (reverse (parts lines).setup) held (closed_setup (device_written (parts lines)) s (parts lines) sections) (events_along (parts lines).streams turns)
      (along_fits (device_written (parts lines)) (parts lines).streams turns sections.streams) (along_idle s (device_written (parts lines)) (parts lines) sections turns c.along) replies enough in
      sym (
      ap (driver_calls (valued (judged s (device_so_far (parts lines) device turns)) (device_replies s (parts lines) device turns replies))) alike
      ∙ calls_alike (homes (device_written (parts lines))) device (valued (judged s (device_so_far (parts lines) device turns)) (device_replies s (parts lines) device turns replies))
      (valued (judged s (merged_so_far (parts lines) turns)) replies) values.values (begun_of s (judged s (merged_so_far (parts lines) turns)) b).opened
      (on_open (homes (device_written (parts lines))) s (judged s (merged_so_far (parts lines) turns)) b device both.held there).args)
