-- The sections of a stream file, one after the other, are its events in the file's order.
use Rattle.std.proofs.Common.{◌≡◌, ◌∙◌, ℕ, Bool, true, false, ◌&&◌, Option, Some, None, List, [], ◌∷◌, ◌++◌, refl, sym, ap, append_assoc, append-nil}
use Rattle.std.specs.Prelude.{reverse}
use Rattle.std.specs.List.{flat_map}
use Rattle.std.proofs.lemmas.List.{reverse-append}
use Rattle.std.proofs.lemmas.Grind.{flat_map-append}
use Rattle.trace_format.specs.Content.{TraceEvent}
use Rattle.stream_model.specs.declared.heading.Heading.{Heading}
use Rattle.stream_model.specs.declared.heading.Heading.TheVariants as heading
use Rattle.stream_model.specs.FileLines.{FileLine, HeadingLine, EventLine}
use Rattle.stream_model.specs.FileParts.{AreInOrder, FileParts, StreamPart, all_events, closed_parts, no_parts, open_events, parts, with_section}
use Rattle.stream_model.specs.Order.{event_thread, events, follows, section, takes_thread}
use Rattle.stream_model.proofs.Orders.{heading_in_order, not_refused}

-- the events of streams
abbrev pub in_streams : List StreamPart → List TraceEvent
in_streams streams = flat_map (λ s. s.events) streams

-- what stands before the last heading and the events behind it, by the section
abbrev pub Stands : Option Heading → FileParts → List TraceEvent → Type 0
Stands None file latest = (file ≡ no_parts) × (latest ≡ [])
Stands (Some heading.Setup) file latest = file ≡ no_parts
Stands (Some (heading.Stream t)) file latest = file.teardown ≡ []
Stands (Some heading.Teardown) file latest = file.teardown ≡ []

-- the lines so far: no section stands where it may not, and all events are there
pub record Placed (s : Option Heading) (file : FileParts) (latest all : List TraceEvent) : Type 0 where
  pub stands : Stands s file latest
  pub events : all_events file ++ latest ≡ reverse all

-- the first of two tests in a row
left_true : (a b : Bool) → a && b ≡ true → a ≡ true
left_true true b is = refl
left_true false b is = cc

-- setup is closed: nothing stood before it
after_setup : (file : FileParts) (latest all : List TraceEvent) → file ≡ no_parts → all_events file ++ latest ≡ reverse all → all_events (with_section file (Some heading.Setup) latest) ++ [] ≡ reverse all
after_setup file latest all none is =
    append-nil (latest ++ (in_streams file.streams ++ file.teardown))
    ∙ (ap (λ f. latest ++ (in_streams f.streams ++ f.teardown)) none ∙ (append-nil latest ∙ (sym (ap (λ f. all_events f ++ latest) none) ∙ is)))

-- a stream is closed: it comes behind the others
after_stream : (file : FileParts) (thread : ℕ) (latest all : List TraceEvent) → file.teardown ≡ [] → all_events file ++ latest ≡ reverse all → all_events (with_section file (Some (heading.Stream thread)) latest) ++ [] ≡ reverse all
after_stream file thread latest all none is =
    append-nil (file.setup ++ (in_streams (file.streams ++ record { thread = thread; events = latest } ∷ []) ++ file.teardown))
    ∙ (ap (λ xs. file.setup ++ (in_streams (file.streams ++ record { thread = thread; events = latest } ∷ []) ++ xs)) none
    ∙ (ap (λ xs. file.setup ++ xs) (append-nil (in_streams (file.streams ++ record { thread = thread; events = latest } ∷ [])) ∙ more)
    ∙ (sym (append_assoc file.setup (in_streams file.streams) latest) ∙ (sym (ap (λ xs. (file.setup ++ xs) ++ latest) (ap (λ xs. in_streams file.streams ++ xs) none ∙ append-nil (in_streams file.streams))) ∙ is))))
  where
    more : in_streams (file.streams ++ record { thread = thread; events = latest } ∷ []) ≡ in_streams file.streams ++ latest
    more = flat_map-append (λ s. s.events) file.streams (record { thread = thread; events = latest } ∷ []) ∙ ap (λ xs. in_streams file.streams ++ xs) (append-nil latest)

-- behind a heading
headed : (s : Option Heading) (h : Heading) (file : FileParts) (latest all : List TraceEvent) → follows s h ≡ true → Placed s file latest all → Placed (Some h) (with_section file s latest) [] all
headed None heading.Setup file latest all is placed = record {
  stands = placed.stands.0;
  events = ap (λ xs. all_events file ++ xs) (sym placed.stands.1) ∙ placed.events;
}
headed None (heading.Stream t) file latest all is placed = cc
headed None heading.Teardown file latest all is placed = cc
headed (Some heading.Setup) heading.Setup file latest all is placed = cc
headed (Some heading.Setup) (heading.Stream t) file latest all is placed = record { stands = ap (λ f. f.teardown) placed.stands; events = after_setup file latest all placed.stands placed.events }
headed (Some heading.Setup) heading.Teardown file latest all is placed = record { stands = ap (λ f. f.teardown) placed.stands; events = after_setup file latest all placed.stands placed.events }
headed (Some (heading.Stream t)) heading.Setup file latest all is placed = cc
headed (Some (heading.Stream t)) (heading.Stream u) file latest all is placed = record { stands = placed.stands; events = after_stream file t latest all placed.stands placed.events }
headed (Some (heading.Stream t)) heading.Teardown file latest all is placed = record { stands = placed.stands; events = after_stream file t latest all placed.stands placed.events }
headed (Some heading.Teardown) h file latest all is placed = cc

-- the lines in order
pub placed_lines : (lines : List FileLine) → AreInOrder lines → Placed (section lines) (closed_parts lines) (open_events lines) (events lines)
placed_lines [] order = record { stands = (refl, refl); events = refl }
placed_lines (HeadingLine h ∷ lines) order =
    headed (section lines) h (closed_parts lines) (open_events lines) (events lines) (left_true _ _ (heading_in_order lines h order.1).0) (placed_lines lines order.0)
placed_lines (EventLine e ∷ lines) order =
    let before = placed_lines lines order.0 in
    record {
      stands = still (section lines) (not_refused lines e order.1).thread before.stands;
      events = sym (append_assoc (all_events (closed_parts lines)) (open_events lines) (e ∷ [])) ∙ (ap (λ xs. xs ++ e ∷ []) before.events ∙ sym (reverse-append (e ∷ []) (events lines)));
    }
  where
    still : (s : Option Heading) → takes_thread s (event_thread e) ≡ true → Stands s (closed_parts lines) (open_events lines) → Stands s (closed_parts lines) (open_events lines ++ e ∷ [])
    still None takes stands = cc
    still (Some heading.Setup) takes stands = stands
    still (Some (heading.Stream t)) takes stands = stands
    still (Some heading.Teardown) takes stands = stands

-- all events of a file in the file's order
pub all_in_order : (lines : List FileLine) → AreInOrder lines → all_events (parts lines) ≡ reverse (events lines)
all_in_order lines order = let placed = placed_lines lines order in go (section lines) placed.stands placed.events
  where
    in_teardown : (file : FileParts) (latest all : List TraceEvent) → file.teardown ≡ [] → all_events file ++ latest ≡ reverse all → all_events (with_section file (Some heading.Teardown) latest) ≡ reverse all
    in_teardown file latest all none is =
        sym (ap (λ xs. file.setup ++ xs) (append_assoc (in_streams file.streams) [] latest)) ∙ (sym (append_assoc file.setup (in_streams file.streams ++ []) latest) ∙ (sym (ap (λ xs. (file.setup ++ (in_streams file.streams ++ xs)) ++ latest) none) ∙ is))

    whole : (s : Option Heading) (file : FileParts) (latest all : List TraceEvent) → Stands s file latest → all_events file ++ latest ≡ reverse all → all_events (with_section file s latest) ≡ reverse all
    whole None file latest all stands is = sym (append-nil (all_events file)) ∙ (ap (λ xs. all_events file ++ xs) (sym stands.1) ∙ is)
    whole (Some heading.Setup) file latest all stands is = sym (append-nil _) ∙ after_setup file latest all stands is
    whole (Some (heading.Stream t)) file latest all stands is = sym (append-nil _) ∙ after_stream file t latest all stands is
    whole (Some heading.Teardown) file latest all stands is = in_teardown file latest all stands is

    go : (s : Option Heading) → Stands s (closed_parts lines) (open_events lines) → all_events (closed_parts lines) ++ open_events lines ≡ reverse (events lines) → all_events (with_section (closed_parts lines) s (open_events lines)) ≡ reverse (events lines)
    go s stands is = whole s (closed_parts lines) (open_events lines) (events lines) stands is
