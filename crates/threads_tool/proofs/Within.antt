-- Whether an event of a file passes a test, section by section.
use Rattle.std.proofs.Common.{◌≡◌, ◌∙◌, ◌||◌, ◌&&◌, Bool, true, false, ◌++◌, refl, sym, ap}
use Rattle.std.specs.Prelude.{not}
use Rattle.std.specs.List.{flat_map, list_any}
use Rattle.std.proofs.lemmas.List.Folds.{list_any-append}
use Rattle.trace_format.specs.Content.{TraceEvent}
use Rattle.stream_model.specs.FileParts.{FileParts, StreamPart, all_events}

module _ (f : TraceEvent → Bool) (file : FileParts) where
  abbrev between : Bool
  between = list_any f (flat_map (λ (s : StreamPart). s.events) file.streams)

  by_sections : list_any f (all_events file) ≡ (list_any f file.setup || (between || list_any f file.teardown))
  by_sections =
      list_any-append f file.setup (flat_map (λ (s : StreamPart). s.events) file.streams ++ file.teardown)
      ∙ ap (λ b. list_any f file.setup || b) (list_any-append f (flat_map (λ (s : StreamPart). s.events) file.streams) file.teardown)

  -- where none of the streams does, setup and teardown decide
  pub none_of_all : (first last : Bool) → between ≡ false → first ≡ not (list_any f file.setup) → last ≡ not (list_any f file.teardown) → (first && last) ≡ not (list_any f (all_events file))
  none_of_all first last streams a c =
      ap (λ b. b && last) a ∙ (ap (λ b. not (list_any f file.setup) && b) c
      ∙ (go (list_any f file.setup) (list_any f file.teardown) ∙ ap not (sym (by_sections ∙ ap (λ b. list_any f file.setup || (b || list_any f file.teardown)) streams))))
    where
      go : (a c : Bool) → (not a && not c) ≡ not (a || (false || c))
      go false c = refl
      go true c = refl
