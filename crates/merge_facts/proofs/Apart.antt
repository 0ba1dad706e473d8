-- No two streams of a file are of one thread.
use Rattle.std.proofs.Common.{◌≡◌, ◌∙◌, ℕ, nat_eq, Option, Some, None, List, [], ◌∷◌, ◌++◌, sym, ap, subst, append-nil, refl}
use Rattle.std.specs.Prelude.{map}
use Rattle.std.specs.List.{IsDistinct}
use Rattle.std.proofs.lemmas.List.{map-append}
use Rattle.trace_format.specs.Content.{TraceEvent}
use Rattle.stream_model.specs.declared.heading.Heading.{Heading}
use Rattle.stream_model.specs.declared.heading.Heading.TheVariants as heading
use Rattle.stream_model.specs.FileLines.{FileLine, HeadingLine, EventLine}
use Rattle.stream_model.specs.FileParts.{AreInOrder, FileParts, StreamPart, closed_parts, open_events, parts, with_section}
use Rattle.stream_model.specs.Order.{heading_threads, section, stream_threads}
use Rattle.stream_model.proofs.Within.{threads_distinct}

-- the threads of a file's streams
abbrev threads_of : FileParts → List ℕ
threads_of file = map (λ (s : StreamPart). s.thread) file.streams

-- the thread of a section, or none
abbrev section_thread : Option Heading → List ℕ
section_thread None = []
section_thread (Some h) = heading_threads h

one_more : (s : Option Heading) (file : FileParts) (latest : List TraceEvent) → threads_of (with_section file s latest) ≡ threads_of file ++ section_thread s
one_more None file latest = sym (append-nil (threads_of file))
one_more (Some heading.Setup) file latest = sym (append-nil (threads_of file))
one_more (Some heading.Teardown) file latest = sym (append-nil (threads_of file))
one_more (Some (heading.Stream t)) file latest = map-append (λ (s : StreamPart). s.thread) file.streams (record { thread = t; events = latest } ∷ [])

pub as_headed : (lines : List FileLine) → map (λ (s : StreamPart). s.thread) (parts lines).streams ≡ stream_threads lines
as_headed [] = refl
as_headed (HeadingLine h ∷ lines) = one_more (Some h) (parts lines) [] ∙ ap (λ ts. ts ++ heading_threads h) (as_headed lines)
as_headed (EventLine e ∷ lines) =
    one_more (section lines) (closed_parts lines) (open_events lines ++ e ∷ []) ∙ (sym (one_more (section lines) (closed_parts lines) (open_events lines)) ∙ as_headed lines)

pub streams_apart : (lines : List FileLine) → AreInOrder lines → IsDistinct nat_eq (map (λ (s : StreamPart). s.thread) (parts lines).streams)
streams_apart lines order = subst (IsDistinct nat_eq) (sym (as_headed lines)) (threads_distinct lines order)
