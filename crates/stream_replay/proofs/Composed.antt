-- The sections of a file, replayed one after the other.
use Rattle.std.proofs.Common.{◌≡◌, ◌∙◌, ◌+◌, ◌<◌, ◌^◌, ℕ, Option, Some, None, List, [], ◌∷◌, ◌++◌, length, map, reverse, refl, sym, ap, subst, arith}
use Rattle.std.specs.List.{AllByRecursion, flat_map}
use Rattle.std.proofs.lemmas.List.{length-append, length-reverse}
use Rattle.command_tables.specs.Calls.{DriverCallContent, ReplyContent}
use Rattle.trace_format.specs.Content.{TraceEvent}
use Rattle.model_driver.specs.Logs.{Log, Untold, Replies, Calls, logged, replies_in}
use Rattle.model_driver.proofs.Telling.{logged_twice}
use Rattle.model_driver.specs.Seats.{IsEmptyLog}
use Rattle.replay_model.specs.Direct.{exchanges}
use Rattle.replay_model.specs.Judged.{judged}
use Rattle.replay_model.specs.Setup.{Setup}
use Rattle.replay_model.specs.Text.{lines}
use Rattle.chain_model.specs.Gaps.{IsGapped}
use Rattle.chain_model.specs.Traces.{GivesGuarded}
use Rattle.chain_session.specs.declared.kept.Kept.{Kept}
use Rattle.chain_session.specs.Standing.{StandsFor}
use Rattle.stream_model.specs.FileParts.{FileParts, StreamPart}
use Rattle.merge_model.specs.Merges.{IsMerge, merged_events}
use Rattle.event_replay.specs.Through.{CanGoOn, GoesThrough, Passage, lines_through}
use Rattle.event_replay.proofs.Lists.{earlier}
use Rattle.event_replay.proofs.Starting.{WentThrough, lines_whole}
use Rattle.stream_workers.specs.Calls.{MadeCall, exchange_made}
use Rattle.stream_run.specs.Running.{HaveTold, IsReadyToRun}
use Rattle.seat_facts.specs.Told.{told_by_thread}
use Rattle.stream_replay.specs.Playing.{Follows}
use Rattle.stream_replay.specs.Replayed.{HasReplayed, IsWholeFile, SectionReplies, TellStreams, TellsJust, all_replies, replies_before}
use Rattle.stream_replay.proofs.Sections.{turned_sections}

-- ---- what seats tell

tells_new : {X : Type 0} (l more told : List X) → l ≡ [] → more ≡ told → l ++ more ≡ told
tells_new l more told empty same = ap (λ xs. xs ++ more) empty ∙ same

tells_one : (old new : Log) (more told : List (DriverCallContent × ReplyContent)) → IsEmptyLog old → new ≡ logged old more → more ≡ told → TellsJust told new
tells_one Untold new more told empty is same = subst (TellsJust told) (sym is) tt
tells_one (Replies l) new more told empty is same = subst (TellsJust told) (sym is) (tells_new l (replies_in more) (replies_in told) empty (ap replies_in same))
tells_one (Calls l) new more told empty is same = subst (TellsJust told) (sym is) (tells_new l more told empty same)

tells_two : (old mid new : Log) (first last : List (DriverCallContent × ReplyContent)) → IsEmptyLog old → mid ≡ logged old first → new ≡ logged mid last → TellsJust (first ++ last) new
tells_two old mid new first last empty one two = tells_one old new (first ++ last) (first ++ last) empty (two ∙ (ap (λ m. logged m last) one ∙ logged_twice old first last)) refl

module _ {S : Type 0} (log : S → Log) (s : Setup) (file : FileParts) (merge : List TraceEvent) (r : SectionReplies) where
  abbrev told_of : StreamPart → List (DriverCallContent × ReplyContent)
  told_of x = told_by_thread s x.thread (reverse file.setup) (reverse merge) (replies_before r)

  pub tell_streams : (streams : List StreamPart) (made : List (List MadeCall)) (olds news : List S) → AllByRecursion (λ seat. IsEmptyLog (log seat)) olds → HaveTold log made olds news
      → map (flat_map exchange_made) made ≡ map told_of streams → TellStreams log s file merge r streams news
  tell_streams [] [] [] [] empty told same = tt
  tell_streams [] [] [] (n ∷ news) empty told same = absurd told
  tell_streams [] [] (o ∷ olds) news empty told same = absurd told
  tell_streams [] (cs ∷ made) olds news empty told same = cc same
  tell_streams (x ∷ streams) [] olds news empty told same = cc same
  tell_streams (x ∷ streams) (cs ∷ made) [] news empty told same = absurd told
  tell_streams (x ∷ streams) (cs ∷ made) (o ∷ olds) [] empty told same = absurd told
  tell_streams (x ∷ streams) (cs ∷ made) (o ∷ olds) (n ∷ news) empty told same =
      let here : flat_map exchange_made cs ≡ told_of x = cc same in
      let rest : map (flat_map exchange_made) made ≡ map told_of streams = cc same in
      (tells_one (log o) (log n) (flat_map exchange_made cs) (told_of x) empty.0 told.0 here, tell_streams streams made olds news empty.1 told.1 rest)

-- ---- one section behind the other

all_lengths : (file : FileParts) (merge : List TraceEvent) → length (merged_events file merge) ≡ length file.setup + (length merge + length file.teardown)
all_lengths file merge = length-append file.setup (merge ++ file.teardown) ∙ ap (λ n. length file.setup + n) (length-append merge file.teardown)

module _ (s : Setup) (file : FileParts) (merge : List TraceEvent) (whole : IsGapped (reverse file.teardown ++ (reverse merge ++ reverse file.setup))) (few : length (merged_events file merge) < 2 ^ 63) where
  merge_gapped : IsGapped (reverse merge ++ reverse file.setup)
  merge_gapped = earlier (reverse file.teardown) (reverse merge ++ reverse file.setup) whole

  pub can_merge : (k : Option Kept) (first : List ReplyContent) → StandsFor s k (reverse file.setup) first → CanGoOn s k merge
  can_merge k first stands =
      let all = all_lengths file merge in
      let before : length (reverse file.setup) ≡ length file.setup = length-reverse file.setup in
      record { before = reverse file.setup; replies = first; stands = stands; trace = merge_gapped; few = omega (arith, few, all, before) }

  pub can_teardown : (k : Option Kept) (first : List ReplyContent) → StandsFor s k (reverse merge ++ reverse file.setup) first → CanGoOn s k file.teardown
  can_teardown k first stands =
      let all = all_lengths file merge in
      let one : length (reverse file.setup) ≡ length file.setup = length-reverse file.setup in
      let two : length (reverse merge) ≡ length merge = length-reverse merge in
      let before : length (reverse merge ++ reverse file.setup) ≡ length (reverse merge) + length (reverse file.setup) = length-append (reverse merge) (reverse file.setup) in
      record { before = reverse merge ++ reverse file.setup; replies = first; stands = stands; trace = whole; few = omega (arith, few, all, one, two, before) }

  pub merge_stands : (k0 k1 : Option Kept) (first replies : List ReplyContent) (text0 text1 : List ℕ) → StandsFor s k0 (reverse file.setup) first → Follows s k0 k1 merge replies text0 text1
      → StandsFor s k1 (reverse merge ++ reverse file.setup) (reverse replies ++ first)
  merge_stands k0 k1 first replies text0 text1 stands follows = follows.stands (reverse file.setup) first stands merge_gapped

  -- all sections
  module _ {S : Type 0} (log : S → Log) (k0 k1 k2 : Option Kept) (p0 p2 : Passage) (replies : List ReplyContent) (text1 : List ℕ)
      (went : WentThrough s k0 file.setup p0) (follows : Follows s k0 k1 merge replies p0.lines text1) (goes : GoesThrough s k1 k2 file.teardown p2) where
    abbrev replies_are : SectionReplies
    replies_are = record { setup = went.replies; merge = reverse replies; teardown = goes.replies }

    stands_between : StandsFor s k1 (reverse merge ++ reverse file.setup) (replies_before replies_are)
    stands_between = merge_stands k0 k1 went.replies replies p0.lines text1 went.stands follows

    all_wrote : p0.old_lines ≡ [] → p2.old_lines ≡ text1 → p2.lines ≡ lines s (judged s (reverse (merged_events file merge)))
    all_wrote none same =
        let one : p0.lines ≡ lines s (judged s (reverse file.setup)) = went.wrote ∙ ap (λ ls. ls ++ lines s (judged s (reverse file.setup))) none in
        let two : text1 ≡ lines s (judged s (reverse merge ++ reverse file.setup)) =
        follows.wrote (reverse file.setup) went.replies went.stands merge_gapped ∙ (ap (λ ls. ls ++ lines_through s (reverse file.setup) merge) one ∙ lines_whole s (reverse file.setup) merge) in
        goes.wrote (reverse merge ++ reverse file.setup) (replies_before replies_are) stands_between whole
        ∙ (ap (λ ls. ls ++ lines_through s (reverse merge ++ reverse file.setup) file.teardown) (same ∙ two)
        ∙ (lines_whole s (reverse merge ++ reverse file.setup) file.teardown ∙ ap (λ es. lines s (judged s es)) (sym (turned_sections file merge))))

    pub has_replayed : (first : S) (others : List S) → IsMerge file.streams merge → IsEmptyLog p0.old_log → p2.old_log ≡ p0.log → p2.log ≡ log first → p0.old_lines ≡ [] → p2.old_lines ≡ text1
        → TellStreams log s file merge replies_are file.streams others → HasReplayed log s file merge p2.lines k2 (first ∷ others)
    has_replayed first others merged empty log_on log_is none text_on streams =
        let turned = turned_sections file merge in
        record {
          merged = merged;
          replies = replies_are;
          each = record { setup = went.stands.stands.each; before = stands_between.stands.each };
          stands = subst (λ es. StandsFor s k2 es (all_replies replies_are)) (sym turned) (goes.stands (reverse merge ++ reverse file.setup) (replies_before replies_are) stands_between whole);
          wrote = all_wrote none text_on;
          first = first;
          others = others;
          are = refl;
          ends = record {
            last = goes.gained;
            teardown = ap (λ es. exchanges (judged s es) (all_replies replies_are)) turned ∙ goes.told (reverse merge ++ reverse file.setup) (replies_before replies_are) stands_between whole;
            told = tells_two p0.old_log p0.log (log first) (exchanges (judged s (reverse file.setup)) went.replies) goes.gained empty went.log (sym log_is ∙ (goes.log ∙ ap (λ l. logged l goes.gained) log_on));
          };
          streams = streams;
        }

-- ---- before the streams

pub ready : (s : Setup) (k : Option Kept) (file : FileParts) (first : List ReplyContent) → GivesGuarded s → IsWholeFile file → StandsFor s k (reverse file.setup) first → IsReadyToRun k file
ready s k file first guarded w stands =
    record { lines = w.lines; order = w.order; grammar = w.grammar; whole = w.whole; is = w.is; setup = s; guarded = guarded; replies = first; stands = stands }
