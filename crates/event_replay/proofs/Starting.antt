-- A session for which nothing was replayed yet.
use Rattle.std.proofs.Common.{◌≡◌, ◌∙◌, ◌<◌, ◌^◌, Option, None, List, [], ◌∷◌, ◌++◌, length, reverse, refl, ap, sym, subst, append_assoc, append-nil, arith}
use Rattle.command_tables.specs.Calls.{ReplyContent}
use Rattle.model_driver.specs.Logs.{logged}
use Rattle.trace_format.specs.Content.{TraceEvent}
use Rattle.replay_model.specs.Setup.{Setup}
use Rattle.replay_model.specs.Judged.{judged}
use Rattle.replay_model.specs.Direct.{exchanges}
use Rattle.replay_model.specs.Text.{lines, lines_at}
use Rattle.replay_model.proofs.Exchanges.{lines-judge}
use Rattle.chain_model.specs.Gaps.{IsGapped}
use Rattle.session_model.specs.Session.{nothing_kept}
use Rattle.session_model.proofs.Running.{new_stands}
use Rattle.chain_session.specs.declared.kept.Kept.{Kept}
use Rattle.chain_session.specs.Standing.{ShowsOnce, StandsFor}
use Rattle.event_replay.specs.Through.{CanGoOn, GoesThrough, Passage, lines_through}
use Rattle.event_replay.proofs.Lists.{turned}

pub stands_first : (s : Setup) (x : Option Kept) → x ≡ None → StandsFor s x [] []
stands_first s x none = record { kept = nothing_kept; shows = subst (λ o. ShowsOnce s o nothing_kept) (sym none) refl; stands = new_stands s }

-- the events of a trace may come
pub can_start : (s : Setup) (x : Option Kept) (es : List TraceEvent) → x ≡ None → IsGapped (reverse es) → length es < 2 ^ 63 → CanGoOn s x es
can_start s x es none trace few =
    record { before = []; replies = []; stands = stands_first s x none; trace = subst IsGapped (sym (append-nil (reverse es))) trace; few = omega (arith, few) }

-- the lines of more events stand behind those of the first
pub lines_whole : (s : Setup) (before es : List TraceEvent) → lines s (judged s before) ++ lines_through s before es ≡ lines s (judged s (reverse es ++ before))
lines_whole s before [] = append-nil (lines s (judged s before))
lines_whole s before (e ∷ es) =
    sym (append_assoc (lines s (judged s before)) (lines_at s (judged s before) e) (lines_through s (e ∷ before) es))
    ∙ (ap (λ ls. ls ++ lines_through s (e ∷ before) es) (sym (lines-judge s (judged s before) e))
    ∙ (lines_whole s (e ∷ before) es ∙ ap (λ past. lines s (judged s past)) (sym (turned (e ∷ []) es before))))

-- what a new session's events come to: the session stands for them, the drivers' log has gained their calls, and their lines were written
pub record WentThrough (s : Setup) (y : Option Kept) (es : List TraceEvent) (p : Passage) : Type 0 where
  pub replies : List ReplyContent
  pub stands : StandsFor s y (reverse es) replies
  pub log : p.log ≡ logged p.old_log (exchanges (judged s (reverse es)) replies)
  pub wrote : p.lines ≡ p.old_lines ++ lines s (judged s (reverse es))

pub went_through : (s : Setup) (x y : Option Kept) (es : List TraceEvent) (p : Passage) → x ≡ None → IsGapped (reverse es) → GoesThrough s x y es p → WentThrough s y es p
went_through s x y es p none trace goes =
    let st : StandsFor s x [] [] = stands_first s x none in
    let all : IsGapped (reverse es ++ []) = subst IsGapped (sym (append-nil (reverse es))) trace in
    let whole : reverse es ++ [] ≡ reverse es = append-nil (reverse es) in
    record {
      replies = goes.replies ++ [];
      stands = subst (λ past. StandsFor s y past (goes.replies ++ [])) whole (goes.stands [] [] st all);
      log = goes.log ∙ ap (logged p.old_log) (sym (ap (λ past. exchanges (judged s past) (goes.replies ++ [])) (sym whole) ∙ goes.told [] [] st all));
      wrote = goes.wrote [] [] st all ∙ ap (λ ls. p.old_lines ++ ls) (lines_whole s [] es ∙ ap (λ past. lines s (judged s past)) whole);
    }
