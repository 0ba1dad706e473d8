-- What events give, each of which may come after those before it.
use Rattle.std.proofs.Common.{◌≡◌, ℕ, Bool, true, false, not, ◌&&◌, Option, Some, None, List, [], ◌∷◌, refl, ◌∙◌}
use Rattle.std.specs.Prelude.{find}
use Rattle.std.specs.List.{list_all}
use Rattle.command_tables.specs.Table.{row_of}
use Rattle.trace_format.specs.Accepting.{breaks_instance, is_known, is_of_type, is_open, names_used}
use Rattle.trace_format.specs.Content.{TraceEvent, BeginEvent, Begin, Return}
use Rattle.replay_model.specs.Setup.{Setup}
use Rattle.replay_model.specs.Past.{Opened, is_of, open_calls}
use Rattle.replay_model.specs.Judged.{judged}
use Rattle.replay_model.proofs.Accepted.{BeginsIdle, has_call, open-threads}
use Rattle.layer_model.proofs.Same.{and_true}
use Rattle.chain_model.specs.Gaps.{are_new, may_all_come, may_come}

five_hold : (a b c d e : Bool) → (not a && (b && (c && (d && not e)))) ≡ true → (a ≡ false) × (c ≡ true) × (d ≡ true) × (e ≡ false)
five_hold false true true true false is = (refl, refl, refl, refl)
five_hold true b c d e is = cc is
five_hold false false c d e is = cc is
five_hold false true false d e is = cc is
five_hold false true true false e is = cc is
five_hold false true true true true is = cc is

five : (before : List TraceEvent) (b : BeginEvent) → may_come before (Begin b) ≡ true
    → (is_open b.thread before ≡ false) × (list_all (is_of_type before) (names_used (row_of b.cmd).params b.args) ≡ true) × (are_new before b.results ≡ true) × (breaks_instance before (Begin b) ≡ false)
five before b is =
    five_hold (is_open b.thread before) (list_all (is_known before) (names_used (row_of b.cmd).params b.args)) (list_all (is_of_type before) (names_used (row_of b.cmd).params b.args)) (are_new before b.results) (breaks_instance before (Begin b)) is

-- the names of a begin have their types, and its results are new
pub begins_well : (before : List TraceEvent) (b : BeginEvent) → may_come before (Begin b) ≡ true → (list_all (is_of_type before) (names_used (row_of b.cmd).params b.args) ≡ true) × (are_new before b.results ≡ true)
begins_well before b is = let f = five before b is in (f.1, f.2)

-- it breaks into no creation
pub no_break : (before : List TraceEvent) (b : BeginEvent) → may_come before (Begin b) ≡ true → breaks_instance before (Begin b) ≡ false
no_break before b is = (five before b is).3

-- nor does a return
pub no_break_return : (before : List TraceEvent) (thread : ℕ) → may_come before (Return thread) ≡ true → breaks_instance before (Return thread) ≡ false
no_break_return before thread is = flip (breaks_instance before (Return thread)) (and_true (is_open thread before) (not (breaks_instance before (Return thread))) is).1
  where
    flip : (u : Bool) → not u ≡ true → u ≡ false
    flip false e = refl
    flip true e = cc e

-- at a return the thread has an open call
pub open_at_return : (before : List TraceEvent) (thread : ℕ) → may_come before (Return thread) ≡ true → is_open thread before ≡ true
open_at_return before thread is = (and_true (is_open thread before) (not (breaks_instance before (Return thread))) is).0

no_call : (t : ℕ) (os : List Opened) → has_call t os ≡ false → find (is_of t) os ≡ None
no_call t os n = go (find (is_of t) os) refl
  where
    go : (c : Option Opened) → find (is_of t) os ≡ c → find (is_of t) os ≡ None
    go None f = f
    go (Some o) f = cc (rw f at n)

-- at every begin the thread has none
pub begins_idle : (s : Setup) (events : List TraceEvent) → may_all_come events ≡ true → BeginsIdle s events
begins_idle s [] a = tt
begins_idle s (Begin e ∷ before) a =
    let k = and_true (may_all_come before) (may_come before (Begin e)) a in
    (no_call e.thread (open_calls (judged s before)) (open-threads s before e.thread ∙ (five before e k.1).0), begins_idle s before k.0)
begins_idle s (Return t ∷ before) a = begins_idle s before (and_true (may_all_come before) (may_come before (Return t)) a).0
