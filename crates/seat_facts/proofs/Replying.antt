-- The replies that all entries say, by the calls that were made.
use Rattle.std.proofs.Common.{◌≡◌, ◌∙◌, ◌==◌, ℕ, Bool, true, false, cond, not, ◌&&◌, Option, List, [], ◌∷◌, ◌++◌, length, take, drop, refl, sym, ap, append-nil, append_assoc}
use Rattle.std.specs.Prelude.{reverse}
use Rattle.std.proofs.lemmas.Bool.{eqb-true}
use Rattle.std.proofs.lemmas.List.{reverse-append}
use Rattle.command_tables.specs.Calls.{ReplyContent}
use Rattle.trace_format.specs.declared.event.Name.{Name}
use Rattle.chain_session.specs.declared.kept.Kept.{Kept}
use Rattle.stream_model.specs.FileLines.{FileLine}
use Rattle.stream_model.specs.FileParts.{StreamPart, parts}
use Rattle.stream_model.specs.Plans.{next_turn}
use Rattle.merge_model.proofs.InTurn.{reverse_onto}
use Rattle.log_merge.specs.Merged.{NumberedLine}
use Rattle.merge_facts.specs.Logged.{lines_between}
use Rattle.shard_model.specs.Replies.{handles_of}
use Rattle.device_shard.specs.Lanes.{replies_read}
use Rattle.stream_merge.specs.Gathered.{begun_by_thread, code_of_event, next_results, replies_behind, reply_at, turns_taken, was_sent}
use Rattle.stream_workers.specs.Calls.{MadeCall}
use Rattle.stream_run.specs.Gathering.{lines_of}
use Rattle.stream_run.specs.Running.{marks_of}
use Rattle.seat_facts.proofs.Steps.{BeginStep, Step, begun_here, returned_here, threads_in}
use Rattle.seat_facts.proofs.Threads.{sent_marked}

-- the replies to the calls that begin in the entries behind, newest first, and then these
abbrev pub replies_back : List StreamPart → List (List Bool) → List ReplyContent → List NumberedLine → List NumberedLine → List ReplyContent
replies_back streams marks first [] rest = first
replies_back streams marks first (x ∷ back) rest = reply_at streams marks (lines_of back) x.line (lines_of rest) ++ replies_back streams marks first back (x ∷ rest)

-- those to the last call of a thread that begins in a log: these where there is none
abbrev pub last_told : List StreamPart → List (List Bool) → List ReplyContent → ℕ → ℕ → List NumberedLine → List NumberedLine → List ReplyContent
last_told streams marks own n t [] rest = own
last_told streams marks own n t (x ∷ back) rest =
    cond (x.line.thread == t)
    (cond (x.log == n) (cond x.line.begins (reply_at streams marks (lines_of back) x.line (lines_of rest)) (last_told streams marks own n t back (x ∷ rest))) (last_told streams marks own n t back (x ∷ rest)))
    (last_told streams marks own n t back (x ∷ rest))

turns_same : (back : List NumberedLine) → turns_taken (lines_of back) ≡ threads_in back
turns_same [] = refl
turns_same (x ∷ back) = ap (λ (ts : List ℕ). x.line.thread ∷ ts) (turns_same back)

same_reply : (a b : ReplyContent) → a.code ≡ b.code → a.handles ≡ b.handles → a ≡ b
same_reply a b code handles = λ i. record { code = code i; handles = handles i }

-- ---- a list of at most one reply

pub drops_own : (skip : Bool) (reply : ReplyContent) (before : List ReplyContent) → drop (length (replies_read skip reply)) (replies_read skip reply ++ before) ≡ before
drops_own true reply before = refl
drops_own false reply before = refl

pub takes_own : (skip : Bool) (reply : ReplyContent) (before : List ReplyContent) → take (length (replies_read skip reply)) (replies_read skip reply ++ before) ≡ replies_read skip reply
takes_own true reply before = refl
takes_own false reply before = refl

pub turns_own : (skip : Bool) (reply : ReplyContent) → reverse (replies_read skip reply) ≡ replies_read skip reply
turns_own true reply = refl
turns_own false reply = refl

-- ---- one reply

module _ (k : Option Kept) (lines : List FileLine) (devices : List Name) (made : List (List MadeCall)) where
  -- what is replied to a call by its begin's entry
  abbrev replied_at : List NumberedLine → List NumberedLine → NumberedLine → List ReplyContent
  replied_at back rest x = reply_at (parts lines).streams (marks_of made) (lines_of back) x.line (lines_of rest)

  abbrev found_at : List NumberedLine → List NumberedLine → NumberedLine → ReplyContent
  found_at back rest x = record { code = code_of_event (next_turn (parts lines).streams x.line.thread (turns_taken (lines_of back))); handles = next_results x.line.thread (lines_of rest) }

  module _ (back rest : List NumberedLine) (x : NumberedLine) (m : MadeCall) (st : BeginStep k lines devices made back rest x m) where
    reply_is : replied_at back rest x ≡ cond (not m.begun.skip) (found_at back rest x ∷ []) []
    reply_is =
        ap (λ (u : Bool). cond u (found_at back rest x ∷ []) [])
        (ap (λ (u : Bool). u && was_sent (parts lines).streams (marks_of made) x.line.thread (begun_by_thread x.line.thread (lines_of back))) st.begins_is
        ∙ sent_marked (parts lines).streams made x.line.thread (begun_by_thread x.line.thread (lines_of back)) m st.place)

    pub reply_begun : (m.begun.skip ≡ false → m.reply.code ≡ m.begun.begin.code) → reply_at (parts lines).streams (marks_of made) (lines_of back) x.line (lines_of rest) ≡ replies_read m.begun.skip m.reply
    reply_begun code = reply_is ∙ go m.begun.skip refl
      where
        go : (u : Bool) → m.begun.skip ≡ u → cond (not u) (found_at back rest x ∷ []) [] ≡ replies_read u m.reply
        go true skip = refl
        go false skip =
            ap (λ (r : ReplyContent). r ∷ [])
            (same_reply (found_at back rest x) m.reply
            (ap (λ (ts : List ℕ). code_of_event (next_turn (parts lines).streams x.line.thread ts)) (turns_same back) ∙ (ap code_of_event st.next ∙ sym (code skip)))
            (st.results ∙ ap (λ (v : Bool). cond v [] m.reply.handles) skip))

    reply_handles : handles_of (replied_at back rest x) ≡ next_results x.line.thread (lines_of rest)
    reply_handles = ap handles_of reply_is ∙ go m.begun.skip refl
      where
        go : (u : Bool) → m.begun.skip ≡ u → handles_of (cond (not u) (found_at back rest x ∷ []) []) ≡ next_results x.line.thread (lines_of rest)
        go true skip = sym (st.results ∙ ap (λ (v : Bool). cond v [] m.reply.handles) skip)
        go false skip = append-nil (next_results x.line.thread (lines_of rest))

  pub reply_none : (back rest : List NumberedLine) (x : NumberedLine) → x.line.begins ≡ false → reply_at (parts lines).streams (marks_of made) (lines_of back) x.line (lines_of rest) ≡ []
  reply_none back rest x ends =
      ap (λ (u : Bool). cond (u && was_sent (parts lines).streams (marks_of made) x.line.thread (begun_by_thread x.line.thread (lines_of back))) (found_at back rest x ∷ []) []) ends

  -- ---- the reply to an open call

  handles_there : (back rest : List NumberedLine) (x : NumberedLine) → Step k lines devices made back rest x → x.line.begins ≡ true → handles_of (replied_at back rest x) ≡ next_results x.line.thread (lines_of rest)
  handles_there back rest x (begun_here m st) begun = reply_handles back rest x m st
  handles_there back rest x (returned_here st) begun = let bad : true ≡ false = sym begun ∙ st.ends in cc bad

  module _ (merged : List NumberedLine) (steps : (back rest : List NumberedLine) (x : NumberedLine) → merged ≡ reverse back ++ x ∷ rest → Step k lines devices made back rest x) where
    pub last_open : (own : List ReplyContent) (n t : ℕ) (back rest : List NumberedLine) (f : NumberedLine) (others : List NumberedLine) → merged ≡ reverse back ++ rest → lines_between t back ≡ f ∷ others → (f.log == n) ≡ true → f.line.begins ≡ true
        → handles_of (last_told (parts lines).streams (marks_of made) own n t back rest) ≡ next_results t (lines_of rest)
    last_open own n t [] rest f others is behind log begun = cc behind
    last_open own n t (y ∷ back) rest f others is behind log begun = go (y.line.thread == t) refl behind (λ h. last_open own n t back (y ∷ rest) f others at h log begun)
      where
        at : merged ≡ reverse back ++ y ∷ rest
        at = is ∙ reverse_onto y back rest

        go : (u : Bool) → (y.line.thread == t) ≡ u → cond u (y ∷ lines_between t back) (lines_between t back) ≡ f ∷ others
            → (lines_between t back ≡ f ∷ others → handles_of (last_told (parts lines).streams (marks_of made) own n t back (y ∷ rest)) ≡ next_results t (lines_of (y ∷ rest)))
            → handles_of (cond u (cond (y.log == n) (cond y.line.begins (replied_at back rest y) (last_told (parts lines).streams (marks_of made) own n t back (y ∷ rest))) (last_told (parts lines).streams (marks_of made) own n t back (y ∷ rest)))
            (last_told (parts lines).streams (marks_of made) own n t back (y ∷ rest)))
            ≡ next_results t (lines_of rest)
        go true same h more =
            let one : y ≡ f = cc in
            let begins : y.line.begins ≡ true = ap (λ (z : NumberedLine). z.line.begins) one ∙ begun in
            ap handles_of
            (ap (λ (v : Bool). cond v (cond y.line.begins (replied_at back rest y) (last_told (parts lines).streams (marks_of made) own n t back (y ∷ rest))) (last_told (parts lines).streams (marks_of made) own n t back (y ∷ rest)))
            (ap (λ (z : NumberedLine). z.log == n) one ∙ log)
            ∙ ap (λ (v : Bool). cond v (replied_at back rest y) (last_told (parts lines).streams (marks_of made) own n t back (y ∷ rest))) begins)
            ∙ (handles_there back rest y (steps back rest y at) begins ∙ ap (λ (v : ℕ). next_results v (lines_of rest)) (eqb-true y.line.thread t same))
        go false other h more = more h ∙ ap (λ (v : Bool). cond v (cond y.line.begins [] y.line.results) (next_results t (lines_of rest))) other

-- ---- all replies

one_turned : (u : Bool) (r : ReplyContent) → reverse (cond u (r ∷ []) []) ≡ cond u (r ∷ []) []
one_turned true r = refl
one_turned false r = refl

pub replies_turned : (streams : List StreamPart) (marks : List (List Bool)) (first : List ReplyContent) (back rest : List NumberedLine)
    → reverse (replies_behind streams marks (lines_of back) (lines_of rest)) ++ replies_back streams marks first back rest ≡ replies_back streams marks first (reverse rest ++ back) []
replies_turned streams marks first back [] = refl
replies_turned streams marks first back (x ∷ rest) =
    ap (λ (rs : List ReplyContent). rs ++ replies_back streams marks first back (x ∷ rest)) (reverse-append (reply_at streams marks (lines_of back) x.line (lines_of rest)) (replies_behind streams marks (lines_of (x ∷ back)) (lines_of rest)))
    ∙ (append_assoc (reverse (replies_behind streams marks (lines_of (x ∷ back)) (lines_of rest))) (reverse (reply_at streams marks (lines_of back) x.line (lines_of rest))) (replies_back streams marks first back (x ∷ rest))
    ∙ (ap (λ (rs : List ReplyContent). reverse (replies_behind streams marks (lines_of (x ∷ back)) (lines_of rest)) ++ (rs ++ replies_back streams marks first back (x ∷ rest)))
    (one_turned (x.line.begins && was_sent streams marks x.line.thread (begun_by_thread x.line.thread (lines_of back)))
    (record { code = code_of_event (next_turn streams x.line.thread (turns_taken (lines_of back))); handles = next_results x.line.thread (lines_of rest) }))
    ∙ (replies_turned streams marks first (x ∷ back) rest ∙ ap (λ (xs : List NumberedLine). replies_back streams marks first xs []) (sym (reverse_onto x rest back)))))
