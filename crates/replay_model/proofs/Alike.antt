-- Two pasts that say the same of all that driver calls read, and how they stay so.
use Rattle.std.proofs.Common.{◌≡◌, ℕ, Bool, true, false, not, cond, ◌&&◌, ◌||◌, Option, Some, None, List, [], ◌∷◌, ◌++◌, map, refl, sym, ◌∙◌, ap}
use Rattle.std.specs.Prelude.{filter, find}
use Rattle.std.specs.Option.{option_map, option_map_or}
use Rattle.std.proofs.lemmas.List.{map-append, append-nil}
use Rattle.std.proofs.lemmas.List.Elements.{filter-append}
use Rattle.std.proofs.Math.Bool.{and-true}
use Rattle.std.proofs.Math.Path.{fun_ext}
use Rattle.command_tables.specs.declared.types.Effect.{Effect}
use Rattle.command_tables.specs.declared.types.Effect.TheVariants as eff
use Rattle.command_tables.specs.Calls.{ReplyContent}
use Rattle.command_tables.specs.Table.{row_of}
use Rattle.trace_format.specs.Content.{BeginEvent}
use Rattle.object_model.specs.declared.Object.{Object}
use Rattle.object_model.specs.declared.Argument.{Argument}
use Rattle.object_model.specs.History.{Birth, births_given, births, is_born, alive}
use Rattle.replay_model.specs.declared.Born.{Born}
use Rattle.replay_model.specs.Past.{Opened, Began, Returned, Past, is_skipped, is_of, open_calls, named, history, Retrieval, retrieved_by, retrieves, retrievals, routed}
use Rattle.object_model.specs.Findings.{Report}
use Rattle.replay_model.specs.Births.{made_by}
use Rattle.replay_model.specs.Direct.{before_call, own_replies, answers_to, Sent, sent, answers_of, valued, direct, exchanges}
use Rattle.replay_model.specs.Text.{skipped_in}
use Rattle.replay_model.proofs.OpenCalls.{was_sent, sent_not_of, OneEach, opened-sent, skipped_dropped, sent_found, sent_answers}

-- the call with another number
abbrev pub numbered : ℕ → Opened → Opened
numbered n o = record o { number = n }

-- the open call without its number
abbrev pub unnumbered : Sent → Sent
unnumbered c = record c { opened = numbered 0 c.opened }

-- the second past says of all that driver calls read what the first does; its open calls are those of the first that were sent, and none of its calls is skipped
pub record Alike (past fresh : Past) : Type 0 where
  pub names : named fresh ≡ named past
  pub born : births (history fresh) ≡ births (history past)
  pub living : (x : Object) → alive (history fresh) x ≡ alive (history past) x
  pub kept : retrievals fresh ≡ retrievals past
  pub routes : routed fresh ≡ routed past
  pub opens : (replies : List ReplyContent) → map unnumbered (sent fresh replies) ≡ map unnumbered (filter was_sent (sent past replies))
  pub values : (replies : List ReplyContent) → valued fresh replies ≡ valued past replies
  pub calls : (replies : List ReplyContent) → direct fresh replies ≡ direct past replies
  pub told : (replies : List ReplyContent) → exchanges fresh replies ≡ exchanges past replies
  pub skipped : skipped_in fresh ≡ 0

-- ---- nothing made

nothing_born : (before : List Birth) (args : List (List Argument)) (e : Effect) → births_given before args e [] ≡ []
nothing_born before args (eff.Create t owner many) = refl
nothing_born before args (eff.Retrieve t owner many) = refl
nothing_born before args eff.None = refl
nothing_born before args (eff.Destroy p) = refl
nothing_born before args (eff.Free p) = refl
nothing_born before args (eff.Reset p) = refl

nothing_retrieved : (bs : List Birth) (o : Opened) → retrieved_by bs o [] ≡ []
nothing_retrieved bs o = elim (retrieves (row_of o.cmd).effect) as (λ t. cond {A = List Retrieval} t [] [] ≡ []) [ true ↦ refl | false ↦ refl ]

or_nothing : (x b : Bool) → x ≡ x || (not b && b)
or_nothing true b = refl
or_nothing false true = refl
or_nothing false false = refl

-- ---- one step

-- a call that is sent begins on both sides
pub begun-sent : (past fresh : Past) → Alike past fresh → (n : ℕ) (e : BeginEvent) (o : Opened) (r r' : List Report) → is_skipped o ≡ false
    → Alike (Began e o r ∷ past) (Began e (numbered n o) r' ∷ fresh)
begun-sent past fresh a n e o r r' u = record {
  names = a.names;
  born = a.born;
  living = λ x. rw (a.living x, a.born) refl;
  kept = a.kept;
  routes = a.routes;
  opens = λ replies.
      let b = before_call o replies in
      let c : Sent = record { opened = o; answers = answers_to o (own_replies o replies) } in
      map-append unnumbered (sent fresh b) (record { opened = numbered n o; answers = answers_to o (own_replies o replies) } ∷ [])
      ∙ (ap (λ cs. cs ++ unnumbered c ∷ []) (a.opens b)
      ∙ (sym (map-append unnumbered (filter was_sent (sent past b)) (c ∷ []))
      ∙ ap (map unnumbered) (sym (filter-append was_sent (sent past b) (c ∷ []) ∙ ap (λ t. filter was_sent (sent past b) ++ cond (not t) (c ∷ []) []) u))));
  values = λ replies. a.values (before_call o replies);
  calls = λ replies. rw (a.calls (before_call o replies), a.values (before_call o replies)) refl;
  told = λ replies. rw (a.told (before_call o replies), a.values (before_call o replies)) refl;
  skipped = rw (a.skipped, u) refl;
}

-- a skipped call begins on one side alone
pub begun-skipped : (past fresh : Past) → Alike past fresh → (e : BeginEvent) (o : Opened) (r : List Report) → is_skipped o ≡ true → o.drivers ≡ [] → Alike (Began e o r ∷ past) fresh
begun-skipped past fresh a e o r u d = record {
  names = a.names;
  born = a.born;
  living = λ x. rw (u, and-true) (a.living x);
  kept = a.kept;
  routes = a.routes;
  opens = λ replies.
      let b = before_call o replies in
      let c : Sent = record { opened = o; answers = answers_to o (own_replies o replies) } in
      let same : b ≡ replies = rw d refl in
      a.opens replies ∙ (ap (λ r. map unnumbered (filter was_sent (sent past r))) (sym same)
      ∙ ap (map unnumbered) (sym (filter-append was_sent (sent past b) (c ∷ []) ∙ (ap (λ t. filter was_sent (sent past b) ++ cond (not t) (c ∷ []) []) u ∙ append-nil (filter was_sent (sent past b))))));
  values = λ replies. rw d (a.values replies);
  calls = λ replies. rw (d, append-nil) (a.calls replies);
  told = λ replies. rw (d, append-nil) (a.told replies);
  skipped = a.skipped;
}

-- a skipped call returns on one side alone
pub returned-skipped : (past fresh : Past) → Alike past fresh → (o : Opened) → OneEach (open_calls past) → find (is_of o.thread) (open_calls past) ≡ Some o → is_skipped o ≡ true
    → Alike (Returned o [] ∷ past) fresh
returned-skipped past fresh a o one f u = record {
  names = a.names ∙ sym (append-nil (named past));
  born = rw (nothing_born, append-nil) a.born;
  living = λ x. rw (nothing_born, append-nil) (a.living x ∙ or_nothing (alive (history past) x) (is_born (history past) x));
  kept = a.kept ∙ sym (ap (λ rs. retrievals past ++ rs) (nothing_retrieved (births (history past)) o) ∙ append-nil (retrievals past));
  routes = a.routes ∙ sym (append-nil (routed past));
  opens = λ replies.
      let e = opened-sent past replies in
      a.opens replies ∙ ap (map unnumbered) (sym (skipped_dropped o.thread (sent past replies) o (rw e one) (rw e f) u));
  values = λ replies. a.values replies ∙ sym (append-nil (valued past replies));
  calls = a.calls;
  told = a.told;
  skipped = a.skipped;
}

-- dropping a thread's call, and what doesn't read numbers
map_filter : (t : ℕ) (cs : List Sent) → map unnumbered (filter (sent_not_of t) cs) ≡ filter (sent_not_of t) (map unnumbered cs)
map_filter t [] = refl
map_filter t (c ∷ cs) = elim (sent_not_of t c) as (λ u. map unnumbered (cond u (c ∷ filter (sent_not_of t) cs) (filter (sent_not_of t) cs)) ≡ cond u (unnumbered c ∷ filter (sent_not_of t) (map unnumbered cs)) (filter (sent_not_of t) (map unnumbered cs))) [
  | true ↦ ap (λ xs. unnumbered c ∷ xs) (map_filter t cs)
  | false ↦ map_filter t cs
]

-- two tests in either order
filter_both : (p q : Sent → Bool) (cs : List Sent) → filter p (filter q cs) ≡ filter q (filter p cs)
filter_both p q [] = refl
filter_both p q (c ∷ cs) = go (p c) (q c) refl refl (filter_both p q cs)
  where
    go : (x y : Bool) → p c ≡ x → q c ≡ y → filter p (filter q cs) ≡ filter q (filter p cs)
        → filter p (cond (q c) (c ∷ filter q cs) (filter q cs)) ≡ filter q (cond (p c) (c ∷ filter p cs) (filter p cs))
    go true true e f ih = rw (f, e) (rw f (ap (λ xs. c ∷ xs) ih))
    go true false e f ih = rw (f, e) (rw f ih)
    go false true e f ih = rw (f, e) ih
    go false false e f ih = rw (f, e) ih

-- answers are found without numbers
unnumbered_answers : (t : ℕ) (cs : List Sent) → answers_of (map unnumbered cs) t ≡ answers_of cs t
unnumbered_answers t [] = refl
unnumbered_answers t (c ∷ cs) = elim (is_of t c.opened) as (λ u. option_map_or (λ c. c.answers) (cond u (Some (unnumbered c)) (find (λ c. is_of t c.opened) (map unnumbered cs))) [] ≡ option_map_or (λ c. c.answers) (cond u (Some c) (find (λ c. is_of t c.opened) cs)) []) [
  | true ↦ refl
  | false ↦ unnumbered_answers t cs
]

-- what was answered to an open call that was sent is the same on both sides
same_answers : (past fresh : Past) → Alike past fresh → (o : Opened) → find (is_of o.thread) (open_calls past) ≡ Some o → is_skipped o ≡ false → (replies : List ReplyContent)
    → answers_of (sent fresh replies) o.thread ≡ answers_of (sent past replies) o.thread
same_answers past fresh a o f u replies =
    sym (unnumbered_answers o.thread (sent fresh replies)) ∙ (ap (λ cs. answers_of cs o.thread) (a.opens replies)
    ∙ (unnumbered_answers o.thread (filter was_sent (sent past replies)) ∙ sent_answers o.thread (sent past replies) o (rw (opened-sent past replies) f) u))

-- a call that was sent returns on both sides
pub returned-sent : (past fresh : Past) → Alike past fresh → (n : ℕ) (o : Opened) (made : List Born) → find (is_of o.thread) (open_calls past) ≡ Some o → is_skipped o ≡ false
    → Alike (Returned o made ∷ past) (Returned (numbered n o) made ∷ fresh)
returned-sent past fresh a n o made f u = record {
  names = rw a.names refl;
  born = rw a.born refl;
  living = λ x. rw (a.living x, a.born) refl;
  kept = rw (a.kept, a.born) refl;
  routes = rw (a.routes, a.born) refl;
  opens = λ replies.
      map_filter o.thread (sent fresh replies) ∙ (ap (filter (sent_not_of o.thread)) (a.opens replies)
      ∙ (sym (map_filter o.thread (filter was_sent (sent past replies))) ∙ ap (map unnumbered) (filter_both (sent_not_of o.thread) was_sent (sent past replies))));
  values = λ replies. rw (a.values replies, same_answers past fresh a o f u replies) refl;
  calls = a.calls;
  told = a.told;
  skipped = a.skipped;
}

-- the same results are born
pub same_made : (past fresh : Past) → Alike past fresh → (drivers n : ℕ) (o : Opened)
    → made_by drivers (births (history fresh)) (alive (history fresh)) (retrievals fresh) (numbered n o) ≡ made_by drivers (births (history past)) (alive (history past)) (retrievals past) o
same_made past fresh a drivers n o =
    ap (λ bs. made_by drivers bs (alive (history fresh)) (retrievals fresh) o) a.born
    ∙ (ap (λ l. made_by drivers (births (history past)) l (retrievals fresh) o) (fun_ext a.living) ∙ ap (λ ks. made_by drivers (births (history past)) (alive (history past)) ks o) a.kept)

-- the open call of a thread on the other side
pub record Open (os : List Opened) (o : Opened) : Type 0 where
  pub n : ℕ
  pub found : find (is_of o.thread) os ≡ Some (numbered n o)

unnumbered_found : (t : ℕ) (os : List Opened) → find (is_of t) (map (numbered 0) os) ≡ option_map (numbered 0) (find (is_of t) os)
unnumbered_found t [] = refl
unnumbered_found t (o ∷ os) = elim (is_of t o) as (λ u. cond u (Some (numbered 0 o)) (find (is_of t) (map (numbered 0) os)) ≡ option_map (numbered 0) (cond u (Some o) (find (is_of t) os))) [
  | true ↦ refl
  | false ↦ unnumbered_found t os
]

opened_map : (cs : List Sent) → map (λ c. c.opened) (map unnumbered cs) ≡ map (numbered 0) (map (λ c. c.opened) cs)
opened_map [] = refl
opened_map (c ∷ cs) = ap (λ os. numbered 0 c.opened ∷ os) (opened_map cs)

-- it is the same call but for its number
pub open-sent : (past fresh : Past) → Alike past fresh → (o : Opened) → find (is_of o.thread) (open_calls past) ≡ Some o → is_skipped o ≡ false → Open (open_calls fresh) o
open-sent past fresh a o f u = go (find (is_of o.thread) (open_calls fresh)) refl same
  where
    there : map (numbered 0) (open_calls fresh) ≡ map (numbered 0) (map (λ c. c.opened) (filter was_sent (sent past [])))
    there =
        ap (map (numbered 0)) (sym (opened-sent fresh [])) ∙ (sym (opened_map (sent fresh [])) ∙ (ap (map (λ c. c.opened)) (a.opens []) ∙ opened_map (filter was_sent (sent past []))))

    same : option_map (numbered 0) (find (is_of o.thread) (open_calls fresh)) ≡ Some (numbered 0 o)
    same =
        sym (unnumbered_found o.thread (open_calls fresh)) ∙ (ap (find (is_of o.thread)) there
        ∙ (unnumbered_found o.thread (map (λ c. c.opened) (filter was_sent (sent past []))) ∙ ap (option_map (numbered 0)) (sent_found o.thread (sent past []) o (rw (opened-sent past []) f) u)))

    go : (c : Option Opened) → find (is_of o.thread) (open_calls fresh) ≡ c → option_map (numbered 0) (find (is_of o.thread) (open_calls fresh)) ≡ Some (numbered 0 o) → Open (open_calls fresh) o
    go None e s = cc (rw e at s)
    go (Some q) e s =
        let k : Some (numbered 0 q) ≡ Some (numbered 0 o) = rw e at s in
        let l : numbered 0 q ≡ numbered 0 o = cc in
        record { n = q.number; found = e ∙ ap (λ c. Some (numbered q.number c)) l }
