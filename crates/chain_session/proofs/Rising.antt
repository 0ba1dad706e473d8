-- The results of an open call come up.
use Rattle.std.proofs.Common.{◌≡◌, ◌∙◌, ℕ, Bool, true, false, cond, List, [], ◌∷◌, length, map, take, refl, ap, sym, subst}
use Rattle.std.proofs.lemmas.List.{length-take-le}
use Rattle.std.specs.List.{zip}
use Rattle.command_tables.specs.Calls.{CallContent, ReplyContent, call_content}
use Rattle.command_tables.specs.Effects.{type_made}
use Rattle.command_tables.specs.Table.{row_of}
use Rattle.command_tables.specs.declared.types.CommandId.{CommandId}
use Rattle.object_model.specs.declared.Object.{Object}
use Rattle.object_model.specs.declared.Routed.{Routed}
use Rattle.object_model.specs.Values.{Value}
use Rattle.replay_model.specs.declared.Born.{Born}
use Rattle.replay_model.specs.Past.{is_skipped}
use Rattle.model_driver.specs.Driver.{reply_shown}
use Rattle.model_driver.specs.declared.driver.DriverReply.{DriverReply}
use Rattle.layer_model.specs.Ids.{IssuedAll}
use Rattle.layer_model.specs.Parts.{there}
use Rattle.layer_model.specs.Routes.{routes_then}
use Rattle.layer_model.specs.Terminator.{Terminator, terminator_leave}
use Rattle.layer_model.specs.Walks.{PartState, is_guarded, leave_parts}
use Rattle.chain_model.specs.Handed.{Handed, hand_all, handle_in}
use Rattle.chain_model.specs.Simulated.{ChainKept, after_skipped, base_of, born_flags, fresh_of}
use Rattle.chain_model.specs.Traces.{starts_chain}
use Rattle.chain_model.proofs.Simulating.{fresh_kinds}
use Rattle.terminator.specs.Calls.{TerminatorState, answered, born_where, drivers_for, left_by, routes_left}
use Rattle.dispatch_chain.specs.Holding.{HeldCalls, IsHeldOf}
use Rattle.dispatch_chain.specs.Seats.{kinds_of}
use Rattle.session_model.specs.Steps.{ComeUpApart}
use Rattle.session_parts.specs.Leaving.{KeepsChain, MayRise, chain_at}
use Rattle.chain_session.specs.declared.call.OpenCall.{OpenCall}
use Rattle.chain_session.specs.Opened.{opened_of, sent_of}
use Rattle.chain_session.specs.Raising.{HasAnswers, MayGoUp, MayRaise, chain_raised, chain_sent, forms_due, held_at, left_at, left_where, lost_of, routes_at, states_due}
use Rattle.chain_session.specs.Shown.{kinds_chained}

-- ---- the terminator

zip_front : (ds : List ℕ) (rs : List DriverReply) → zip ds (map reply_shown (take (length ds) rs)) ≡ zip ds (map reply_shown rs)
zip_front [] [] = refl
zip_front [] (r ∷ rs) = refl
zip_front (d ∷ ds) [] = refl
zip_front (d ∷ ds) (r ∷ rs) = ap (λ xs. (d, reply_shown r) ∷ xs) (zip_front ds rs)

-- the replies of the drivers, one for each
pub count_so : (t : TerminatorState) (c : OpenCall) → HasAnswers t c → length (take (length c.drivers.items) c.replies.items) ≡ length (drivers_for t (call_content c.bottom))
count_so t c h = length-take-le (length c.drivers.items) c.replies.items h.replies ∙ ap (λ (ds : List ℕ). length ds) (sym h.drivers)

answers_so : (t : TerminatorState) (c : OpenCall) → HasAnswers t c → answered (drivers_for t (call_content c.bottom)) (map reply_shown (take (length c.drivers.items) c.replies.items)) ≡ (sent_of c).answers
answers_so t c h =
    ap (λ ds. answered ds (map reply_shown (take (length c.drivers.items) c.replies.items))) h.drivers
    ∙ ap (map (λ (x : ℕ × ReplyContent). record { driver = x.0; handles = x.1.handles })) (zip_front c.drivers.items c.replies.items)

pub left_so : (t : TerminatorState) (c : OpenCall) (replies : List DriverReply) (flags : List ℕ) (all : IssuedAll (List Value)) → HasAnswers t c → replies ≡ take (length c.drivers.items) c.replies.items
    → all ≡ left_by t (call_content c.bottom) (map reply_shown replies) flags → all ≡ left_where t c (born_where flags)
left_so t c replies flags all h e g =
    g ∙ (ap (λ rs. left_by t (call_content c.bottom) (map reply_shown rs) flags) e
    ∙ ap (λ xs. terminator_leave t.ids (call_content c.bottom) xs (born_where flags)) (answers_so t c h))

pub routes_so : (t : TerminatorState) (c : OpenCall) (results : List ℕ) (routes : List Routed) → HasAnswers t c → routes ≡ routes_left t (call_content c.bottom) results → routes ≡ routes_at t c results
routes_so t c results routes h f =
    f ∙ (ap (λ (x : CommandId). routes_then t.routes x (drivers_for t (call_content c.bottom)) (type_made (row_of x).effect) results) h.cmd
    ∙ ap (λ ds. routes_then t.routes c.cmd ds (type_made (row_of c.cmd).effect) results) h.drivers)

-- ---- the parts

-- what comes up below the parts
pub below_so : (t : TerminatorState) (ids : Terminator) (c : OpenCall) (made : List Born) (flags : List ℕ) (below : List ℕ) → born_where flags ≡ born_flags made (lost_of c made) → record { results = below; ids = ids } ≡ left_where t c (born_where flags)
    → below ≡ (left_at t c made).results
below_so t ids c made flags below born left = ap (λ (x : IssuedAll (List Value)). x.results) left ∙ ap (λ bs. (left_where t c bs).results) born

-- what is kept then
pub sent_so : (states after : List PartState) (t u : TerminatorState) (handed more : List Handed) (c : OpenCall) (forms : List CallContent) (made : List Born) (flags below above : List ℕ)
    → born_where flags ≡ born_flags made (lost_of c made) → record { results = below; ids = u.ids } ≡ left_where t c (born_where flags) → u.routes ≡ routes_at t c below
    → after ≡ (leave_parts c.thread states forms below).states → above ≡ (leave_parts c.thread states forms below).results → ((q : Object) → handle_in more q ≡ handle_in (hand_all handed made above) q)
    → KeepsChain after u more (chain_sent (chain_at states t handed) c forms made)
sent_so states after t u handed more c forms made flags below above born left routes stand up hands =
    let all : IssuedAll (List Value) = left_at t c made in
    let same : below ≡ (left_at t c made).results = below_so t u.ids c made flags below born left in
    let chain : List PartState → Terminator → List Routed → List Handed → ChainKept = λ ss m rs hs. record { states = ss; terminator = m; routes = rs; handed = hs; held = [] } in
    record {
      chain = ap (λ ss. chain ss u.ids u.routes more) (stand ∙ ap (λ rs. (leave_parts c.thread states forms rs).states) same)
          ∙ (ap (λ m. chain (leave_parts c.thread states forms (left_at t c made).results).states m u.routes more) (ap (λ (x : IssuedAll (List Value)). x.ids) left ∙ ap (λ bs. (left_where t c bs).ids) born)
          ∙ ap (λ rs. chain (leave_parts c.thread states forms (left_at t c made).results).states (left_at t c made).ids rs more) (routes ∙ ap (routes_at t c) same));
      handed = λ q. hands q ∙ ap (λ rs. handle_in (hand_all handed made rs) q) (up ∙ ap (λ rs. (leave_parts c.thread states forms rs).results) same);
    }

-- ---- a skipped call

pub skipped_raised : (states after : List PartState) (t : TerminatorState) (handed : List Handed) (c : OpenCall) (forms : List CallContent) (made : List Born) → is_skipped (opened_of c) ≡ true
    → after ≡ (leave_parts c.thread states forms (map (λ _. 0) (lost_of c made))).states → KeepsChain after t handed (chain_raised (chain_at states t handed) c forms made)
skipped_raised states after t handed c forms made skipped stand =
    subst (λ b. KeepsChain after t handed (cond b (after_skipped (chain_at states t handed) (opened_of c) (held_at c forms) (lost_of c made)) (chain_sent (chain_at (states_due states c) t handed) c (forms_due c forms) made))) (sym skipped)
    (record { chain = ap (λ ss. chain_at ss t handed) stand; handed = λ q. refl })

-- ---- a call that was sent

-- the forms that a call has above new parts
abbrev pub new_forms : OpenCall → List CallContent
new_forms c = map (λ _. base_of (opened_of c)) (kinds_chained c.chain)

-- new parts, which the call has come through
abbrev pub new_parts : OpenCall → List PartState
new_parts c = map (fresh_of (opened_of c)) (kinds_chained c.chain)

raised_is : (states : List PartState) (t : TerminatorState) (handed : List Handed) (c : OpenCall) (forms : List CallContent) (made : List Born) → is_skipped (opened_of c) ≡ false
    → chain_raised (chain_at states t handed) c forms made ≡ chain_sent (chain_at (states_due states c) t handed) c (forms_due c forms) made
raised_is states t handed c forms made goes =
    ap (λ b. cond b (after_skipped (chain_at states t handed) (opened_of c) (held_at c forms) (lost_of c made)) (chain_sent (chain_at (states_due states c) t handed) c (forms_due c forms) made)) goes

due_states : (u : Bool) (states : List PartState) (c : OpenCall) → starts_chain (opened_of c) ≡ u → states_due states c ≡ cond u (new_parts c) states
due_states u states c e = ap (λ b. cond b (new_parts c) states) e

due_forms : (u : Bool) (c : OpenCall) (forms : List CallContent) → starts_chain (opened_of c) ≡ u → forms_due c forms ≡ cond u (new_forms c) forms
due_forms u c forms e = ap (λ b. cond b (new_forms c) forms) e

-- a new chain's parts hold the call
held_new : (mid : List PartState) (c : OpenCall) (held : HeldCalls) → mid ≡ new_parts c → IsHeldOf held (kinds_chained c.chain) (new_forms c) → IsHeldOf held (kinds_of mid) (new_forms c)
held_new mid c held e h = subst (λ ks. IsHeldOf held ks (new_forms c)) (sym (ap kinds_of e ∙ fresh_kinds (opened_of c) (kinds_chained c.chain))) h

pub started_rise : (states mid : List PartState) (t : TerminatorState) (c : OpenCall) (made : List Born) (held : HeldCalls) → MayRaise states t c made → is_skipped (opened_of c) ≡ false → starts_chain (opened_of c) ≡ true → mid ≡ new_parts c
    → IsHeldOf held (kinds_chained c.chain) (new_forms c) → MayRise c.thread mid held (left_at t c made).results
started_rise states mid t c made held may goes starts e h =
    let up : MayGoUp states t c may.forms made = may.goes goes in
    let there : states_due states c ≡ mid = due_states true states c starts ∙ sym e in
    let form : forms_due c may.forms ≡ new_forms c = due_forms true c may.forms starts in
    record {
      forms = new_forms c;
      holds = held_new mid c held e h;
      whole = ap (λ (fs : List CallContent). length fs) (sym form) ∙ (up.whole ∙ ap (λ (ss : List PartState). length ss) there);
      apart = subst (λ ss. ComeUpApart c.thread ss (new_forms c) (left_at t c made).results) there (subst (λ fs. ComeUpApart c.thread (states_due states c) fs (left_at t c made).results) form up.apart);
    }

pub started_guard : (states mid : List PartState) (t : TerminatorState) (c : OpenCall) (made : List Born) → MayRaise states t c made → is_skipped (opened_of c) ≡ false → starts_chain (opened_of c) ≡ true → mid ≡ new_parts c → is_guarded mid ≡ true
started_guard states mid t c made may goes starts e = ap is_guarded (e ∙ sym (due_states true states c starts)) ∙ (may.goes goes).guarded

pub started_raised : (states mid after : List PartState) (t u : TerminatorState) (handed more : List Handed) (c : OpenCall) (forms : List CallContent) (made : List Born) (held : HeldCalls) → is_skipped (opened_of c) ≡ false → starts_chain (opened_of c) ≡ true
    → mid ≡ new_parts c → IsHeldOf held (kinds_chained c.chain) (new_forms c)
    → ((fs : List CallContent) → IsHeldOf held (kinds_of mid) fs → KeepsChain after u more (chain_sent (chain_at mid t handed) c fs made)) → KeepsChain after u more (chain_raised (chain_at states t handed) c forms made)
started_raised states mid after t u handed more c forms made held goes starts e h sent =
    subst (KeepsChain after u more)
    (ap (λ ss. chain_sent (chain_at ss t handed) c (new_forms c) made) (e ∙ sym (due_states true states c starts))
    ∙ (ap (λ fs. chain_sent (chain_at (states_due states c) t handed) c fs made) (sym (due_forms true c forms starts)) ∙ sym (raised_is states t handed c forms made goes)))
    (sent (new_forms c) (held_new mid c held e h))

pub sent_rise : (states : List PartState) (t : TerminatorState) (c : OpenCall) (made : List Born) → MayRaise states t c made → is_skipped (opened_of c) ≡ false → starts_chain (opened_of c) ≡ false → MayRise c.thread states c.held (left_at t c made).results
sent_rise states t c made may goes starts =
    let up : MayGoUp states t c may.forms made = may.goes goes in
    let there : states_due states c ≡ states = due_states false states c starts in
    let form : forms_due c may.forms ≡ may.forms = due_forms false c may.forms starts in
    record {
      forms = may.forms;
      holds = may.holds;
      whole = ap (λ (fs : List CallContent). length fs) (sym form) ∙ (up.whole ∙ ap (λ (ss : List PartState). length ss) there);
      apart = subst (λ ss. ComeUpApart c.thread ss may.forms (left_at t c made).results) there (subst (λ fs. ComeUpApart c.thread (states_due states c) fs (left_at t c made).results) form up.apart);
    }

pub sent_raised : (states after : List PartState) (t u : TerminatorState) (handed more : List Handed) (c : OpenCall) (forms : List CallContent) (made : List Born) → is_skipped (opened_of c) ≡ false → starts_chain (opened_of c) ≡ false
    → KeepsChain after u more (chain_sent (chain_at states t handed) c forms made) → KeepsChain after u more (chain_raised (chain_at states t handed) c forms made)
sent_raised states after t u handed more c forms made goes starts sent =
    subst (KeepsChain after u more)
    (ap (λ ss. chain_sent (chain_at ss t handed) c forms made) (sym (due_states false states c starts))
    ∙ (ap (λ fs. chain_sent (chain_at (states_due states c) t handed) c fs made) (sym (due_forms false c forms starts)) ∙ sym (raised_is states t handed c forms made goes)))
    sent
