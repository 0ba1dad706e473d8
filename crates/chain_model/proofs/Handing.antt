-- The handles of objects by look-up: what one handle more says, and that look-ups alone count.
use Rattle.std.proofs.Common.{◌≡◌, ℕ, Bool, true, false, cond, Some, None, List, [], ◌∷◌, ◌++◌, map, refl, sym, ◌∙◌, ap}
use Rattle.std.specs.Prelude.{find}
use Rattle.std.specs.Option.{option_map_or}
use Rattle.command_tables.specs.Calls.{ReplyContent}
use Rattle.trace_format.specs.Content.{TraceEvent}
use Rattle.object_model.specs.declared.Object.{Object}
use Rattle.object_model.specs.Objects.{same}
use Rattle.replay_model.specs.declared.Born.{Born}
use Rattle.replay_model.specs.Setup.{Setup}
use Rattle.layer_model.proofs.Same.{same_is, same_sym}
use Rattle.chain_model.specs.Handed.{Handed, hand_all, hand_one, handle_in}
use Rattle.chain_model.specs.Simulated.{ChainKept}
use Rattle.chain_model.specs.Traces.{Simulates}
use Rattle.chain_model.proofs.OneByOne.{values_after}

-- one handle more: the object has it, and every other object has what it had
pub handle_in_one : (o : Object) (h : ℕ) (handed : List Handed) (q : Object) → handle_in (hand_one o h handed) q ≡ cond (same o q) h (handle_in handed q)
handle_in_one o h [] q = go (same o q)
  where
    go : (u : Bool) → option_map_or (λ (x : Handed). x.handle) (cond u (Some (record { object = o; handle = h })) None) 0 ≡ cond u h 0
    go true = refl
    go false = refl
handle_in_one o h (x ∷ handed) q = go (same x.object o) refl (handle_in_one o h handed q)
  where
    go : (u : Bool) → same x.object o ≡ u → handle_in (hand_one o h handed) q ≡ cond (same o q) h (handle_in handed q)
        → handle_in (cond u (record { object = x.object; handle = h } ∷ handed) (x ∷ hand_one o h handed)) q ≡ cond (same o q) h (handle_in (x ∷ handed) q)
    go true e ih = here (same x.object q) (same o q) (ap (λ (y : Object). same y q) (same_is x.object o e))
      where
        here : (u v : Bool) → u ≡ v
            → option_map_or (λ (y : Handed). y.handle) (cond u (Some (record { object = x.object; handle = h })) (find (λ y. same y.object q) handed)) 0
            ≡ cond v h (option_map_or (λ (y : Handed). y.handle) (cond u (Some x) (find (λ y. same y.object q) handed)) 0)
        here true true is = refl
        here false false is = refl
        here true false is = cc is
        here false true is = cc is
    go false e ih = there (same x.object q) refl
      where
        there : (u : Bool) → same x.object q ≡ u
            → option_map_or (λ (y : Handed). y.handle) (cond u (Some x) (find (λ y. same y.object q) (hand_one o h handed))) 0
            ≡ cond (same o q) h (option_map_or (λ (y : Handed). y.handle) (cond u (Some x) (find (λ y. same y.object q) handed)) 0)
        there true is =
            let apart : same o q ≡ false = ap (same o) (sym (same_is x.object q is)) ∙ (sym (same_sym x.object o) ∙ e) in
            ap (λ u. cond u h x.handle) (sym apart)
        there false is = ih

-- handles that say the same go on to say the same
pub hand_one_alike : (a b : List Handed) → ((q : Object) → handle_in a q ≡ handle_in b q) → (o : Object) (h : ℕ) (q : Object) → handle_in (hand_one o h a) q ≡ handle_in (hand_one o h b) q
hand_one_alike a b alike o h q = handle_in_one o h a q ∙ (ap (λ n. cond (same o q) h n) (alike q) ∙ sym (handle_in_one o h b q))

pub hand_all_alike : (a b : List Handed) → ((q : Object) → handle_in a q ≡ handle_in b q) → (made : List Born) (hs : List ℕ) (q : Object) → handle_in (hand_all a made hs) q ≡ handle_in (hand_all b made hs) q
hand_all_alike a b alike [] hs q = alike q
hand_all_alike a b alike (m ∷ made) [] q = alike q
hand_all_alike a b alike (m ∷ made) (h ∷ hs) q = hand_all_alike (hand_one m.object h a) (hand_one m.object h b) (hand_one_alike a b alike m.object h) made hs q

-- the handles after all results, each of which has its own
pub handle_in_all : (val : Born → ℕ) (rest : List ℕ) (made : List Born) (handed : List Handed) (q : Object) → handle_in (hand_all handed made (map val made ++ rest)) q ≡ values_after val (handle_in handed) made q
handle_in_all val rest [] handed q = refl
handle_in_all val rest (b ∷ made) handed q =
    handle_in_all val rest made (hand_one b.object (val b) handed) q
    ∙ ap (λ (f : Object → ℕ). values_after val f made q) (λ i x. handle_in_one b.object (val b) handed x i)

-- what is kept of the chain stands for a trace with any handles that say the same
pub simulates_handed : (s : Setup) (k : ChainKept) (events : List TraceEvent) (replies : List ReplyContent) (handed : List Handed) → Simulates s k events replies → ((o : Object) → handle_in handed o ≡ handle_in k.handed o)
    → Simulates s (record k { handed = handed }) events replies
simulates_handed s k events replies handed st alike = record {
  chain = record {
    guard = st.chain.guard;
    mirror = st.chain.mirror;
    ids = st.chain.ids;
    handed = λ o born. alike o ∙ st.chain.handed o born;
    held = st.chain.held;
    sole = st.chain.sole;
  };
  kinds = st.kinds;
  fits = st.fits;
  routes = st.routes;
  answers = st.answers;
}
