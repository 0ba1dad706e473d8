-- The least of several numbers.
use Rattle.std.proofs.Common.{◌≡◌, ◌<◌, ◌≤◌, ℕ, ◌+◌, ◌-◌, Bool, true, false, cond, not, ◌&&◌, ◌||◌, Option, Some, None, List, [], ◌∷◌, ◌++◌, map, length, drop, take, get_or, refl, sym, ap, ◌∙◌, arith, add-one}
use Rattle.std.proofs.Math.Seq.{drop-cons}
use Rattle.std.proofs.lemmas.List.{drop_all}
use Rattle.std.specs.Prelude.{◌==◌, filter, fold, min}
use Rattle.std.specs.List.{flat_map, list_any}
use Rattle.object_model.specs.Uses.{Use, InUse, clashes, conflicts_in, least}
use Rattle.thread_layer.specs.Kept.{lesser, open_seen, opens_of, use_seen}
use Rattle.thread_layer.specs.declared.object_use.ObjectUse.{ObjectUse}
use Rattle.thread_layer.specs.declared.open_call.OpenCall.{OpenCall}
use Rattle.thread_layer.proofs.Opens.{opens_cut}

min_assoc : (a b c : ℕ) → min (min a b) c ≡ min a (min b c)
min_assoc a b c = omega arith

-- a test of uses as they are kept
pub any_seen : (test : Use → Bool) (us : List ObjectUse) → list_any test (map use_seen us) ≡ list_any (λ u. test (use_seen u)) us
any_seen test [] = refl
any_seen test (u ∷ us) = ap (λ t. test (use_seen u) || t) (any_seen test us)

lesser_assoc : (a b c : Option ℕ) → lesser (lesser a b) c ≡ lesser a (lesser b c)
lesser_assoc None b c = refl
lesser_assoc (Some x) None c = refl
lesser_assoc (Some x) (Some y) None = refl
lesser_assoc (Some x) (Some y) (Some z) = ap Some (min_assoc x y z)

lesser_none : (a : Option ℕ) → lesser a None ≡ a
lesser_none None = refl
lesser_none (Some x) = refl

fold_least : (n : ℕ) (ns : List ℕ) → Some (fold min n ns) ≡ lesser (Some n) (least ns)
fold_least n [] = refl
fold_least n (m ∷ ns) = fold_least (min n m) ns ∙ (lesser_assoc (Some n) (Some m) (least ns) ∙ ap (lesser (Some n)) (sym (fold_least m ns)))

-- the least of a first number and the rest
least_cons : (n : ℕ) (ns : List ℕ) → least (n ∷ ns) ≡ lesser (Some n) (least ns)
least_cons n ns = fold_least n ns

-- the least of two lists
pub least_append : (ns ms : List ℕ) → least (ns ++ ms) ≡ lesser (least ns) (least ms)
least_append [] ms = refl
least_append (n ∷ ns) ms = least_cons n (ns ++ ms) ∙ (ap (lesser (Some n)) (least_append ns ms) ∙ (sym (lesser_assoc (Some n) (least ns) (least ms)) ∙ ap (λ x. lesser x (least ms)) (sym (least_cons n ns))))

-- an open call of another thread with which a use conflicts
abbrev pub is_conflict : ℕ → Use → InUse → Bool
is_conflict thread u c = not (c.thread == thread) && list_any (clashes u) c.uses

-- one open call more, whose uses were read as a part of all
pub open_more : (calls : List OpenCall) (held : List ObjectUse) (i start : ℕ) (d : OpenCall) (thread : ℕ) (u : Use) (now next all : Option ℕ) → i < length calls
    → lesser now (least (conflicts_in (opens_of (drop i calls) (drop start held)) thread u)) ≡ all
    → next ≡ lesser now (cond (is_conflict thread u (open_seen (get_or calls i d) (take (start + (get_or calls i d).count - start) (drop start held)))) (Some (get_or calls i d).number) None)
    → lesser next (least (conflicts_in (opens_of (drop (i + 1) calls) (drop (start + (get_or calls i d).count) held)) thread u)) ≡ all
open_more calls held i start d thread u now next all less is more =
    let c : OpenCall = get_or calls i d in
    let one : InUse = open_seen c (take c.count (drop start held)) in
    let rest : List InUse = opens_of (drop (i + 1) calls) (drop (start + c.count) held) in
    let long : start + c.count - start ≡ c.count = omega arith in
    let added : next ≡ lesser now (cond (is_conflict thread u one) (Some one.number) None)
    = more ∙ ap (λ n. lesser now (cond (is_conflict thread u (open_seen c (take n (drop start held)))) (Some c.number) None)) long in
    ap (λ x. lesser x (least (conflicts_in rest thread u))) added
    ∙ (lesser_assoc now (cond (is_conflict thread u one) (Some one.number) None) (least (conflicts_in rest thread u))
    ∙ (ap (lesser now) (step one rest) ∙ (ap (λ (os : List InUse). lesser now (least (conflicts_in os thread u))) (sym (opens_cut calls held i start d less)) ∙ is)))
  where
    step : (c : InUse) (rest : List InUse) → lesser (cond (is_conflict thread u c) (Some c.number) None) (least (conflicts_in rest thread u)) ≡ least (conflicts_in (c ∷ rest) thread u)
    step c rest = go (is_conflict thread u c)
      where
        go : (t : Bool) → lesser (cond t (Some c.number) None) (least (conflicts_in rest thread u)) ≡ least (map (λ (x : InUse). x.number) (cond t (c ∷ filter (is_conflict thread u) rest) (filter (is_conflict thread u) rest)))
        go true = sym (least_cons c.number (conflicts_in rest thread u))
        go false = refl

-- past all open calls nothing is left
pub opens_end : (calls : List OpenCall) (held : List ObjectUse) (i start thread : ℕ) (u : Use) (now : Option ℕ) → length calls ≤ i → lesser now (least (conflicts_in (opens_of (drop i calls) (drop start held)) thread u)) ≡ now
opens_end calls held i start thread u now low = ap (λ (cs : List OpenCall). lesser now (least (conflicts_in (opens_of cs (drop start held)) thread u))) (drop_all i calls low) ∙ lesser_none now

-- one use more
pub use_more : (opens : List InUse) (thread : ℕ) (uses : List ObjectUse) (i : ℕ) (d : ObjectUse) (now next all : Option ℕ) → i < length uses
    → lesser now (least (flat_map (conflicts_in opens thread) (map use_seen (drop i uses)))) ≡ all
    → next ≡ lesser now (least (conflicts_in opens thread (use_seen (get_or uses i d))))
    → lesser next (least (flat_map (conflicts_in opens thread) (map use_seen (drop (i + 1) uses)))) ≡ all
use_more opens thread uses i d now next all less is more =
    ap (λ x. lesser x (least (flat_map (conflicts_in opens thread) (map use_seen (drop (i + 1) uses))))) more
    ∙ (lesser_assoc now (least (conflicts_in opens thread (use_seen (get_or uses i d)))) (least (flat_map (conflicts_in opens thread) (map use_seen (drop (i + 1) uses))))
    ∙ (ap (lesser now) (sym (least_append (conflicts_in opens thread (use_seen (get_or uses i d))) (flat_map (conflicts_in opens thread) (map use_seen (drop (i + 1) uses)))))
    ∙ (ap (λ n. lesser now (least (flat_map (conflicts_in opens thread) (map use_seen (get_or uses i d ∷ drop n uses))))) (add-one i)
    ∙ (ap (λ (us : List ObjectUse). lesser now (least (flat_map (conflicts_in opens thread) (map use_seen us)))) (sym (drop-cons uses i d less)) ∙ is))))

-- past all uses nothing is left
pub uses_end : (opens : List InUse) (thread : ℕ) (uses : List ObjectUse) (i : ℕ) (now : Option ℕ) → length uses ≤ i → lesser now (least (flat_map (conflicts_in opens thread) (map use_seen (drop i uses)))) ≡ now
uses_end opens thread uses i now low = ap (λ (us : List ObjectUse). lesser now (least (flat_map (conflicts_in opens thread) (map use_seen us)))) (drop_all i uses low) ∙ lesser_none now
