-- The values that drivers answered for what is on a device, and what was answered to its open calls: the same behind all events as behind the device's own.
use Rattle.std.proofs.Common.{◌≡◌, ◌∙◌, ◌==◌, ◌+◌, ◌≤◌, ℕ, zero, suc, Bool, true, false, not, cond, Option, Some, None, List, [], ◌∷◌, ◌++◌, length, map, take, drop, reverse, refl, sym, ap, subst, arith, not-suc-le-zero, le_of_suc-le-suc}
use Rattle.std.specs.Prelude.{filter, find}
use Rattle.std.specs.List.{AllByRecursion}
use Rattle.std.specs.Option.{option_map_or}
use Rattle.std.proofs.lemmas.Bool.{eq-eqb, eqb-true}
use Rattle.command_tables.specs.Calls.{ReplyContent}
use Rattle.trace_format.specs.declared.event.Name.{Name}
use Rattle.trace_format.specs.Content.{BeginEvent}
use Rattle.object_model.specs.declared.Object.{Object}
use Rattle.object_model.specs.Findings.{Report}
use Rattle.object_model.specs.Objects.{same}
use Rattle.object_model.specs.Values.{Answered}
use Rattle.replay_model.specs.declared.Born.{Born}
use Rattle.replay_model.specs.Direct.{Sent, Valued, answers_of, answers_to, before_call, own_replies, sent, valued, valued_of}
use Rattle.replay_model.specs.Setup.{Setup}
use Rattle.replay_model.specs.Past.{Began, Opened, Past, Returned, is_of, open_calls}
use Rattle.replay_model.proofs.Alike.{numbered}
use Rattle.replay_model.proofs.OpenCalls.{opened-sent}
use Rattle.device_facts.proofs.Homes.{Homes}
use Rattle.device_facts.proofs.Looks.{all_mapped, find_joined, none_left, or_nothing, or_other}
use Rattle.device_facts.proofs.Steps.{others_apart, part_alone, part_joined}

-- the values that were given for an object
abbrev pub values_at : Object → List Valued → List Valued
values_at o vs = filter (λ (v : Valued). same v.object o) vs

pub record Told (h : Homes) (device : Name) (past alone : Past) (replies own : List ReplyContent) (on : ℕ → Bool) : Type 0 where
  pub values : (o : Object) → h.object o ≡ Some device → values_at o (valued alone own) ≡ values_at o (valued past replies)
  pub answers : (t : ℕ) → on t ≡ true → answers_of (sent alone own) t ≡ answers_of (sent past replies) t

-- ---- replies

pub take_front : (n : ℕ) (xs ys : List ReplyContent) → n ≤ length xs → take n (take n xs ++ ys) ≡ take n xs
take_front zero xs ys less = refl
take_front (suc n) [] ys less = absurd (not-suc-le-zero less)
take_front (suc n) (x ∷ xs) ys less = ap (λ zs. x ∷ zs) (take_front n xs ys (le_of_suc-le-suc less))

pub drop_front : (n : ℕ) (xs ys : List ReplyContent) → n ≤ length xs → drop n (take n xs ++ ys) ≡ ys
drop_front zero xs ys less = refl
drop_front (suc n) [] ys less = absurd (not-suc-le-zero less)
drop_front (suc n) (x ∷ xs) ys less = drop_front n xs ys (le_of_suc-le-suc less)

pub drop_length : (n m : ℕ) (xs : List ReplyContent) → length xs ≡ m + n → length (drop n xs) ≡ m
drop_length zero m xs is = omega (arith, is)
drop_length (suc n) m [] is = omega (arith, is)
drop_length (suc n) m (x ∷ xs) is = let one : suc (length xs) ≡ m + suc n = is in drop_length n m xs (omega (arith, one))

-- ---- what was answered

sent_more : (t : ℕ) (cs : List Sent) (c : Sent) → find (λ (x : Sent). is_of t x.opened) (cs ++ c ∷ []) ≡ or_other (find (λ (x : Sent). is_of t x.opened) cs) (cond (c.opened.thread == t) (Some c) None)
sent_more t cs c = find_joined (λ (x : Sent). is_of t x.opened) cs (c ∷ [])

answers_now : (t : ℕ) (cs : List Sent) (c : Sent) → find (λ (x : Sent). is_of t x.opened) cs ≡ None → (c.opened.thread == t) ≡ true → answers_of (cs ++ c ∷ []) t ≡ c.answers
answers_now t cs c none here =
    ap (λ (f : Option Sent). option_map_or (λ (x : Sent). x.answers) f []) (sent_more t cs c ∙ (ap (λ f. or_other f (cond (c.opened.thread == t) (Some c) None)) none ∙ ap (λ u. cond u (Some c) None) here))

answers_other : (t : ℕ) (cs : List Sent) (c : Sent) → (c.opened.thread == t) ≡ false → answers_of (cs ++ c ∷ []) t ≡ answers_of cs t
answers_other t cs c differ =
    ap (λ (f : Option Sent). option_map_or (λ (x : Sent). x.answers) f [])
    (sent_more t cs c ∙ (ap (λ u. or_other (find (λ (x : Sent). is_of t x.opened) cs) (cond u (Some c) None)) differ ∙ or_nothing (find (λ (x : Sent). is_of t x.opened) cs)))

answers_less : (t v : ℕ) (cs : List Sent) → answers_of (filter (λ (c : Sent). not (is_of v c.opened)) cs) t ≡ cond (t == v) [] (answers_of cs t)
answers_less t v [] = none (t == v)
  where
    none : (u : Bool) → [] ≡ cond {A = List Answered} u [] []
    none true = refl
    none false = refl
answers_less t v (c ∷ cs) = go (c.opened.thread == v) (c.opened.thread == t) refl refl (answers_less t v cs)
  where
    go : (x y : Bool) → (c.opened.thread == v) ≡ x → (c.opened.thread == t) ≡ y → answers_of (filter (λ (c : Sent). not (is_of v c.opened)) cs) t ≡ cond (t == v) [] (answers_of cs t)
        → answers_of (cond (not x) (c ∷ filter (λ (c : Sent). not (is_of v c.opened)) cs) (filter (λ (c : Sent). not (is_of v c.opened)) cs)) t
        ≡ cond (t == v) [] (option_map_or (λ (x : Sent). x.answers) (cond y (Some c) (find (λ (x : Sent). is_of t x.opened) cs)) [])
    go true true e f rest =
        let one : (t == v) ≡ true = eq-eqb t v (sym (eqb-true c.opened.thread t f) ∙ eqb-true c.opened.thread v e) in
        rest ∙ (ap (λ u. cond u [] (answers_of cs t)) one ∙ sym (ap (λ u. cond u [] c.answers) one))
    go true false e f rest = rest
    go false true e f rest =
        let differ : (t == v) ≡ false = sym (ap (λ x. x == v) (eqb-true c.opened.thread t f)) ∙ e in
        ap (λ u. option_map_or (λ (x : Sent). x.answers) (cond u (Some c) (find (λ (x : Sent). is_of t x.opened) (filter (λ (c : Sent). not (is_of v c.opened)) cs))) []) f ∙ sym (ap (λ u. cond u [] c.answers) differ)
    go false false e f rest =
        ap (λ u. option_map_or (λ (x : Sent). x.answers) (cond u (Some c) (find (λ (x : Sent). is_of t x.opened) (filter (λ (c : Sent). not (is_of v c.opened)) cs))) []) f ∙ rest

-- where a thread has no open call, none was sent
none_mapped : (t : ℕ) (cs : List Sent) → find (is_of t) (map (λ (c : Sent). c.opened) cs) ≡ None → find (λ (x : Sent). is_of t x.opened) cs ≡ None
none_mapped t [] is = refl
none_mapped t (c ∷ cs) is = go (is_of t c.opened) (none_mapped t cs) is
  where
    go : (u : Bool) → (find (is_of t) (map (λ (c : Sent). c.opened) cs) ≡ None → find (λ (x : Sent). is_of t x.opened) cs ≡ None) → cond u (Some c.opened) (find (is_of t) (map (λ (c : Sent). c.opened) cs)) ≡ None
        → cond u (Some c) (find (λ (x : Sent). is_of t x.opened) cs) ≡ None
    go true rest p = cc p
    go false rest p = rest p

pub none_sent : (t : ℕ) (past : Past) (replies : List ReplyContent) → find (is_of t) (open_calls past) ≡ None → find (λ (x : Sent). is_of t x.opened) (sent past replies) ≡ None
none_sent t past replies is = none_mapped t (sent past replies) (ap (find (is_of t)) (opened-sent past replies) ∙ is)

module _ (h : Homes) (s : Setup) (device : Name) where
  -- ---- begins

  module _ (past alone : Past) (replies own : List ReplyContent) (on : ℕ → Bool) (e : BeginEvent) (o : Opened) (w : Told h device past alone (before_call o replies) own on) where
    pub told_here : (n : ℕ) (r q : List Report) → length o.drivers ≤ length replies → find (is_of o.thread) (open_calls past) ≡ None → find (is_of o.thread) (open_calls alone) ≡ None
        → Told h device (Began e o r ∷ past) (Began e (numbered n o) q ∷ alone) replies (take (length o.drivers) replies ++ own) (λ t. cond (o.thread == t) true (on t))
    told_here n r q enough idle lone = record {
      values = λ x at. ap (λ rs. values_at x (valued alone rs)) front ∙ w.values x at;
      answers = λ t is. go t (o.thread == t) refl is;
    }
      where
        front : drop (length o.drivers) (take (length o.drivers) replies ++ own) ≡ own
        front = drop_front (length o.drivers) replies own enough

        mine : answers_to o (own_replies o (take (length o.drivers) replies ++ own)) ≡ answers_to o (own_replies o replies)
        mine = ap (λ rs. answers_to o (reverse rs)) (take_front (length o.drivers) replies own enough)

        first : Sent
        first = record { opened = o; answers = answers_to o (own_replies o replies) }

        second : Sent
        second = record { opened = numbered n o; answers = answers_to o (own_replies o (take (length o.drivers) replies ++ own)) }

        go : (t : ℕ) (u : Bool) → (o.thread == t) ≡ u → cond u true (on t) ≡ true
            → answers_of (sent alone (drop (length o.drivers) (take (length o.drivers) replies ++ own)) ++ second ∷ []) t ≡ answers_of (sent past (before_call o replies) ++ first ∷ []) t
        go t true i k =
            let none : find (is_of t) (open_calls past) ≡ None = subst (λ v. find (is_of v) (open_calls past) ≡ None) (eqb-true o.thread t i) idle in
            let other : find (is_of t) (open_calls alone) ≡ None = subst (λ v. find (is_of v) (open_calls alone) ≡ None) (eqb-true o.thread t i) lone in
            answers_now t (sent alone (drop (length o.drivers) (take (length o.drivers) replies ++ own))) second (none_sent t alone (drop (length o.drivers) (take (length o.drivers) replies ++ own)) other) i
            ∙ (mine ∙ sym (answers_now t (sent past (before_call o replies)) first (none_sent t past (before_call o replies) none) i))
        go t false i k =
            answers_other t (sent alone (drop (length o.drivers) (take (length o.drivers) replies ++ own))) second i
            ∙ (ap (λ rs. answers_of (sent alone rs) t) front ∙ (w.answers t k ∙ sym (answers_other t (sent past (before_call o replies)) first i)))

    pub told_elsewhere : (r : List Report) → Told h device (Began e o r ∷ past) alone replies own (λ t. cond (o.thread == t) false (on t))
    told_elsewhere r = record { values = w.values; answers = λ t is. go t (o.thread == t) refl is }
      where
        first : Sent
        first = record { opened = o; answers = answers_to o (own_replies o replies) }

        go : (t : ℕ) (u : Bool) → (o.thread == t) ≡ u → cond u false (on t) ≡ true → answers_of (sent alone own) t ≡ answers_of (sent past (before_call o replies) ++ first ∷ []) t
        go t true i k = cc k
        go t false i k = w.answers t k ∙ sym (answers_other t (sent past (before_call o replies)) first i)

  -- ---- returns

  module _ (past alone : Past) (replies own : List ReplyContent) (on : ℕ → Bool) (o : Opened) (made : List Born) (w : Told h device past alone replies own on) where
    pub told_back : (n : ℕ) → on o.thread ≡ true → Told h device (Returned o made ∷ past) (Returned (numbered n o) made ∷ alone) replies own on
    told_back n there = record {
      values = λ x at.
          part_joined (λ (v : Valued). same v.object x) (valued alone own) (map (valued_of o (answers_of (sent alone own) o.thread)) made) (valued past replies) (map (valued_of o (answers_of (sent past replies) o.thread)) made) (w.values x at)
          (ap (λ rs. map (valued_of o rs) made) (w.answers o.thread there));
      answers = λ t is. answers_less t o.thread (sent alone own) ∙ (ap (cond (t == o.thread) []) (w.answers t is) ∙ sym (answers_less t o.thread (sent past replies)));
    }

    pub told_back_elsewhere : (other : Name) → (other ≡ device → ⊥) → on o.thread ≡ false → AllByRecursion (λ (b : Born). (h.object b.object ≡ Some other) × (h.name b.name ≡ Some other)) made → Told h device (Returned o made ∷ past) alone replies own on
    told_back_elsewhere other apart away there = record {
      values = λ x at.
          part_alone (λ (v : Valued). same v.object x) (valued alone own) (valued past replies) (map (valued_of o (answers_of (sent past replies) o.thread)) made) (w.values x at)
          (none_left (λ (v : Valued). same v.object x) (map (valued_of o (answers_of (sent past replies) o.thread)) made)
          (all_mapped (λ (b : Born). (h.object b.object ≡ Some other) × (h.name b.name ≡ Some other)) (λ (v : Valued). same v.object x ≡ false) (valued_of o (answers_of (sent past replies) o.thread))
          (λ b e. apart_at b.object x e.0 at) made there));
      answers = λ t is. w.answers t is ∙ sym (answers_less t o.thread (sent past replies) ∙ ap (λ u. cond u [] (answers_of (sent past replies) t)) (differ t (t == o.thread) refl is));
    }
      where
        apart_at : (y x : Object) → h.object y ≡ Some other → h.object x ≡ Some device → same y x ≡ false
        apart_at y x = others_apart h s device other apart y x

        differ : (t : ℕ) (u : Bool) → (t == o.thread) ≡ u → on t ≡ true → u ≡ false
        differ t false i is = refl
        differ t true i is = let bad : on o.thread ≡ true = subst (λ v. on v ≡ true) (eqb-true t o.thread i) is in cc
