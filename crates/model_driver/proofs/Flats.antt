-- Lists one behind another, and calls in them.
use Rattle.std.proofs.Common.{◌≡◌, ℕ, zero, suc, ◌+◌, ◌-◌, ◌≤◌, ◌<◌, ◌∙◌, List, [], ◌∷◌, ◌++◌, length, take, drop, get_or, refl, ap, sym, subst, arith, add-one, append_assoc, append-nil, length-append, length-drop}
use Rattle.std.proofs.lemmas.List.{take-append-le, drop-append-le, nil_from_length, drop-drop, take_all, get_or-drop, length-take, map-append}
use Rattle.std.proofs.lemmas.List.Sums.{sum_by_push, sum_by-take-le}
use Rattle.std.proofs.Math.Seq.{take-suc}
use Rattle.command_tables.specs.Handles.{list_at, count_in}
use Rattle.command_tables.specs.Calls.{DriverCallContent, ReplyContent}
use Rattle.model_driver.specs.Driver.{call_shown, reply_shown}
use Rattle.model_driver.specs.Logs.{exchanges_shown}
use Rattle.model_driver.specs.declared.driver.DriverCall.{DriverCall}
use Rattle.model_driver.specs.declared.driver.DriverReply.{DriverReply}
use Rattle.model_driver.specs.Flat.{AreEnds, AreCalls, cut_at, start_from, exchange_of, exchanges_of}
use Rattle.model_driver.specs.declared.call_head.CallHead.{CallHead}

-- ---- where lists end

pub ends_le : (start : ℕ) (ends : List ℕ) (total : ℕ) → AreEnds start ends total → start ≤ total
ends_le start [] total h = omega (arith, h)
ends_le start (e ∷ ends) total h = omega (arith, h.0, ends_le e ends total h.1)

pub ends_push : (start : ℕ) (ends : List ℕ) (total end : ℕ) → AreEnds start ends total → total ≤ end → AreEnds start (ends ++ end ∷ []) end
ends_push start [] total end h le = (omega (arith, h), refl)
ends_push start (e ∷ ends) total end h le = (h.0, ends_push e ends total end h.1 le)

pub cut_push : {A : Type 0} (start : ℕ) (ends : List ℕ) (items list : List A) (total end : ℕ) → AreEnds start ends total → total ≡ start + length items → end ≡ total + length list
    → cut_at start (ends ++ end ∷ []) (items ++ list) ≡ cut_at start ends items ++ list ∷ []
cut_push start [] items list total end h is last =
    let none : length items ≡ 0 = omega (arith, h) in
    let e : items ≡ [] = nil_from_length items none in
    let n : length list ≤ end - start = omega (arith, h, is, last) in
    rw e (ap (λ xs. xs ∷ []) (take_all (end - start) list n))
cut_push start (e ∷ ends) items list total end h is last =
    let n : e - start ≤ length items = omega (arith, h.0, ends_le e ends total h.1, is) in
    let rest : total ≡ e + length (drop (e - start) items) = omega (arith, h.0, ends_le e ends total h.1, is, length-drop (e - start) items) in
    rw (take-append-le (e - start) items list n, drop-append-le (e - start) items list n)
    (ap (λ ys. take (e - start) items ∷ ys) (cut_push e ends (drop (e - start) items) list total end h.1 rest last))

pub length_cut : {A : Type 0} (start : ℕ) (ends : List ℕ) (items : List A) → length (cut_at start ends items) ≡ length ends
length_cut start [] items = refl
length_cut start (e ∷ ends) items = ap suc (length_cut e ends (drop (e - start) items))

-- where a list starts and ends
pub record Bounds (start : ℕ) (ends : List ℕ) (total i : ℕ) : Type 0 where
  pub from : start ≤ start_from start ends i
  pub to : start_from start ends i ≤ get_or ends i 0
  pub end : get_or ends i 0 ≤ total

pub bounds : (start : ℕ) (ends : List ℕ) (total i : ℕ) → AreEnds start ends total → i < length ends → Bounds start ends total i
bounds start [] total i h within = absurd (omega (arith, within))
bounds start (e ∷ ends) total zero h within = record { from = omega arith; to = h.0; end = ends_le e ends total h.1 }
bounds start (e ∷ ends) total (suc i) h within =
    let b = bounds e ends total i h.1 (omega (arith, within)) in
    record { from = omega (arith, h.0, b.from); to = b.to; end = b.end }

pub list_at_cut : {A : Type 0} (start : ℕ) (ends : List ℕ) (items : List A) (total i : ℕ) → AreEnds start ends total → i < length ends
    → list_at (cut_at start ends items) i ≡ take (get_or ends i 0 - start_from start ends i) (drop (start_from start ends i - start) items)
list_at_cut start [] items total i h within = absurd (omega (arith, within))
list_at_cut start (e ∷ ends) items total zero h within =
    let z : start - start ≡ 0 = omega arith in
    rw z refl
list_at_cut start (e ∷ ends) items total (suc i) h within =
    let l : i < length ends = omega (arith, within) in
    let b = bounds e ends total i h.1 l in
    let n : (e - start) + (start_from e ends i - e) ≡ start_from e ends i - start = omega (arith, h.0, b.from) in
    list_at_cut e ends (drop (e - start) items) total i h.1 l
    ∙ ap (λ xs. take (get_or ends i 0 - start_from e ends i) xs) (drop-drop (start_from e ends i - e) (e - start) items ∙ ap (λ k. drop k items) n)

start_in : (start : ℕ) (ends : List ℕ) (i : ℕ) → i < length ends → start_from start ends i ≡ get_or (start ∷ ends) i 0
start_in start ends zero within = refl
start_in start [] (suc i) within = absurd (omega (arith, within))
start_in start (e ∷ ends) (suc i) within = start_in e ends i (omega (arith, within))

pub start_first : (ends : List ℕ) (i : ℕ) → i ≡ 0 → start_from 0 ends i ≡ 0
start_first ends zero is = refl
start_first ends (suc i) is = absurd (omega (arith, is))

pub start_later : (ends : List ℕ) (i : ℕ) → i < length ends → 1 ≤ i → start_from 0 ends i ≡ get_or ends (i - 1) 0
start_later ends zero within later = absurd (omega (arith, later))
start_later ends (suc i) within later = start_in 0 ends (suc i) within ∙ ap (λ k. get_or ends k 0) (omega arith)

-- a list was pushed, of which the end was pushed too
pub ends_pushed : {A : Type 0} (ends ends' : List ℕ) (items items' list : List A) (end : ℕ) → AreEnds 0 ends (length items) → items' ≡ items ++ list → ends' ≡ ends ++ end ∷ [] → end ≡ length items'
    → AreEnds 0 ends' (length items')
ends_pushed ends ends' items items' list end whole more_items more_ends is =
    let up : length items ≤ end = omega (arith, is, ap length more_items, length-append items list) in
    subst (λ es. AreEnds 0 es (length items')) (sym more_ends) (subst (λ n. AreEnds 0 (ends ++ end ∷ []) n) is (ends_push 0 ends (length items) end whole up))

pub cut_pushed : {A : Type 0} (ends ends' : List ℕ) (items items' list : List A) (end : ℕ) (lists : List (List A)) → AreEnds 0 ends (length items) → items' ≡ items ++ list → ends' ≡ ends ++ end ∷ [] → end ≡ length items'
    → cut_at 0 ends items ≡ lists → cut_at 0 ends' items' ≡ lists ++ list ∷ []
cut_pushed ends ends' items items' list end lists whole more_items more_ends is seen =
    let last : end ≡ length items + length list = is ∙ (ap length more_items ∙ length-append items list) in
    let z : length items ≡ 0 + length items = omega arith in
    ap (λ es. cut_at 0 es items') more_ends ∙ (ap (λ xs. cut_at 0 (ends ++ end ∷ []) xs) more_items ∙ (cut_push 0 ends items list (length items) end whole z last ∙ ap (λ xs. xs ++ list ∷ []) seen))

-- a list of those that are seen lies within the elements
pub record Within (ends : List ℕ) (total i : ℕ) : Type 0 where
  pub place : i < length ends
  pub bounds : Bounds 0 ends total i

pub list_within : {A : Type 0} (ends : List ℕ) (items : List A) (lists : List (List A)) (i : ℕ) → AreEnds 0 ends (length items) → cut_at 0 ends items ≡ lists → i < length lists → Within ends (length items) i
list_within ends items lists i whole seen within =
    let l : i < length ends = omega (arith, within, ap length seen, length_cut 0 ends items) in
    record { place = l; bounds = bounds 0 ends (length items) i whole l }

pub list_seen : {A : Type 0} (ends ends' : List ℕ) (items items' list : List A) (lists : List (List A)) (i : ℕ) → AreEnds 0 ends (length items) → cut_at 0 ends items ≡ lists → i < length lists
    → ends' ≡ ends → items' ≡ items → list ≡ take (get_or ends' i 0 - start_from 0 ends' i) (drop (start_from 0 ends' i) items') → list ≡ list_at lists i
list_seen ends ends' items items' list lists i whole seen within same_ends same_items is =
    let w = list_within ends items lists i whole seen within in
    let z : start_from 0 ends i - 0 ≡ start_from 0 ends i = omega arith in
    is ∙ (ap (λ es. take (get_or es i 0 - start_from 0 es i) (drop (start_from 0 es i) items')) same_ends
    ∙ (ap (λ xs. take (get_or ends i 0 - start_from 0 ends i) (drop (start_from 0 ends i) xs)) same_items
    ∙ (ap (λ n. take (get_or ends i 0 - start_from 0 ends i) (drop n items)) (sym z)
    ∙ (sym (list_at_cut 0 ends items (length items) i whole w.place) ∙ ap (λ ls. list_at ls i) seen))))

-- ---- lists that are added

-- the lists so far, with one more
pub more_lists : (now before start all : List (List ℕ)) (p : ℕ) → before ≡ start ++ take p all → now ≡ before ++ list_at all p ∷ [] → p < length all → now ≡ start ++ take (p + 1) all
more_lists now before start all p so_far pushed within =
    pushed ∙ (ap (λ xs. xs ++ list_at all p ∷ []) so_far ∙ (append_assoc start (take p all) (list_at all p ∷ []) ∙ ap (λ xs. start ++ xs) (sym (take-suc all p [] within) ∙ ap (λ n. take n all) (sym (add-one p)))))

-- how many elements the lists so far have, with one more
pub count_more : (all : List (List ℕ)) (p : ℕ) → p < length all → count_in (take (p + 1) all) ≡ count_in (take p all) + length (list_at all p)
count_more all p within = ap (λ n. count_in (take n all)) (add-one p) ∙ (ap (λ xs. count_in xs) (take-suc all p [] within) ∙ sum_by_push (λ (xs : List ℕ). length xs) (take p all) (list_at all p))

pub count_within : (all : List (List ℕ)) (p : ℕ) → p < length all → count_in (take p all) + length (list_at all p) ≤ count_in all
count_within all p within = omega (arith, count_more all p within, sum_by-take-le (λ (xs : List ℕ). length xs) all (p + 1))

-- one more of the lists from a place on
pub more_at : (now before all : List (List ℕ)) (at p : ℕ) → before ≡ take p (drop at all) → now ≡ before ++ list_at all (at + p) ∷ [] → at + p < length all → now ≡ take (p + 1) (drop at all)
more_at now before all at p so_far pushed within =
    let l : p < length (drop at all) = omega (arith, length-drop at all, within) in
    pushed ∙ (ap (λ xs. xs ++ list_at all (at + p) ∷ []) so_far ∙ (ap (λ (x : List ℕ). take p (drop at all) ++ x ∷ []) (sym (get_or-drop at all p [])) ∙ (sym (take-suc (drop at all) p [] l) ∙ ap (λ n. take n (drop at all)) (sym (add-one p)))))

-- there are so few of them yet
pub few_taken : (before all : List (List ℕ)) (at p : ℕ) → before ≡ take p (drop at all) → length before ≤ p
few_taken before all at p so_far = omega (arith, ap length so_far, length-take p (drop at all))

-- ---- calls that are added

at_end : (args : List (List ℕ)) (x : List ℕ) → list_at (args ++ x ∷ []) (length args) ≡ x
at_end [] x = refl
at_end (a ∷ args) x = at_end args x

at_front : (xs ys : List (List ℕ)) (i : ℕ) → i < length xs → list_at (xs ++ ys) i ≡ list_at xs i
at_front [] ys i within = absurd (omega (arith, within))
at_front (x ∷ xs) ys zero within = refl
at_front (x ∷ xs) ys (suc i) within = at_front xs ys i (omega (arith, within))

take_front : (args : List (List ℕ)) (x : List ℕ) → take (length args) (args ++ x ∷ []) ≡ args
take_front [] x = refl
take_front (a ∷ args) x = ap (λ xs. a ∷ xs) (take_front args x)

pub exchanges_push : (heads : List CallHead) (lists payloads args : List (List ℕ)) (payload handles : List ℕ) (h : CallHead) → AreCalls heads (length lists) (length payloads) → h.params ≡ length args
    → exchanges_of (heads ++ h ∷ []) (lists ++ (args ++ handles ∷ [])) (payloads ++ payload ∷ []) ≡ exchanges_of heads lists payloads ++ exchange_of h args payload handles ∷ []
exchanges_push [] lists payloads args payload handles h whole is =
    let no_lists : lists ≡ [] = nil_from_length lists whole.0 in
    let no_payloads : payloads ≡ [] = nil_from_length payloads whole.1 in
    let more = args ++ handles ∷ [] in
    let first : take h.params (lists ++ more) ≡ args = ap (λ xs. take h.params (xs ++ more)) no_lists ∙ (ap (λ n. take n more) is ∙ take_front args handles) in
    let bytes : list_at (payloads ++ payload ∷ []) 0 ≡ payload = ap (λ xs. list_at (xs ++ payload ∷ []) 0) no_payloads in
    let last : list_at (lists ++ more) h.params ≡ handles = ap (λ xs. list_at (xs ++ more) h.params) no_lists ∙ (ap (λ n. list_at more n) is ∙ at_end args handles) in
    ap (λ xs. exchange_of h xs (list_at (payloads ++ payload ∷ []) 0) (list_at (lists ++ more) h.params) ∷ []) first
    ∙ (ap (λ xs. exchange_of h args xs (list_at (lists ++ more) h.params) ∷ []) bytes ∙ ap (λ xs. exchange_of h args payload xs ∷ []) last)
exchanges_push (g ∷ heads) lists payloads args payload handles h whole is =
    let n : g.params + 1 ≤ length lists = whole.1 in
    let k : g.params ≤ length lists = omega (arith, n) in
    let i : g.params < length lists = omega (arith, n) in
    let one : 1 ≤ length payloads = whole.2 in
    let first : 0 < length payloads = omega (arith, one) in
    let more = args ++ handles ∷ [] in
    let counts : AreCalls heads (length (drop (g.params + 1) lists)) (length (drop 1 payloads)) =
    subst (λ m. AreCalls heads m (length (drop 1 payloads))) (sym (length-drop (g.params + 1) lists)) (subst (λ m. AreCalls heads (length lists - (g.params + 1)) m) (sym (length-drop 1 payloads)) whole.3) in
    rw (take-append-le g.params lists more k, at_front payloads (payload ∷ []) 0 first, at_front lists more g.params i, drop-append-le (g.params + 1) lists more n, drop-append-le 1 payloads (payload ∷ []) one)
    (ap (λ rest. exchange_of g (take g.params lists) (list_at payloads 0) (list_at lists g.params) ∷ rest) (exchanges_push heads (drop (g.params + 1) lists) (drop 1 payloads) args payload handles h counts is))

pub calls_push : (heads : List CallHead) (lists payloads : ℕ) (h : CallHead) → AreCalls heads lists payloads → h.params ≤ 6 → AreCalls (heads ++ h ∷ []) (lists + (h.params + 1)) (payloads + 1)
calls_push [] lists payloads h whole few = (few, omega arith, omega arith, (omega (arith, whole.0), omega (arith, whole.1)))
calls_push (g ∷ heads) lists payloads h whole few =
    let n : g.params + 1 ≤ lists = whole.1 in
    let one : 1 ≤ payloads = whole.2 in
    let p : (lists - (g.params + 1)) + (h.params + 1) ≡ (lists + (h.params + 1)) - (g.params + 1) = omega (arith, n) in
    let q : (payloads - 1) + 1 ≡ (payloads + 1) - 1 = omega (arith, one) in (
      whole.0,
      omega (arith, n),
      omega arith,
      subst (λ m. AreCalls (heads ++ h ∷ []) ((lists + (h.params + 1)) - (g.params + 1)) m) q (subst (λ m. AreCalls (heads ++ h ∷ []) m ((payloads - 1) + 1)) p (calls_push heads (lists - (g.params + 1)) (payloads - 1) h whole.3 few)),
    )

-- the same of lists that grew one after another
pub calls_pushed : (heads heads' : List CallHead) (lists between lists' payloads payloads' args : List (List ℕ)) (payload handles : List ℕ) (h : CallHead) → AreCalls heads (length lists) (length payloads)
    → heads' ≡ heads ++ h ∷ [] → between ≡ lists ++ args → lists' ≡ between ++ handles ∷ [] → payloads' ≡ payloads ++ payload ∷ [] → h.params ≡ length args
    → exchanges_of heads' lists' payloads' ≡ exchanges_of heads lists payloads ++ exchange_of h args payload handles ∷ []
calls_pushed heads heads' lists between lists' payloads payloads' args payload handles h whole more_heads more_args more_reply more_payload is =
    let all : lists' ≡ lists ++ (args ++ handles ∷ []) = more_reply ∙ (ap (λ xs. xs ++ handles ∷ []) more_args ∙ append_assoc lists args (handles ∷ [])) in
    rw (more_heads, all, more_payload) (exchanges_push heads lists payloads args payload handles h whole is)

pub whole_pushed : (heads heads' : List CallHead) (lists between lists' payloads payloads' args : List (List ℕ)) (payload handles : List ℕ) (h : CallHead) → AreCalls heads (length lists) (length payloads)
    → heads' ≡ heads ++ h ∷ [] → between ≡ lists ++ args → lists' ≡ between ++ handles ∷ [] → payloads' ≡ payloads ++ payload ∷ [] → h.params ≡ length args → h.params ≤ 6
    → AreCalls heads' (length lists') (length payloads')
whole_pushed heads heads' lists between lists' payloads payloads' args payload handles h whole more_heads more_args more_reply more_payload is few =
    let count : length lists + (h.params + 1) ≡ length lists' = omega (arith, is, ap length more_args, length-append lists args, ap length more_reply, length-append between (handles ∷ [])) in
    let bytes : length payloads + 1 ≡ length payloads' = omega (arith, ap length more_payload, length-append payloads (payload ∷ [])) in
    rw more_heads (subst (λ m. AreCalls (heads ++ h ∷ []) m (length payloads')) count (subst (λ m. AreCalls (heads ++ h ∷ []) (length lists + (h.params + 1)) m) bytes (calls_push heads (length lists) (length payloads) h whole few)))

-- ---- calls that are read

-- the next call, and what is left behind it
pub record Next (heads : List CallHead) (lists payloads : List (List ℕ)) (i at : ℕ) (h : CallHead) : Type 0 where
  pub few : h.params ≤ 6
  pub lists_left : h.params + 1 ≤ length lists - at
  pub payloads_left : 1 ≤ length payloads - i
  pub rest : AreCalls (drop (i + 1) heads) (length lists - (at + (h.params + 1))) (length payloads - (i + 1))
  pub is : exchanges_of (drop i heads) (drop at lists) (drop i payloads)
      ≡ exchange_of h (take h.params (drop at lists)) (list_at payloads i) (list_at lists (at + h.params)) ∷ exchanges_of (drop (i + 1) heads) (drop (at + (h.params + 1)) lists) (drop (i + 1) payloads)

drop_next : {A : Type 0} (xs : List A) (i : ℕ) (x : A) → i < length xs → x ≡ get_or xs i x → drop i xs ≡ x ∷ drop (i + 1) xs
drop_next [] i x within is = absurd (omega (arith, within))
drop_next (y ∷ xs) zero x within is = ap (λ z. z ∷ xs) (sym is)
drop_next (y ∷ xs) (suc i) x within is =
    let e : suc (i + 1) ≡ suc i + 1 = omega arith in
    drop_next xs i x (omega (arith, within)) is ∙ ap (λ n. x ∷ drop n (y ∷ xs)) e

pub next_call : (heads : List CallHead) (lists payloads : List (List ℕ)) (i at : ℕ) (h : CallHead) → i < length heads → h ≡ get_or heads i h → AreCalls (drop i heads) (length lists - at) (length payloads - i)
    → Next heads lists payloads i at h
next_call heads lists payloads i at h within is whole =
    let e : drop i heads ≡ h ∷ drop (i + 1) heads = drop_next heads i h within is in
    let w : AreCalls (h ∷ drop (i + 1) heads) (length lists - at) (length payloads - i) = subst (λ hs. AreCalls hs (length lists - at) (length payloads - i)) e whole in
    let p : (length lists - at) - (h.params + 1) ≡ length lists - (at + (h.params + 1)) = omega arith in
    let q : (length payloads - i) - 1 ≡ length payloads - (i + 1) = omega arith in
    let z : i + 0 ≡ i = omega arith in
    let payload : list_at (drop i payloads) 0 ≡ list_at payloads i = get_or-drop i payloads 0 [] ∙ ap (λ k. list_at payloads k) z in
    let args = take h.params (drop at lists) in
    let left = drop (i + 1) heads in
    record {
      few = w.0;
      lists_left = w.1;
      payloads_left = w.2;
      rest = subst (λ m. AreCalls (drop (i + 1) heads) (length lists - (at + (h.params + 1))) m) q (subst (λ m. AreCalls (drop (i + 1) heads) m ((length payloads - i) - 1)) p w.3);
      is = ap (λ hs. exchanges_of hs (drop at lists) (drop i payloads)) e
          ∙ (ap (λ x. exchange_of h args x (list_at (drop at lists) h.params) ∷ exchanges_of left (drop (h.params + 1) (drop at lists)) (drop 1 (drop i payloads))) payload
          ∙ (ap (λ x. exchange_of h args (list_at payloads i) x ∷ exchanges_of left (drop (h.params + 1) (drop at lists)) (drop 1 (drop i payloads))) (get_or-drop at lists h.params [])
          ∙ (ap (λ x. exchange_of h args (list_at payloads i) (list_at lists (at + h.params)) ∷ exchanges_of left x (drop 1 (drop i payloads))) (drop-drop (h.params + 1) at lists)
          ∙ ap (λ x. exchange_of h args (list_at payloads i) (list_at lists (at + h.params)) ∷ exchanges_of left (drop (at + (h.params + 1)) lists) x) (drop-drop 1 i payloads))));
    }

-- a call that is left has its payload
pub payload_left : (heads : List CallHead) (i lists payloads : ℕ) → i < length heads → AreCalls (drop i heads) lists payloads → 1 ≤ payloads
payload_left [] i lists payloads within whole = absurd (omega (arith, within))
payload_left (g ∷ heads) zero lists payloads within whole = whole.2
payload_left (g ∷ heads) (suc i) lists payloads within whole = payload_left heads i lists payloads (omega (arith, within)) whole

-- one more call was read and added
pub read_more : (heads : List CallHead) (lists payloads : List (List ℕ)) (i at : ℕ) (h : CallHead) (out new : List (DriverCall × DriverReply)) (made : DriverCall × DriverReply) (total : List (DriverCallContent × ReplyContent))
    → Next heads lists payloads i at h
    → exchanges_shown out ++ exchanges_of (drop i heads) (drop at lists) (drop i payloads) ≡ total
    → (call_shown made.0, reply_shown made.1) ≡ exchange_of h (take h.params (drop at lists)) (list_at payloads i) (list_at lists (at + h.params))
    → new ≡ out ++ made ∷ []
    → exchanges_shown new ++ exchanges_of (drop (i + 1) heads) (drop (at + (h.params + 1)) lists) (drop (i + 1) payloads) ≡ total
read_more heads lists payloads i at h out new made total next so_far shown pushed =
    let rest = exchanges_of (drop (i + 1) heads) (drop (at + (h.params + 1)) lists) (drop (i + 1) payloads) in
    ap (λ xs. exchanges_shown xs ++ rest) pushed
    ∙ (ap (λ xs. xs ++ rest) (map-append (λ (x : DriverCall × DriverReply). (call_shown x.0, reply_shown x.1)) out (made ∷ []))
    ∙ (append_assoc (exchanges_shown out) ((call_shown made.0, reply_shown made.1) ∷ []) rest
    ∙ (ap (λ (x : DriverCallContent × ReplyContent). exchanges_shown out ++ x ∷ rest) shown ∙ (ap (λ xs. exchanges_shown out ++ xs) (sym next.is) ∙ so_far))))

-- all were read
pub all_read : (heads : List CallHead) (lists payloads : List (List ℕ)) (i : ℕ) (out total : List (DriverCallContent × ReplyContent)) → length heads ≤ i
    → out ++ exchanges_of (drop i heads) lists payloads ≡ total → out ≡ total
all_read heads lists payloads i out total past so_far =
    let none : drop i heads ≡ [] = nil_from_length (drop i heads) (omega (arith, length-drop i heads, past)) in
    sym (append-nil out) ∙ (ap (λ hs. out ++ exchanges_of hs lists payloads) (sym none) ∙ so_far)
