-- Tokens, dealt out one by one.
use Rattle.std.proofs.Common.{◌≡◌, ◌≤◌, ◌<◌, ◌+◌, ℕ, zero, suc, Option, Some, List, [], ◌∷◌, ◌++◌, length, map, take, drop, get_or, replicate, reverse, refl, sym, ◌∙◌, ap, arith, add-one}
use Rattle.std.specs.Prelude.{Vec, slice_get, slice_index_or, slice_set}
use Rattle.std.specs.Option.{option_map}
use Rattle.std.proofs.lemmas.List.{length-append, length-map, length-reverse, length-set, map-append, map-set, reverse-append, take_all}
use Rattle.std.proofs.lemmas.Option.{get_or_from_slice_get, slice_get-map}
use Rattle.stream_log.specs.Log.{SeenView, seen_view}
use Rattle.trace_format.specs.declared.event.Name.{Name}
use Rattle.stream_model.specs.FileParts.{StreamPart}
use Rattle.device_shard.specs.Making.{tokens_given, tokens_of}
use Rattle.device_shard.specs.Shards.{ShardName, threads_of}
use Rattle.device_shard.proofs.Lists.{one}
use Rattle.device_shard.proofs.Measured.{seen_at}
use Rattle.stream_crew.specs.Crews.{HaveThreads}
use Rattle.stream_crew.specs.Dealing.{dealt, items_of, slot_of, slots_of}

-- ---- one token more

pub dealt_none : {X : Type 0} (xss : List (List X)) → dealt xss [] ≡ xss
dealt_none [] = refl
dealt_none (xs ∷ xss) = refl

-- the next list with its token
pub dealt_more : {X : Type 0} (xss : List (List X)) (ys : List X) (i : ℕ) (y : X) → slice_get ys i ≡ Some y → i < length xss → slice_set (dealt xss (take i ys)) i (slice_index_or (dealt xss (take i ys)) i [] ++ y ∷ []) ≡ dealt xss (take (suc i) ys)
dealt_more [] ys i y at less = absurd (omega (arith, less))
dealt_more (xs ∷ xss) [] i y at less = cc at
dealt_more {X = X} (xs ∷ xss) (z ∷ ys) zero y at less = ap (λ (w : X). (xs ++ w ∷ []) ∷ xss) (sym (one z y at)) ∙ ap (λ (yss : List (List X)). (xs ++ z ∷ []) ∷ yss) (sym (dealt_none xss))
dealt_more {X = X} (xs ∷ xss) (z ∷ ys) (suc i) y at less = ap (λ (yss : List (List X)). (xs ++ z ∷ []) ∷ yss) (dealt_more xss ys i y at (omega (arith, less)))

pub last_next : {X : Type 0} (old new : List X) (x : X) → old ≡ new ++ x ∷ [] → reverse old ≡ x ∷ reverse new
last_next old new x is = ap reverse is ∙ reverse-append new (x ∷ [])

-- the token that comes next, where so many of a round were dealt
pub record Next {X : Type 0} (round rest new : List X) (i : ℕ) (x : X) : Type 0 where
  pub at : slice_get round i ≡ Some x
  pub left : reverse new ≡ drop (suc i) round ++ rest

at_next : {X : Type 0} (round rest new : List X) (i : ℕ) (x : X) → i < length round → x ∷ reverse new ≡ drop i round ++ rest → Next round rest new i x
at_next [] rest new i x less is = absurd (omega (arith, less))
at_next (r ∷ round) rest new zero x less is = record { at = cc is; left = cc is }
at_next (r ∷ round) rest new (suc i) x less is = let next = at_next round rest new i x (omega (arith, less)) is in record { at = next.at; left = next.left }

pub is_next : {X : Type 0} (round rest old new : List X) (i : ℕ) (x : X) → i < length round → old ≡ new ++ x ∷ [] → reverse old ≡ drop i round ++ rest → Next round rest new i x
is_next round rest old new i x less is so_far = at_next round rest new i x less (sym (last_next old new x is) ∙ so_far)

pub slot_added : {X A : Type 0} (vecs : List (Vec X A)) (i : ℕ) (old new : Vec X A) (x : X) → i < length vecs → old ≡ get_or vecs i old → new.items ≡ old.items ++ x ∷ [] → items_of (slice_set vecs i new) ≡ slice_set (items_of vecs) i (slice_index_or (items_of vecs) i [] ++ x ∷ [])
slot_added {X} {A} vecs i old new x less is more =
    let items : Vec X A → List X = λ (v : Vec X A). v.items in
    map-set items vecs i new ∙ ap (slice_set (items_of vecs) i) (more ∙ ap (λ (ys : List X). ys ++ x ∷ []) (sym (get_or_from_slice_get (items_of vecs) i old.items [] (seen_at items vecs i old less is))))

-- no list is lost
pub same_count : {X A : Type 0} (old new : List (Vec X A)) (i : ℕ) (xs : List X) → items_of new ≡ slice_set (items_of old) i xs → length new ≡ length old
same_count {X} {A} old new i xs is =
    let items : Vec X A → List X = λ (v : Vec X A). v.items in
    let set_now = length-set (items_of old) i xs in
    let as_many : length (items_of new) ≡ length (slice_set (items_of old) i xs) = ap (λ (yss : List (List X)). length yss) is in
    omega (arith, set_now, as_many, length-map old items, length-map new items)

-- a step of a round
pub deal_step : (first old new : List (List (Option SeenView))) (round rest was now : List (Name × SeenView)) (i : ℕ) (token : Name × SeenView) → i < length first → length round ≡ length first → was ≡ now ++ token ∷ []
    → new ≡ slice_set old i (slice_index_or old i [] ++ slot_of token ∷ []) → old ≡ dealt first (take i (map slot_of round)) → reverse was ≡ drop i round ++ rest
    → (new ≡ dealt first (take (i + 1) (map slot_of round))) × (reverse now ≡ drop (i + 1) round ++ rest)
deal_step first old new round rest was now i token less many popped more so_far left =
    let next = is_next round rest was now i token (omega (arith, less, many)) popped left in
    let here : slice_get (map slot_of round) i ≡ Some (slot_of token) = slice_get-map slot_of round i ∙ ap (option_map slot_of) next.at in (
      more
          ∙ (ap (λ (xss : List (List (Option SeenView))). slice_set xss i (slice_index_or xss i [] ++ slot_of token ∷ [])) so_far
          ∙ (dealt_more first (map slot_of round) i (slot_of token) here less ∙ ap (λ (n : ℕ). dealt first (take n (map slot_of round))) (sym (add-one i)))),
      next.left ∙ ap (λ (n : ℕ). drop n round ++ rest) (sym (add-one i)),
    )

-- ---- a round

same_threads : (names : List ShardName) (n : ShardName) (streams : List StreamPart) (threads : List ℕ) → threads_of streams ≡ threads
    → dealt (map (slots_of names) threads) (map slot_of (map (λ (s : StreamPart). (n.plan.device, seen_view n.log s.thread [])) streams)) ≡ map (slots_of (names ++ n ∷ [])) threads
same_threads names n [] [] same = refl
same_threads names n [] (t ∷ threads) same = cc same
same_threads names n (s ∷ streams) [] same = cc same
same_threads names n (s ∷ streams) (t ∷ threads) same =
    let here : s.thread ≡ t = cc same in
    let later : threads_of streams ≡ threads = cc same in
    let token : ShardName → Option SeenView = λ (m : ShardName). Some (seen_view m.log t []) in
    let first : slots_of names t ++ Some (seen_view n.log s.thread []) ∷ [] ≡ slots_of (names ++ n ∷ []) t =
    ap (λ (u : ℕ). slots_of names t ++ Some (seen_view n.log u []) ∷ []) here ∙ sym (map-append token names (n ∷ [])) in
    ap (λ (xs : List (Option SeenView)). xs ∷ dealt (map (slots_of names) threads) (map slot_of (map (λ (p : StreamPart). (n.plan.device, seen_view n.log p.thread [])) streams))) first
    ∙ ap (λ (xss : List (List (Option SeenView))). slots_of (names ++ n ∷ []) t ∷ xss) (same_threads names n streams threads later)

pub none_dealt : (threads : List ℕ) (m : ℕ) → length threads ≡ m → replicate m [] ≡ map (slots_of []) threads
none_dealt [] zero same = refl
none_dealt [] (suc m) same = absurd (omega (arith, same))
none_dealt (t ∷ threads) zero same = absurd (omega (arith, same))
none_dealt (t ∷ threads) (suc m) same = ap (λ (xss : List (List (Option SeenView))). [] ∷ xss) (none_dealt threads m (omega (arith, same)))

-- so many rounds were dealt, and this is left
abbrev pub IsDealt : List (Name × SeenView) → ℕ → ℕ → ℕ → List (List (Option SeenView)) → List (Name × SeenView) → Type 0
IsDealt tokens plans streams k slots left =
    (names : List ShardName) (threads : List ℕ) → length names ≡ plans → length threads ≡ streams → HaveThreads threads (map (λ (n : ShardName). n.plan) names) → tokens ≡ tokens_given names
    → (slots ≡ map (slots_of (take k names)) threads) × (reverse left ≡ tokens_given (drop k names))

pub dealt_first : (tokens left : List (Name × SeenView)) (plans streams : ℕ) (slots : List (List (Option SeenView))) → slots ≡ replicate streams [] → reverse left ≡ tokens → IsDealt tokens plans streams 0 slots left
dealt_first tokens left plans streams slots none all = λ names threads many count have given. (none ∙ none_dealt threads streams count, all ∙ given)

-- the name of a plan, whose tokens are the next
pub record Turn (names : List ShardName) (threads : List ℕ) (k : ℕ) : Type 0 where
  pub name : ShardName
  pub more : take (suc k) names ≡ take k names ++ name ∷ []
  pub tokens : tokens_given (drop k names) ≡ tokens_of name ++ tokens_given (drop (suc k) names)
  pub threads_are : threads_of name.plan.streams ≡ threads
  pub count : length (tokens_of name) ≡ length threads

pub turn : (names : List ShardName) (threads : List ℕ) (k : ℕ) → k < length names → HaveThreads threads (map (λ (n : ShardName). n.plan) names) → Turn names threads k
turn [] threads k less have = absurd (omega (arith, less))
turn (n ∷ names) threads zero less have = record {
  name = n;
  more = refl;
  tokens = refl;
  threads_are = have.0;
  count = length-map n.plan.streams (λ (s : StreamPart). (n.plan.device, seen_view n.log s.thread [])) ∙ (sym (length-map n.plan.streams (λ (s : StreamPart). s.thread)) ∙ ap (λ (ts : List ℕ). length ts) have.0);
}
turn (n ∷ names) threads (suc k) less have =
    let rest = turn names threads k (omega (arith, less)) have.1 in record { name = rest.name; more = ap (λ (ns : List ShardName). n ∷ ns) rest.more; tokens = rest.tokens; threads_are = rest.threads_are; count = rest.count }

-- what a round makes of the slots and of what is left
abbrev pub Deals : List (List (Option SeenView)) → List (List (Option SeenView)) → List (Name × SeenView) → List (Name × SeenView) → Type 0
Deals old new before behind = (round rest : List (Name × SeenView)) → reverse before ≡ round ++ rest → length round ≡ length old → (new ≡ dealt old (map slot_of round)) × (reverse behind ≡ rest)

pub dealt_on : (tokens : List (Name × SeenView)) (plans streams k : ℕ) (old new : List (List (Option SeenView))) (before behind : List (Name × SeenView)) → k < plans → IsDealt tokens plans streams k old before → Deals old new before behind
    → IsDealt tokens plans streams (k + 1) new behind
dealt_on tokens plans streams k old new before behind less so_far deals = λ names threads many count have given.
    let was = so_far names threads many count have given in
    let next = turn names threads k (omega (arith, less, many)) have in
    let long : length old ≡ length threads = ap (λ (xss : List (List (Option SeenView))). length xss) was.0 ∙ length-map threads (slots_of (take k names)) in
    let now = deals (tokens_of next.name) (tokens_given (drop (suc k) names)) (was.1 ∙ next.tokens) (next.count ∙ sym long) in (
      now.0
          ∙ (ap (λ (xss : List (List (Option SeenView))). dealt xss (map slot_of (tokens_of next.name))) was.0
          ∙ (same_threads (take k names) next.name next.name.plan.streams threads next.threads_are ∙ ap (λ (ns : List ShardName). map (slots_of ns) threads) (sym next.more ∙ ap (λ (n : ℕ). take n names) (sym (add-one k))))),
      now.1 ∙ ap (λ (n : ℕ). tokens_given (drop n names)) (sym (add-one k)),
    )

-- there is a token for each
pub enough : (tokens : List (Name × SeenView)) (plans streams k : ℕ) (slots : List (List (Option SeenView))) (left : List (Name × SeenView)) (names : List ShardName) (threads : List ℕ) → length names ≡ plans → length threads ≡ streams
    → HaveThreads threads (map (λ (n : ShardName). n.plan) names) → tokens ≡ tokens_given names → k < plans → IsDealt tokens plans streams k slots left → length slots ≤ length left
enough tokens plans streams k slots left names threads many count have given less so_far =
    let was = so_far names threads many count have given in
    let next = turn names threads k (omega (arith, less, many)) have in
    let long : length slots ≡ length threads = ap (λ (xss : List (List (Option SeenView))). length xss) was.0 ∙ length-map threads (slots_of (take k names)) in
    let parts : length (reverse left) ≡ length (tokens_of next.name) + length (tokens_given (drop (suc k) names)) =
    ap (λ (ts : List (Name × SeenView)). length ts) (was.1 ∙ next.tokens) ∙ length-append (tokens_of next.name) (tokens_given (drop (suc k) names)) in
    omega (arith, long, parts, next.count, length-reverse left)

pub dealt_all : (tokens : List (Name × SeenView)) (plans streams k : ℕ) (slots : List (List (Option SeenView))) (left : List (Name × SeenView)) (names : List ShardName) (threads : List ℕ) → length names ≡ plans → length threads ≡ streams
    → HaveThreads threads (map (λ (n : ShardName). n.plan) names) → tokens ≡ tokens_given names → plans ≤ k → IsDealt tokens plans streams k slots left → slots ≡ map (slots_of names) threads
dealt_all tokens plans streams k slots left names threads many count have given far so_far =
    (so_far names threads many count have given).0 ∙ ap (λ (ns : List ShardName). map (slots_of ns) threads) (take_all k names (omega (arith, many, far)))
