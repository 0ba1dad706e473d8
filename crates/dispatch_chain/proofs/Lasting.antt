-- On the walk up no two results are the same that are new to a checking part, and what unique parts keep goes on rising.
use Rattle.std.proofs.Common.{◌≡◌, ◌≢◌, ℕ, suc, ◌+◌, ◌-◌, ◌<◌, ◌==◌, ◌&&◌, ◌||◌, Bool, true, false, if◌then◌else◌, cond, Option, Some, None, List, [], ◌∷◌, ◌++◌, ◌⊎◌, inl, inr, length, map, slice_get, slice_set, not, eq-eqb, ap, sym, ◌∙◌, refl, subst, append_assoc, arith}
use Rattle.std.specs.List.{IsDistinct, AllByRecursion, list_any}
use Rattle.std.specs.Option.{option_map_or}
use Rattle.command_tables.specs.declared.types.CommandId.{CommandId}
use Rattle.command_tables.specs.declared.types.ObjectType.{ObjectType}
use Rattle.command_tables.specs.Calls.{CallContent}
use Rattle.command_tables.specs.Effects.{type_made}
use Rattle.command_tables.specs.Table.{row_of}
use Rattle.command_tables.specs.Tests.{same_type}
use Rattle.object_model.specs.declared.PartKind.{PartKind}
use Rattle.object_model.specs.declared.PartKind.TheVariants as kind
use Rattle.object_model.specs.History.{Birth, born_in}
use Rattle.object_model.specs.Objects.{same}
use Rattle.handle_map.specs.Pairs.{greatest_id}
use Rattle.layer_model.specs.Ids.{IdMap, IssuedAll, Key, is_wrapped, issue_all}
use Rattle.layer_model.specs.Parts.{key_read, there, unique_leave, unique_results}
use Rattle.layer_model.specs.Reading.{read_call, read_made, read_results}
use Rattle.layer_model.specs.Walks.{PartState, Left, are_parts_guarded, has_unique_kind, intercepts, kind_of}
use Rattle.layer_model.specs.Walks.{Threads, Lifetimes, Unique}
use Rattle.object_records.specs.Shape.{AreNewOnce}
use Rattle.object_records.proofs.Once.{distinct_part}
use Rattle.dispatch_chain.specs.declared.entry.Entry.{Entry}
use Rattle.dispatch_chain.specs.Entries.{CanLeave, MayLeaveAt, leave_entries, step_up, stepped_up}
use Rattle.dispatch_chain.specs.Holding.{AllOf}
use Rattle.dispatch_chain.specs.Kept.{AllBareOnce, AllKept, AllLost, AreRising, IsKept, IsRising, makes_wrapped}
use Rattle.dispatch_chain.specs.Rows.{entries_from, entries_of}
use Rattle.dispatch_chain.specs.Seats.{kinds_of}
use Rattle.dispatch_chain.specs.Steps.{left, left_results}
use Rattle.dispatch_chain.proofs.Issuing.{AllOfThem, AreApart, apart, differ, rises_all}
use Rattle.dispatch_chain.proofs.Stepping.{left_state}
use Rattle.dispatch_chain.proofs.Whole.{get_behind, index_there, next_place, set_behind}

-- ---- results that are apart

others_read : (t : ObjectType) (h : ℕ) (hs : List ℕ) → AllOfThem (λ y. (y ≡ 0) ⊎ (h ≢ y)) hs → AllByRecursion (λ y. same (record { ty = t; number = h }) y ≡ false) (read_results t hs)
others_read t h [] a = tt
others_read t h (x ∷ xs) a = go (x == 0) refl (others_read t h xs a.1)
  where
    and_not : (u v : Bool) → v ≡ false → (u && v) ≡ false
    and_not true v e = e
    and_not false v e = refl

    other : (x ≡ 0) ⊎ (h ≢ x) → (x == 0) ≡ false → (h == x) ≡ false
    other (inl z) e = let k : (x == 0) ≡ true = eq-eqb x 0 z in cc
    other (inr d) e = differ h x d

    go : (b : Bool) → (x == 0) ≡ b → AllByRecursion (λ y. same (record { ty = t; number = h }) y ≡ false) (read_results t xs) → AllByRecursion (λ y. same (record { ty = t; number = h }) y ≡ false) (cond b (read_results t xs) (record { ty = t; number = x } ∷ read_results t xs))
    go true e r = r
    go false e r = (and_not (same_type t t) (h == x) (other a.0 e), r)

distinct_read : (t : ObjectType) (hs : List ℕ) → AreApart hs → IsDistinct same (read_results t hs)
unfolding IsDistinct
distinct_read t [] a = tt
distinct_read t (h ∷ hs) a = go (h == 0) (distinct_read t hs a.1)
  where
    go : (b : Bool) → IsDistinct same (read_results t hs) → IsDistinct same (cond b (read_results t hs) (record { ty = t; number = h } ∷ read_results t hs))
    go true r = r
    go false r = (others_read t h hs a.0, r)

-- what is apart is new once
pub apart_once : (births : List Birth) (made : Option ObjectType) (hs : List ℕ) → AreApart hs → AreNewOnce births (read_made made hs)
unfolding IsDistinct
apart_once births None hs a = tt
apart_once births (Some t) hs a = distinct_part (λ o. not (born_in births o)) (read_results t hs) (distinct_read t hs a)

pub lost_apart : (hs : List ℕ) → AllLost hs → AreApart hs
lost_apart [] h = tt
lost_apart (x ∷ xs) h = (others xs h.1, lost_apart xs h.1)
  where
    others : (ys : List ℕ) → AllLost ys → AllOfThem (λ y. (y ≡ 0) ⊎ (x ≢ y)) ys
    others [] l = tt
    others (y ∷ ys) l = (inl l.0, others ys l.1)

-- ---- one unique part

ids_rise : (m : IdMap ℕ) (k : Option Key) (made : Option ObjectType) (hs : List ℕ) → AreRising 0 (greatest_id m.entries) m.kept → AreRising 0 (greatest_id (unique_results m k made hs).ids.entries) (unique_results m k made hs).ids.kept
ids_rise m k None hs h = h
ids_rise m k (Some t) hs h = go (is_wrapped t)
  where
    go : (b : Bool) → AreRising 0 (greatest_id (if b then issue_all m k t 0 (map there hs) else record { results = hs; ids = m }).ids.entries) (if b then issue_all m k t 0 (map there hs) else record { results = hs; ids = m }).ids.kept
    go true = rises_all m k t 0 (map there hs) h
    go false = h

ids_apart : (m : IdMap ℕ) (k : Option Key) (made : Option ObjectType) (hs : List ℕ) → option_map_or is_wrapped made false ≡ true → AreRising 0 (greatest_id m.entries) m.kept → AreApart (unique_results m k made hs).results
ids_apart m k None hs w h = cc
ids_apart m k (Some t) hs w h = subst (λ b. AreApart (if b then issue_all m k t 0 (map there hs) else record { results = hs; ids = m }).results) (sym w) (apart m k t 0 (map there hs) h)

ids_stay : (m : IdMap ℕ) (k : Option Key) (made : Option ObjectType) (hs : List ℕ) → option_map_or is_wrapped made false ≡ false → (unique_results m k made hs).results ≡ hs
ids_stay m k None hs w = refl
ids_stay m k (Some t) hs w = ap (λ b. (if b then issue_all m k t 0 (map there hs) else record { results = hs; ids = m }).results) w

-- what it keeps goes on rising, by what it was left as
pub unique_rises : (m m' : IdMap ℕ) (c : CallContent) (hs hs' : List ℕ) → record { results = hs'; ids = m' } ≡ unique_leave m c hs → IsRising m → IsRising m'
unique_rises m m' c hs hs' e h = subst (λ (w : IssuedAll ℕ). IsRising w.ids) (sym e) (ids_rise m (key_read c.cmd c.payload (read_call c) (row_of c.cmd).effect) (type_made (row_of c.cmd).effect) hs h)

kind_left : (thread : ℕ) (s : PartState) (c : CallContent) (rs : List ℕ) → kind_of (left thread s c rs) ≡ kind_of s
kind_left thread (Threads m) c rs = refl
kind_left thread (Lifetimes m) c rs = refl
kind_left thread (Unique m) c rs = refl

kept_left : (thread : ℕ) (s : PartState) (c : CallContent) (rs : List ℕ) → IsKept s → IsKept (left thread s c rs)
kept_left thread (Threads m) c rs h = tt
kept_left thread (Lifetimes m) c rs h = tt
kept_left thread (Unique m) c rs h = ids_rise m (key_read c.cmd c.payload (read_call c) (row_of c.cmd).effect) (type_made (row_of c.cmd).effect) rs h

-- ---- the parts below one

-- the parts down to one stay, and those below it keep what they keep in order
record Lasts (done : List PartState) (w : Left) : Type 0 where
  rest : List PartState
  states : w.states ≡ done ++ rest
  kept : AllKept rest

-- one part takes results in above parts that have
step_is : (thread k : ℕ) (done : List PartState) (p : PartState) (c : CallContent) (w : Left) (q : PartKind) → k ≡ suc (length done) → (l : Lasts (done ++ p ∷ []) w) → step_up thread (record { place = k; kind = q }) c w ≡ left_state (done ++ left thread p c w.results ∷ l.rest) (left_results p c w.results)
step_is thread k done p c w q hk l =
    let is : w.states ≡ done ++ p ∷ l.rest = l.states ∙ append_assoc done (p ∷ []) l.rest in
    let found : slice_get w.states (k - 1) ≡ Some p = ap (λ xs. slice_get xs (k - 1)) is ∙ ap (slice_get (done ++ p ∷ l.rest)) (index_there k done hk) ∙ get_behind done p l.rest in
    ap (stepped_up thread k c w) found
    ∙ ap (λ xs. left_state (slice_set xs (k - 1) (left thread p c w.results)) (left_results p c w.results)) is
    ∙ ap (λ i. left_state (slice_set (done ++ p ∷ l.rest) i (left thread p c w.results)) (left_results p c w.results)) (index_there k done hk)
    ∙ ap (λ xs. left_state xs (left_results p c w.results)) (set_behind done p (left thread p c w.results) l.rest ∙ append_assoc done (left thread p c w.results ∷ []) l.rest)

there_is : (k : ℕ) (done : List PartState) (p : PartState) (w : Left) → k ≡ suc (length done) → Lasts (done ++ p ∷ []) w → slice_get w.states (k - 1) ≡ Some p
there_is k done p w hk l = ap (λ xs. slice_get xs (k - 1)) (l.states ∙ append_assoc done (p ∷ []) l.rest) ∙ ap (slice_get (done ++ p ∷ l.rest)) (index_there k done hk) ∙ get_behind done p l.rest

lasts : (thread : ℕ) (cmd : CommandId) (done rest : List PartState) (k : ℕ) (fs : List CallContent) (rs : List ℕ) → k ≡ suc (length done) → AllKept rest → Lasts done (leave_entries thread (entries_from cmd k (kinds_of rest)) fs (left_state (done ++ rest) rs))
lasts thread cmd done [] k fs rs hk h = record { rest = []; states = refl; kept = tt }
lasts thread cmd done (p ∷ ps) k fs rs hk h = go (λ gs. lasts thread cmd (done ++ p ∷ []) ps (k + 1) gs rs (next_place k done p hk) h.1) (intercepts (kind_of p) cmd) fs
  where
    es : List Entry
    es = entries_from cmd (k + 1) (kinds_of ps)

    start : Left
    start = left_state (done ++ p ∷ ps) rs

    shift : ((gs : List CallContent) → Lasts (done ++ p ∷ []) (leave_entries thread es gs (left_state ((done ++ p ∷ []) ++ ps) rs))) → (gs : List CallContent) → Lasts (done ++ p ∷ []) (leave_entries thread es gs start)
    shift ih gs = subst (λ (xs : List PartState). Lasts (done ++ p ∷ []) (leave_entries thread es gs (left_state xs rs))) (append_assoc done (p ∷ []) ps) (ih gs)

    go : ((gs : List CallContent) → Lasts (done ++ p ∷ []) (leave_entries thread es gs (left_state ((done ++ p ∷ []) ++ ps) rs))) → (b : Bool) (gs : List CallContent) → Lasts done (leave_entries thread (if b then record { place = k; kind = kind_of p } ∷ es else es) gs start)
    go ih true [] = record { rest = p ∷ ps; states = refl; kept = h }
    go ih true (g ∷ gs) = subst (Lasts done) (sym (step_is thread k done p g (leave_entries thread es gs start) (kind_of p) hk (shift ih gs)))
        (record { rest = left thread p g (leave_entries thread es gs start).results ∷ (shift ih gs).rest; states = refl; kept = (kept_left thread p g (leave_entries thread es gs start).results h.0, (shift ih gs).kept) })
    go ih false gs = let l : Lasts (done ++ p ∷ []) (leave_entries thread es gs start) = shift ih gs in record { rest = p ∷ l.rest; states = l.states ∙ append_assoc done (p ∷ []) l.rest; kept = (h.0, l.kept) }

-- what unique parts keep goes on rising, all the way up
pub kept_up : (thread : ℕ) (cmd : CommandId) (states : List PartState) (fs : List CallContent) (rs : List ℕ) → AllKept states → AllKept (leave_entries thread (entries_of cmd (kinds_of states)) fs (left_state states rs)).states
kept_up thread cmd states fs rs h = let l = lasts thread cmd [] states 1 fs rs refl h in subst AllKept (sym l.states) l.kept

-- ---- results on the way up

one_stays : (s : PartState) (cmd : CommandId) (c : CallContent) (rs : List ℕ) → c.cmd ≡ cmd → makes_wrapped cmd ≡ false → left_results s c rs ≡ rs
one_stays (Threads m) cmd c rs hc w = refl
one_stays (Lifetimes m) cmd c rs hc w = refl
one_stays (Unique m) cmd c rs hc w = ids_stay m (key_read c.cmd c.payload (read_call c) (row_of c.cmd).effect) (type_made (row_of c.cmd).effect) rs (ap makes_wrapped hc ∙ w)

-- results for which no unique part issues ids come up as they are
results_stay_up : (thread : ℕ) (cmd : CommandId) (es : List Entry) (fs : List CallContent) (w : Left) → AllOf cmd fs → makes_wrapped cmd ≡ false → (leave_entries thread es fs w).results ≡ w.results
results_stay_up thread cmd [] fs w ha n = refl
results_stay_up thread cmd (e ∷ es) [] w ha n = refl
results_stay_up thread cmd (e ∷ es) (c ∷ cs) w ha n = go (slice_get (leave_entries thread es cs w).states (e.place - 1)) ∙ results_stay_up thread cmd es cs w ha.1 n
  where
    go : (o : Option PartState) → (stepped_up thread e.place c (leave_entries thread es cs w) o).results ≡ (leave_entries thread es cs w).results
    go None = refl
    go (Some s) = one_stays s cmd c (leave_entries thread es cs w).results ha.0 n

both_left : (a b : Bool) → (a && b) ≡ true → a ≡ true
both_left true b h = refl
both_left false b h = cc

both_right : (a b : Bool) → (a && b) ≡ true → b ≡ true
both_right true b h = h
both_right false b h = cc

or_right : (a b : Bool) → b ≡ true → (a || b) ≡ true
or_right true b h = refl
or_right false b h = h

lasts_below : (thread : ℕ) (cmd : CommandId) (done : List PartState) (p : PartState) (ps : List PartState) (k : ℕ) (gs : List CallContent) (rs : List ℕ) → k ≡ suc (length done) → AllKept ps
    → Lasts (done ++ p ∷ []) (leave_entries thread (entries_from cmd (k + 1) (kinds_of ps)) gs (left_state (done ++ p ∷ ps) rs))
lasts_below thread cmd done p ps k gs rs hk h =
    subst (λ (xs : List PartState). Lasts (done ++ p ∷ []) (leave_entries thread (entries_from cmd (k + 1) (kinds_of ps)) gs (left_state xs rs))) (append_assoc done (p ∷ []) ps) (lasts thread cmd (done ++ p ∷ []) ps (k + 1) gs rs (next_place k done p hk) h)

-- results are apart above a part that leaves them so
own_apart : (thread : ℕ) (cmd : CommandId) (done : List PartState) (p : PartState) (ps : List PartState) (k : ℕ) (gs : List CallContent) (rs : List ℕ) → k ≡ suc (length done) → AllKept ps → AllOf cmd gs
    → (length gs < suc (length (entries_from cmd (k + 1) (kinds_of ps))) → AllLost rs)
    → ((j : CallContent) (js : List CallContent) → j.cmd ≡ cmd → AllOf cmd js → (length js < length (entries_from cmd (k + 1) (kinds_of ps)) → AllLost rs)
    → AreApart (left_results p j (leave_entries thread (entries_from cmd (k + 1) (kinds_of ps)) js (left_state (done ++ p ∷ ps) rs)).results))
    → AreApart (leave_entries thread (record { place = k; kind = kind_of p } ∷ entries_from cmd (k + 1) (kinds_of ps)) gs (left_state (done ++ p ∷ ps) rs)).results
own_apart thread cmd done p ps k [] rs hk h a l f = lost_apart rs (l (omega arith))
own_apart thread cmd done p ps k (g ∷ gs) rs hk h a l f =
    subst (λ (x : Left). AreApart x.results) (sym (step_is thread k done p g (leave_entries thread (entries_from cmd (k + 1) (kinds_of ps)) gs (left_state (done ++ p ∷ ps) rs)) (kind_of p) hk (lasts_below thread cmd done p ps k gs rs hk h)))
    (f g gs a.0 a.1 (λ s. l (omega (arith, s))))

-- those for which they do are apart above a unique part
results_apart : (thread : ℕ) (cmd : CommandId) (done rest : List PartState) (k : ℕ) (fs : List CallContent) (rs : List ℕ) → k ≡ suc (length done) → makes_wrapped cmd ≡ true → AllOf cmd fs → AllKept rest → has_unique_kind (kinds_of rest) ≡ true
    → (length fs < length (entries_from cmd k (kinds_of rest)) → AllLost rs) → AreApart (leave_entries thread (entries_from cmd k (kinds_of rest)) fs (left_state (done ++ rest) rs)).results
results_apart thread cmd done [] k fs rs hk w ha h u l = cc
results_apart thread cmd done (Threads m ∷ ps) k fs rs hk w ha h u l = own_apart thread cmd done (Threads m) ps k fs rs hk h.1 ha l (λ j js hj hjs lj. subst (λ (xs : List PartState). AreApart (leave_entries thread (entries_from cmd (k + 1) (kinds_of ps)) js (left_state xs rs)).results) (append_assoc done (Threads m ∷ []) ps)
    (results_apart thread cmd (done ++ Threads m ∷ []) ps (k + 1) js rs (next_place k done (Threads m) hk) w hjs h.1 u lj))
results_apart thread cmd done (Lifetimes m ∷ ps) k fs rs hk w ha h u l = own_apart thread cmd done (Lifetimes m) ps k fs rs hk h.1 ha l (λ j js hj hjs lj. subst (λ (xs : List PartState). AreApart (leave_entries thread (entries_from cmd (k + 1) (kinds_of ps)) js (left_state xs rs)).results) (append_assoc done (Lifetimes m ∷ []) ps)
    (results_apart thread cmd (done ++ Lifetimes m ∷ []) ps (k + 1) js rs (next_place k done (Lifetimes m) hk) w hjs h.1 u lj))
results_apart thread cmd done (Unique m ∷ ps) k fs rs hk w ha h u l =
    let hi : intercepts kind.Unique cmd ≡ true = or_right (list_any (λ p. is_wrapped p.ty) (row_of cmd).params) (makes_wrapped cmd) w in
    subst (λ b. (length fs < length (if b then record { place = k; kind = kind.Unique } ∷ entries_from cmd (k + 1) (kinds_of ps) else entries_from cmd (k + 1) (kinds_of ps)) → AllLost rs)
    → AreApart (leave_entries thread (if b then record { place = k; kind = kind.Unique } ∷ entries_from cmd (k + 1) (kinds_of ps) else entries_from cmd (k + 1) (kinds_of ps)) fs (left_state (done ++ Unique m ∷ ps) rs)).results) (sym hi)
    (λ x. own_apart thread cmd done (Unique m) ps k fs rs hk h.1 ha x
    (λ j js hj hjs lj. ids_apart m (key_read j.cmd j.payload (read_call j) (row_of j.cmd).effect) (type_made (row_of j.cmd).effect) (leave_entries thread (entries_from cmd (k + 1) (kinds_of ps)) js (left_state (done ++ Unique m ∷ ps) rs)).results (ap makes_wrapped hj ∙ w) h.0)) l

-- the same of the parts behind one
apart_below : (thread : ℕ) (cmd : CommandId) (done : List PartState) (p : PartState) (ps : List PartState) (k : ℕ) (gs : List CallContent) (rs : List ℕ) → k ≡ suc (length done) → makes_wrapped cmd ≡ true → AllOf cmd gs → AllKept ps → has_unique_kind (kinds_of ps) ≡ true
    → (length gs < length (entries_from cmd (k + 1) (kinds_of ps)) → AllLost rs) → AreApart (leave_entries thread (entries_from cmd (k + 1) (kinds_of ps)) gs (left_state (done ++ p ∷ ps) rs)).results
apart_below thread cmd done p ps k gs rs hk w ha h u l =
    subst (λ (xs : List PartState). AreApart (leave_entries thread (entries_from cmd (k + 1) (kinds_of ps)) gs (left_state xs rs)).results) (append_assoc done (p ∷ []) ps)
    (results_apart thread cmd (done ++ p ∷ []) ps (k + 1) gs rs (next_place k done p hk) w ha h u l)

-- ---- the walk up may be gone

-- results that are apart above a guarded checking part, or that no unique part gives ids
new_once : (births : List Birth) (cmd : CommandId) (g : CallContent) (rs hs : List ℕ) → g.cmd ≡ cmd → (makes_wrapped cmd ≡ true → AreApart hs) → (makes_wrapped cmd ≡ false → hs ≡ rs)
    → (makes_wrapped cmd ≡ false → AreNewOnce births (read_made (type_made (row_of cmd).effect) rs)) → AreNewOnce births (read_made (type_made (row_of g.cmd).effect) hs)
new_once births cmd g rs hs hg wrapped stay bare = subst (λ c. AreNewOnce births (read_made (type_made (row_of c).effect) hs)) (sym hg) (go (makes_wrapped cmd) refl)
  where
    go : (b : Bool) → makes_wrapped cmd ≡ b → AreNewOnce births (read_made (type_made (row_of cmd).effect) hs)
    go true e = apart_once births (type_made (row_of cmd).effect) hs (wrapped e)
    go false e = subst (λ xs. AreNewOnce births (read_made (type_made (row_of cmd).effect) xs)) (sym (stay e)) (bare e)

-- a checking part
can_check : (thread : ℕ) (cmd : CommandId) (done : List PartState) (p : PartState) (ps : List PartState) (births : List Birth) (k : ℕ) (fs : List CallContent) (rs : List ℕ)
    → ((gs : List CallContent) → AllOf cmd gs → (length gs < length (entries_from cmd (k + 1) (kinds_of ps)) → AllLost rs) → CanLeave thread (entries_from cmd (k + 1) (kinds_of ps)) gs (left_state (done ++ p ∷ ps) rs))
    → ((g : CallContent) (hs : List ℕ) → AreNewOnce births (read_made (type_made (row_of g.cmd).effect) hs) → MayLeaveAt g hs (Some p))
    → k ≡ suc (length done) → AllOf cmd fs → AllKept ps → (has_unique_kind (kinds_of ps) && are_parts_guarded (kinds_of ps)) ≡ true → (makes_wrapped cmd ≡ false → AreNewOnce births (read_made (type_made (row_of cmd).effect) rs))
    → (length fs < suc (length (entries_from cmd (k + 1) (kinds_of ps))) → AllLost rs) → CanLeave thread (record { place = k; kind = kind_of p } ∷ entries_from cmd (k + 1) (kinds_of ps)) fs (left_state (done ++ p ∷ ps) rs)
can_check thread cmd done p ps births k [] rs on may hk ha h u b l = tt
can_check thread cmd done p ps births k (g ∷ gs) rs on may hk ha h u b l =
    let es : List Entry = entries_from cmd (k + 1) (kinds_of ps) in
    let w : Left = leave_entries thread es gs (left_state (done ++ p ∷ ps) rs) in (
      subst (MayLeaveAt g w.results) (sym (there_is k done p w hk (lasts_below thread cmd done p ps k gs rs hk h)))
          (may g w.results (new_once births cmd g rs w.results ha.0
          (λ e. apart_below thread cmd done p ps k gs rs hk e ha.1 h (both_left (has_unique_kind (kinds_of ps)) (are_parts_guarded (kinds_of ps)) u) (λ s. l (omega (arith, s))))
          (λ e. results_stay_up thread cmd es gs (left_state (done ++ p ∷ ps) rs) ha.1 e) b)),
      on gs ha.1 (λ s. l (omega (arith, s))),
    )

-- a unique part
can_wrap : (thread : ℕ) (cmd : CommandId) (done : List PartState) (m : IdMap ℕ) (ps : List PartState) (k : ℕ) (fs : List CallContent) (rs : List ℕ)
    → ((gs : List CallContent) → AllOf cmd gs → (length gs < length (entries_from cmd (k + 1) (kinds_of ps)) → AllLost rs) → CanLeave thread (entries_from cmd (k + 1) (kinds_of ps)) gs (left_state (done ++ Unique m ∷ ps) rs))
    → k ≡ suc (length done) → AllOf cmd fs → AllKept ps → (b : Bool)
    → (length fs < length (if b then record { place = k; kind = kind.Unique } ∷ entries_from cmd (k + 1) (kinds_of ps) else entries_from cmd (k + 1) (kinds_of ps)) → AllLost rs)
    → CanLeave thread (if b then record { place = k; kind = kind.Unique } ∷ entries_from cmd (k + 1) (kinds_of ps) else entries_from cmd (k + 1) (kinds_of ps)) fs (left_state (done ++ Unique m ∷ ps) rs)
can_wrap thread cmd done m ps k fs rs on hk ha h false l = on fs ha l
can_wrap thread cmd done m ps k [] rs on hk ha h true l = tt
can_wrap thread cmd done m ps k (g ∷ gs) rs on hk ha h true l =
    let w : Left = leave_entries thread (entries_from cmd (k + 1) (kinds_of ps)) gs (left_state (done ++ Unique m ∷ ps) rs) in (
      subst (MayLeaveAt g w.results) (sym (there_is k done (Unique m) w hk (lasts_below thread cmd done (Unique m) ps k gs rs hk h))) tt,
      on gs ha.1 (λ s. l (omega (arith, s))),
    )

can_go : (thread : ℕ) (cmd : CommandId) (done rest : List PartState) (k : ℕ) (fs : List CallContent) (rs : List ℕ) → k ≡ suc (length done) → AllOf cmd fs → AllKept rest → are_parts_guarded (kinds_of rest) ≡ true → AllBareOnce cmd rs rest
    → (length fs < length (entries_from cmd k (kinds_of rest)) → AllLost rs) → CanLeave thread (entries_from cmd k (kinds_of rest)) fs (left_state (done ++ rest) rs)
can_go thread cmd done [] k fs rs hk ha h u b l = tt
can_go thread cmd done (Threads m ∷ ps) k fs rs hk ha h u b l =
    can_check thread cmd done (Threads m) ps m.births k fs rs
    (λ gs a s. subst (λ (xs : List PartState). CanLeave thread (entries_from cmd (k + 1) (kinds_of ps)) gs (left_state xs rs)) (append_assoc done (Threads m ∷ []) ps)
    (can_go thread cmd (done ++ Threads m ∷ []) ps (k + 1) gs rs (next_place k done (Threads m) hk) a h.1 (both_right (has_unique_kind (kinds_of ps)) (are_parts_guarded (kinds_of ps)) u) b.1 s))
    (λ g hs x. x) hk ha h.1 u b.0 l
can_go thread cmd done (Lifetimes m ∷ ps) k fs rs hk ha h u b l =
    can_check thread cmd done (Lifetimes m) ps m.births k fs rs
    (λ gs a s. subst (λ (xs : List PartState). CanLeave thread (entries_from cmd (k + 1) (kinds_of ps)) gs (left_state xs rs)) (append_assoc done (Lifetimes m ∷ []) ps)
    (can_go thread cmd (done ++ Lifetimes m ∷ []) ps (k + 1) gs rs (next_place k done (Lifetimes m) hk) a h.1 (both_right (has_unique_kind (kinds_of ps)) (are_parts_guarded (kinds_of ps)) u) b.1 s))
    (λ g hs x. x) hk ha h.1 u b.0 l
can_go thread cmd done (Unique m ∷ ps) k fs rs hk ha h u b l =
    can_wrap thread cmd done m ps k fs rs
    (λ gs a s. subst (λ (xs : List PartState). CanLeave thread (entries_from cmd (k + 1) (kinds_of ps)) gs (left_state xs rs)) (append_assoc done (Unique m ∷ []) ps)
    (can_go thread cmd (done ++ Unique m ∷ []) ps (k + 1) gs rs (next_place k done (Unique m) hk) a h.1 u b.1 s))
    hk ha h.1 (intercepts kind.Unique cmd) l

-- the walk up over the row of a command may be gone
pub row_can : (thread : ℕ) (cmd : CommandId) (states : List PartState) (es : List Entry) (fs : List CallContent) (rs : List ℕ) → es ≡ entries_of cmd (kinds_of states) → AllOf cmd fs → AllKept states → are_parts_guarded (kinds_of states) ≡ true → AllBareOnce cmd rs states
    → (length fs < length (entries_of cmd (kinds_of states)) → AllLost rs) → CanLeave thread es fs (left_state states rs)
row_can thread cmd states es fs rs he ha h u b l = subst (λ x. CanLeave thread x fs (left_state states rs)) (sym he) (can_go thread cmd [] states 1 fs rs refl ha h u b l)
