-- What is listed anew, in the memory of the lists that stood.
use Rattle.std.proofs.Common.{◌≡◌, ◌<◌, ◌≤◌, ◌+◌, ◌-◌, ℕ, Bool, true, false, cond, ◌||◌, Option, Some, None, List, [], ◌∷◌, ◌++◌, map, length, take, get_or, set, refl, sym, ◌∙◌, ap, subst, arith, slice_get, unwrap_or, append-nil, drop, take_all}
use Rattle.std.specs.Prelude.{is_some}
use Rattle.std.specs.Option.{option_map}
use Rattle.std.specs.Vec.{with_item}
use Rattle.std.proofs.lemmas.List.{drop_all, map-append, take_more}
use Rattle.std.proofs.lemmas.List.Sums.{sum_by_more}
use Rattle.std.proofs.lemmas.Option.{slice_get_read}
use Rattle.object_model.specs.declared.Object.{Object}
use Rattle.object_model.specs.Objects.{same, is_in}
use Rattle.object_model.specs.History.{Birth, owners_in}
use Rattle.session_tables.specs.declared.birth_table.BirthEntry.{BirthEntry}
use Rattle.session_tables.specs.declared.owned_lists.OwnedNode.{OwnedNode}
use Rattle.session_tables.specs.declared.placed_table.Placed.{Placed}
use Rattle.session_tables.specs.declared.placed_table.PlacedTable.{PlacedTable}
use Rattle.session_tables.specs.Births.{birth_of, births_shown, owners_kept}
use Rattle.session_tables.specs.Filing.{kept}
use Rattle.session_tables.specs.Owned.{LeadToNodes, has_head, head_in, links_of, objects_from}
use Rattle.session_tables.specs.Placed.{AreTheirPlaces, entry_of}
use Rattle.session_tables.proofs.Lists.{find_map, mapped, slice_get_map}
use Rattle.session_tables.proofs.Objects.{same-true}
use Rattle.session_tables.proofs.PlacedLemmas.{entry_at, some_is}
use Rattle.session_tables.proofs.Listing.{chained_more, head_put, newly_listed, put_stays, set_entry}

abbrev pub value_or : Option (Placed ℕ) → ℕ
value_or e = unwrap_or (option_map (λ (p : Placed ℕ). p.value) e) 0

-- ---- entries without nodes

abbrev pub unlinked : Placed ℕ → Placed ℕ
unlinked p = record { object = p.object; value = 0 }

unlinked_entry : (xs : List (Placed ℕ)) (w : Object) → entry_of (map unlinked xs) w ≡ mapped unlinked (entry_of xs w)
unlinked_entry xs w = find_map (λ (p : Placed ℕ). same p.object w) unlinked xs

pub unlinked_value : (xs : List (Placed ℕ)) (w : Object) → value_or (entry_of (map unlinked xs) w) ≡ 0
unlinked_value xs w = ap value_or (unlinked_entry xs w) ∙ go (entry_of xs w)
  where
    go : (e : Option (Placed ℕ)) → value_or (mapped unlinked e) ≡ 0
    go None = refl
    go (Some p) = refl

pub unlinked_has : (xs : List (Placed ℕ)) (w : Object) → is_some (entry_of (map unlinked xs) w) ≡ is_some (entry_of xs w)
unlinked_has xs w = ap is_some (unlinked_entry xs w) ∙ go (entry_of xs w)
  where
    go : (e : Option (Placed ℕ)) → is_some (mapped unlinked e) ≡ is_some e
    go None = refl
    go (Some p) = refl

pub unlinked_placed : (places : Object → Option ℕ) (xs : List (Placed ℕ)) → AreTheirPlaces places xs → AreTheirPlaces places (map unlinked xs)
unlinked_placed places xs placed i p at = go (slice_get xs i) refl (sym (slice_get_map unlinked xs i) ∙ at)
  where
    go : (e : Option (Placed ℕ)) → slice_get xs i ≡ e → mapped unlinked e ≡ Some p → places p.object ≡ Some i
    go None here is = cc is
    go (Some q) here is = ap (λ (r : Placed ℕ). places r.object) (sym (some_is (unlinked q) p is)) ∙ placed i q here

pub all_unlinked : (xs ys : List (Placed ℕ)) (i : ℕ) → ys ≡ map unlinked (take i xs) ++ drop i xs → length xs ≤ i → ys ≡ map unlinked xs
all_unlinked xs ys i is done =
    is ∙ (ap (λ (zs : List (Placed ℕ)). map unlinked zs ++ drop i xs) (take_all i xs done) ∙ (ap (λ (zs : List (Placed ℕ)). map unlinked xs ++ zs) (drop_all i xs done) ∙ append-nil (map unlinked xs)))

-- ---- an entry with another link

module _ (places : Object → Option ℕ) (xs : List (Placed ℕ)) (owner : Object) (i : ℕ) (d : Placed ℕ) (placed : AreTheirPlaces places xs) (less : i < length xs) (read : d ≡ get_or xs i d) (at : slice_get xs i ≡ entry_of xs owner) where
  there : slice_get xs i ≡ Some d
  there = slice_get_read xs (length xs) i d refl less read

  pub head_read : d.value ≡ value_or (entry_of xs owner)
  head_read = ap value_or (sym there ∙ at)

  pub relinked_has : (v : ℕ) (w : Object) → is_some (entry_of (set xs i (record { object = d.object; value = v })) w) ≡ is_some (entry_of xs w)
  relinked_has v w =
      let p : Placed ℕ = record { object = d.object; value = v } in
      let here = λ (q : Placed ℕ) (h : slice_get xs i ≡ Some q). ap (λ (x : Placed ℕ). x.object) (some_is q d (sym h ∙ there)) in
      ap is_some (set_entry places xs placed i p less here w) ∙ go (same d.object w) refl p
    where
      go : (t : Bool) → same d.object w ≡ t → (p : Placed ℕ) → is_some (cond t (Some p) (entry_of xs w)) ≡ is_some (entry_of xs w)
      go true h p = ap is_some (sym (entry_at places xs placed w i d there h))
      go false h p = refl

-- a node behind, as the latest of an owner that has an entry
abbrev pub relinked_heads : PlacedTable ℕ → ℕ → Placed ℕ → ℕ → PlacedTable ℕ
relinked_heads heads i d link = record { entries = with_item heads.entries i (record { object = d.object; value = link }); places = heads.places }

pub relinked : (heads : PlacedTable ℕ) (nodes news : List OwnedNode) (owner object : Object) (i link : ℕ) (b d : Placed ℕ) → LeadToNodes heads nodes → i < length heads.entries.items → slice_get heads.entries.items i ≡ entry_of heads.entries.items owner
    → b ≡ get_or heads.entries.items i b → d ≡ get_or heads.entries.items i d → link ≡ length nodes + 1 → news ≡ nodes ++ record { object = object; before = b.value } ∷ []
    → LeadToNodes (relinked_heads heads i d link) news
    × ((w o : Object) → is_in (objects_from nodes (head_in heads w)) o ≡ true → is_in (objects_from news (head_in (relinked_heads heads i d link) w)) o ≡ true)
    × (is_in (objects_from news (head_in (relinked_heads heads i d link) owner)) object ≡ true)
    × ((w : Object) → has_head (relinked_heads heads i d link) w ≡ has_head heads w)
relinked heads nodes news owner object i link b d chained less at read again behind is =
    let e : OwnedNode = record { object = object; before = b.value } in
    let xs = heads.entries.items in
    let after = relinked_heads heads i d link in
    let put = head_put (kept heads.places) xs owner i d link chained.placed less again at in
    let before = head_read (kept heads.places) xs owner i b chained.placed less read at in
    let more = chained_more heads after nodes news e owner link chained put.0 is before behind put.1 in
    let stay = put_stays (λ w. objects_from nodes (head_in heads w)) (λ w. objects_from news (head_in after w)) owner object more.1 in
    (more.0, stay.0, stay.1, relinked_has (kept heads.places) xs owner i d chained.placed less again at link)

-- ---- one birth more of those that are listed again

pub relisted_more : (births : List (Placed BirthEntry)) (i : ℕ) (p : Placed BirthEntry) (owners f g : List Object) (w : Object) → ((o : Object) → is_in (owners_in (births_shown (take i births)) o) w ≡ true → is_in f o ≡ true) → i < length births
    → p ≡ get_or births i p → owners ≡ owners_kept p.value.owners → ((o : Object) → is_in f o ≡ true → is_in g o ≡ true) → (is_in owners w ≡ true → is_in g p.object ≡ true)
    → (o : Object) → is_in (owners_in (births_shown (take (i + 1) births)) o) w ≡ true → is_in g o ≡ true
relisted_more births i p owners f g w all less is from stays own o owned =
    newly_listed (births_shown (take i births)) g (birth_of p) w (λ x there. stays x (all x there)) (λ mine. own (ap (λ os. is_in os w) from ∙ mine)) o
    (subst (λ (bs : List Birth). is_in (owners_in bs o) w ≡ true) shown owned)
  where
    shown : births_shown (take (i + 1) births) ≡ births_shown (take i births) ++ birth_of p ∷ []
    shown = ap births_shown (take_more births i p less) ∙ (map-append birth_of (take i births) (get_or births i p ∷ []) ∙ ap (λ (q : Placed BirthEntry). births_shown (take i births) ++ birth_of q ∷ []) (sym is))

-- ---- how many owners births have

-- those of one birth more
pub links_more : (births : List (Placed BirthEntry)) (i : ℕ) (p : Placed BirthEntry) (owners : List Object) → i < length births → p ≡ get_or births i p → owners ≡ owners_kept p.value.owners → links_of (take (i + 1) births) ≡ links_of (take i births) + length owners
links_more births i p owners less is from =
    sum_by_more (λ (q : Placed BirthEntry). length (owners_kept q.value.owners)) births i p less
    ∙ ap (λ (n : ℕ). links_of (take i births) + n) (ap (λ (q : Placed BirthEntry). length (owners_kept q.value.owners)) (sym is) ∙ ap length (sym from))

-- ---- one owner more, of those that have entries

pub relisted_at : (g : Object → List Object) (has : Object → Bool) (before : Bool) (owner object w : Object) → (before ≡ true → is_in (g w) object ≡ true) → (has owner ≡ true → is_in (g owner) object ≡ true) → has w ≡ true
    → (before || same owner w) ≡ true → is_in (g w) object ≡ true
relisted_at g has before owner object w was own there is = go before refl (same owner w) refl is
  where
    go : (b : Bool) → before ≡ b → (t : Bool) → same owner w ≡ t → (b || t) ≡ true → is_in (g w) object ≡ true
    go true k t h e = was k
    go false k true h e = let one : owner ≡ w = same-true owner w h in ap (λ y. is_in (g y) object) (sym one) ∙ own (ap has one ∙ there)
    go false k false h e = cc e

-- ---- numbers

pub two_steps : (a b c : ℕ) → a ≤ b → b ≤ c → a ≤ c
two_steps a b c first then = omega (arith, first, then)

pub one_more_node : (new mid old i : ℕ) → new ≤ mid + 1 → mid ≤ old + i → new ≤ old + (i + 1)
one_more_node new mid old i step before = omega (arith, step, before)
