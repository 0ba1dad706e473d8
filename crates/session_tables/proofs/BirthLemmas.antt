-- Births that stand as entries of their objects.
use Rattle.std.proofs.Common.{◌≡◌, ◌+◌, ◌<◌, ◌≤◌, ℕ, suc, Bool, true, false, not, cond, ◌&&◌, ◌||◌, Option, Some, None, List, [], ◌∷◌, ◌++◌, length, drop, get_or, refl, sym, subst, ◌∙◌, ap, arith, slice_get}
use Rattle.std.proofs.lemmas.List.{append-nil, append_assoc, drop_all, drop_more}
use Rattle.std.specs.Borrow.{Bor}
use Rattle.std.specs.Prelude.{is_some}
use Rattle.std.specs.List.{find, list_any}
use Rattle.std.specs.Option.{option_copied, option_map, option_map_or}
use Rattle.object_model.specs.declared.Object.{Object}
use Rattle.object_model.specs.Objects.{same}
use Rattle.object_model.specs.History.{Birth, born_in, created_in, owners_in}
use Rattle.session_tables.specs.declared.birth_table.BirthEntry.{BirthEntry}
use Rattle.session_tables.specs.declared.placed_table.Placed.{Placed}
use Rattle.session_tables.specs.declared.placed_table.PlacedTable.{PlacedTable}
use Rattle.session_tables.specs.Births.{AreApart, birth_of, births_shown, owners_kept}
use Rattle.session_tables.specs.Filing.{kept}
use Rattle.session_tables.specs.Lined.{AreLeft}
use Rattle.session_tables.specs.Placed.{ArePlaced, entry_of}
use Rattle.session_tables.proofs.Lists.{find_map, list_any_map, mapped, slice_get_map}
use Rattle.session_tables.proofs.Objects.{same-true}
use Rattle.session_tables.proofs.PlacedLemmas.{alone, said_alone, some_is}

any_found : {X : Type 0} (t : X → Bool) (xs : List X) → list_any t xs ≡ is_some (find t xs)
any_found t [] = refl
any_found {X = X} t (x ∷ xs) = go (t x) (any_found t xs)
  where
    go : (b : Bool) → list_any t xs ≡ is_some (find t xs) → (b || list_any t xs) ≡ is_some (cond b (Some x) (find t xs))
    go true ih = refl
    go false ih = ih

some_mapped : {X Y : Type 0} (f : X → Y) (o : Option X) → is_some o ≡ is_some (option_map f o)
some_mapped f None = refl
some_mapped f (Some x) = refl

pub some_copied : {X : Type 0} (r : Option (Bor X)) → is_some r ≡ is_some (option_copied r)
some_copied None = refl
some_copied (Some x) = refl

or_mapped : {X Y Z : Type 0} (f : X → Y) (g : Y → Z) (z : Z) (o : Option X) → option_map_or (λ x. g (f x)) o z ≡ option_map_or g (option_map f o) z
or_mapped f g z None = refl
or_mapped f g z (Some x) = refl

-- what is born has an entry
entry_born : (es : List (Placed BirthEntry)) (o : Object) → born_in (births_shown es) o ≡ is_some (entry_of es o)
entry_born es o = list_any_map (λ (b : Birth). same b.object o) birth_of es ∙ any_found (λ (p : Placed BirthEntry). same p.object o) es

entry_created : (t : PlacedTable BirthEntry) (o : Object) → ArePlaced t → created_in (births_shown t.entries.items) o ≡ option_map_or (λ (p : Placed BirthEntry). p.value.created) (entry_of t.entries.items o) false
entry_created t o placed =
    list_any_map (λ (b : Birth). same b.object o && b.created) birth_of t.entries.items ∙ said_alone (kept t.places) t.entries.items placed o (λ (p : Placed BirthEntry). p.value.created)

entry_owners : (es : List (Placed BirthEntry)) (o : Object) → owners_in (births_shown es) o ≡ option_map_or (λ (p : Placed BirthEntry). owners_kept p.value.owners) (entry_of es o) []
entry_owners es o = ap (λ (b : Option Birth). option_map_or (λ (x : Birth). x.owners) b []) (find_map (λ (b : Birth). same b.object o) birth_of es) ∙ go (entry_of es o)
  where
    go : (e : Option (Placed BirthEntry)) → option_map_or (λ (x : Birth). x.owners) (mapped birth_of e) [] ≡ option_map_or (λ (p : Placed BirthEntry). owners_kept p.value.owners) e []
    go None = refl
    go (Some p) = refl

-- ---- by what is found for an object

abbrev value_of : Placed BirthEntry → BirthEntry
value_of p = p.value

pub born_by : (es : List (Placed BirthEntry)) (bs : List Birth) (o : Object) (v : Option BirthEntry) → births_shown es ≡ bs → v ≡ option_map (λ p. p.value) (entry_of es o) → is_some v ≡ born_in bs o
born_by es bs o v view is = ap is_some is ∙ (sym (some_mapped value_of (entry_of es o)) ∙ (sym (entry_born es o) ∙ ap (λ (xs : List Birth). born_in xs o) view))

pub created_by : (t : PlacedTable BirthEntry) (bs : List Birth) (o : Object) (v : Option BirthEntry) → ArePlaced t → births_shown t.entries.items ≡ bs → v ≡ option_map (λ p. p.value) (entry_of t.entries.items o)
    → option_map_or (λ (e : BirthEntry). e.created) v false ≡ created_in bs o
created_by t bs o v placed view is =
    ap (λ (x : Option BirthEntry). option_map_or (λ (e : BirthEntry). e.created) x false) is
    ∙ (sym (or_mapped value_of (λ (e : BirthEntry). e.created) false (entry_of t.entries.items o)) ∙ (sym (entry_created t o placed) ∙ ap (λ (xs : List Birth). created_in xs o) view))

pub owners_by : (es : List (Placed BirthEntry)) (bs : List Birth) (o : Object) (v : Option BirthEntry) → births_shown es ≡ bs → v ≡ option_map (λ p. p.value) (entry_of es o)
    → option_map_or (λ (e : BirthEntry). owners_kept e.owners) v [] ≡ owners_in bs o
owners_by es bs o v view is =
    ap (λ (x : Option BirthEntry). option_map_or (λ (e : BirthEntry). owners_kept e.owners) x []) is
    ∙ (sym (or_mapped value_of (λ (e : BirthEntry). owners_kept e.owners) [] (entry_of es o)) ∙ (sym (entry_owners es o) ∙ ap (λ (xs : List Birth). owners_in xs o) view))

-- what isn't born has none
pub unborn_entry : (es : List (Placed BirthEntry)) (bs : List Birth) (o : Object) → births_shown es ≡ bs → born_in bs o ≡ false → entry_of es o ≡ None
unborn_entry es bs o view unborn = go (entry_of es o) (sym (entry_born es o) ∙ (ap (λ (xs : List Birth). born_in xs o) view ∙ unborn))
  where
    go : (e : Option (Placed BirthEntry)) → is_some e ≡ false → e ≡ None
    go None h = refl
    go (Some p) h = cc h

-- what is left where one birth was taken out
pub left_one : (t u : PlacedTable BirthEntry) (bs : List Birth) (o : Object) → ArePlaced t → ArePlaced u → births_shown t.entries.items ≡ bs → ((x : Object) → entry_of u.entries.items x ≡ cond (same o x) None (entry_of t.entries.items x))
    → AreLeft bs (same o) (births_shown u.entries.items)
left_one t u bs o tp up view is = record {
  lives = λ x. entry_born u.entries.items x ∙ (ap is_some (is x) ∙ (go (same o x) (entry_of t.entries.items x) ∙ ap (λ b. b && not (same o x)) (sym (entry_born t.entries.items x) ∙ ap (λ (xs : List Birth). born_in xs x) view)));
  alike = λ x there.
      let stays : entry_of u.entries.items x ≡ entry_of t.entries.items x = by x (same o x) refl (sym (entry_born u.entries.items x) ∙ there) in
      record {
        created =
            entry_created u x up
            ∙ (ap (λ (e : Option (Placed BirthEntry)). option_map_or (λ (p : Placed BirthEntry). p.value.created) e false) stays ∙ (sym (entry_created t x tp) ∙ ap (λ (xs : List Birth). created_in xs x) view));
        owners =
            entry_owners u.entries.items x
            ∙ (ap (λ (e : Option (Placed BirthEntry)). option_map_or (λ (p : Placed BirthEntry). owners_kept p.value.owners) e []) stays ∙ (sym (entry_owners t.entries.items x) ∙ ap (λ (xs : List Birth). owners_in xs x) view));
      };
}
  where
    go : (s : Bool) (e : Option (Placed BirthEntry)) → is_some (cond s None e) ≡ (is_some e && not s)
    go true None = refl
    go true (Some p) = refl
    go false None = refl
    go false (Some p) = refl

    by : (x : Object) (s : Bool) → same o x ≡ s → is_some (entry_of u.entries.items x) ≡ true → entry_of u.entries.items x ≡ entry_of t.entries.items x
    by x true h there = let gone : entry_of u.entries.items x ≡ None = is x ∙ ap (λ b. cond b None (entry_of t.entries.items x)) h in let none : is_some (entry_of u.entries.items x) ≡ false = ap is_some gone in cc
    by x false h there = is x ∙ ap (λ b. cond b None (entry_of t.entries.items x)) h

-- each object has one entry
pub births_apart : (t : PlacedTable BirthEntry) → ArePlaced t → AreApart (births_shown t.entries.items)
births_apart t placed i j b c here there is =
    let f = entry_got t.entries.items i b here in
    let g = entry_got t.entries.items j c there in
    (alone (kept t.places) t.entries.items placed i j f.0 g.0 f.1 g.1 (f.2 ∙ (same-true b.object c.object is ∙ sym g.2))).0
  where
    entry_got : (es : List (Placed BirthEntry)) (n : ℕ) (d : Birth) → slice_get (births_shown es) n ≡ Some d → (p : Placed BirthEntry) × (slice_get es n ≡ Some p) × (p.object ≡ d.object)
    entry_got es n d at = go (slice_get es n) refl (sym (slice_get_map birth_of es n) ∙ at)
      where
        go : (e : Option (Placed BirthEntry)) → slice_get es n ≡ e → mapped birth_of e ≡ Some d → (p : Placed BirthEntry) × (slice_get es n ≡ Some p) × (p.object ≡ d.object)
        go None h k = cc k
        go (Some p) h k = (p, h, ap (λ (x : Birth). x.object) (some_is (birth_of p) d k))

-- ---- birth by birth

got_at : {X : Type 0} (xs rest : List X) (x : X) → slice_get (xs ++ x ∷ rest) (length xs) ≡ Some x
got_at [] rest x = refl
got_at (y ∷ xs) rest x = got_at xs rest x

apart_behind : (b : Birth) (bs : List Birth) → AreApart (b ∷ bs) → AreApart bs
apart_behind b bs apart i j c d here there is = let one : suc i ≡ suc j = apart (suc i) (suc j) c d here there is in omega (arith, one)

-- the object of a birth isn't born by those before it
unborn_front : (xs rest : List Birth) (b : Birth) → AreApart (xs ++ b ∷ rest) → born_in xs b.object ≡ false
unborn_front [] rest b apart = refl
unborn_front (x ∷ xs) rest b apart = go (same x.object b.object) refl (unborn_front xs rest b (apart_behind x (xs ++ b ∷ rest) apart))
  where
    go : (t : Bool) → same x.object b.object ≡ t → born_in xs b.object ≡ false → (same x.object b.object || born_in xs b.object) ≡ false
    go true h more = let one : 0 ≡ suc (length xs) = apart 0 (suc (length xs)) x b refl (got_at xs rest b) h in absurd (omega (arith, one))
    go false h more = ap (λ u. u || born_in xs b.object) h ∙ more

-- the births that were taken, the next one, and those behind
next_birth : (table : List Birth) (births : List (Placed BirthEntry)) (i : ℕ) (p : Placed BirthEntry) → table ++ births_shown (drop i births) ≡ births_shown births → i < length births → p ≡ get_or births i p
    → table ++ birth_of p ∷ births_shown (drop (i + 1) births) ≡ births_shown births
next_birth table births i p all less is =
    ap (λ (q : Placed BirthEntry). table ++ birth_of q ∷ births_shown (drop (i + 1) births)) is
    ∙ (ap (λ (es : List (Placed BirthEntry)). table ++ births_shown es) (sym (drop_more births i p less)) ∙ all)

-- so it is where the births before it are taken in turn
pub unborn_before : (table : List Birth) (births : List (Placed BirthEntry)) (i : ℕ) (p : Placed BirthEntry) → AreApart (births_shown births) → table ++ births_shown (drop i births) ≡ births_shown births → i < length births → p ≡ get_or births i p
    → born_in table p.object ≡ false
unborn_before table births i p apart all less is =
    unborn_front table (births_shown (drop (i + 1) births)) (birth_of p) (subst AreApart (sym (next_birth table births i p all less is)) apart)

-- one birth more is taken
pub birth_taken : (table new : List Birth) (births : List (Placed BirthEntry)) (i : ℕ) (p : Placed BirthEntry) (owners : List Object) → table ++ births_shown (drop i births) ≡ births_shown births → i < length births → p ≡ get_or births i p
    → owners ≡ owners_kept p.value.owners → new ≡ table ++ record { object = p.object; created = p.value.created; owners = owners } ∷ [] → new ++ births_shown (drop (i + 1) births) ≡ births_shown births
birth_taken table new births i p owners all less is from more =
    let rest = births_shown (drop (i + 1) births) in
    ap (λ (bs : List Birth). bs ++ rest) (more ∙ ap (λ (os : List Object). table ++ record { object = p.object; created = p.value.created; owners = os } ∷ []) from)
    ∙ (append_assoc table (birth_of p ∷ []) rest ∙ next_birth table births i p all less is)

-- all are taken
pub births_taken : (table : List Birth) (births : List (Placed BirthEntry)) (i : ℕ) → table ++ births_shown (drop i births) ≡ births_shown births → length births ≤ i → table ≡ births_shown births
births_taken table births i all past =
    sym (append-nil table) ∙ (ap (λ (es : List (Placed BirthEntry)). table ++ births_shown es) (sym (drop_all i births past)) ∙ all)
