-- Lists of places, arguments and names are read just as they are spelled.
use Rattle.std.proofs.Common.{◌≡◌, ℕ, ◌==◌, ◌<◌, decimal, nat_le, Bool, true, false, not, ◌&&◌, cond, ◌⊎◌, inl, inr, Option, Some, None, is_some, IsSome, List, [], ◌∷◌, ◌++◌, map, length, refl, sym, ap, ◌∙◌, arith, subst, codes, lit<, eqb-true}
use Rattle.std.specs.Option.{option_map}
use Rattle.std.specs.List.{AllByRecursion, join_with_byte, list_all, onto_first}
use Rattle.std.specs.Str.{bytes_eq}
use Rattle.std.proofs.lemmas.Bool.{and_parts, and_from}
use Rattle.std.proofs.lemmas.List.Splits.{join_with_byte-slice_split}
use Rattle.std.proofs.lemmas.Slice.Eq.{bytes_eq-Decides}
use Rattle.command_tables.specs.Table.{ParamSpec}
use Rattle.trace_format.specs.declared.event.Name.{Name}
use Rattle.trace_format.specs.Content.{Arg}
use Rattle.trace_format.specs.Grammar.{FitParams, HasFirst, HasForm, IsOne, arg_text, one_text}
use Rattle.trace_format.specs.Words.{after, all_of, arg_of, args_of, closed, from, is_nonempty, list_in, list_of, one_of, pieces, places_of, single, until}
use Rattle.trace_format.specs.Reading.{has_first}
use Rattle.trace_format.proofs.Texts.{Each, after_is, all_complete, all_sound, each, each_append, from_append, is_not, mapped, passed, until_append, until_from, went, were}
use Rattle.trace_format.proofs.Names.{one_lacks, one_reader}

-- ---- pieces between commas

-- a text without a comma is the one piece
pieces_one : (t : List ℕ) → Each (is_not 44) t → pieces t ≡ t ∷ []
pieces_one [] h = refl
pieces_one (b ∷ t) h = go (b == 44) h.0 (pieces_one t h.1)
  where
    go : (x : Bool) → not x ≡ true → pieces t ≡ t ∷ [] → cond x ([] ∷ pieces t) (onto_first b (pieces t)) ≡ (b ∷ t) ∷ []
    go true h ih = cc
    go false h ih = ap (λ ps. onto_first b ps) ih

-- a text without a comma, before a comma, is the first piece
pieces_cut : (t rest : List ℕ) → Each (is_not 44) t → pieces (t ++ 44 ∷ rest) ≡ t ∷ pieces rest
pieces_cut [] rest h = refl
pieces_cut (b ∷ t) rest h = go (b == 44) h.0 (pieces_cut t rest h.1)
  where
    go : (x : Bool) → not x ≡ true → pieces (t ++ 44 ∷ rest) ≡ t ∷ pieces rest
        → cond x ([] ∷ pieces (t ++ 44 ∷ rest)) (onto_first b (pieces (t ++ 44 ∷ rest))) ≡ (b ∷ t) ∷ pieces rest
    go true h ih = cc
    go false h ih = ap (λ ps. onto_first b ps) ih

-- what was joined with commas is cut there
pub pieces_join : (t : List ℕ) (ts : List (List ℕ)) → AllByRecursion (Each (is_not 44)) (t ∷ ts) → pieces (join_with_byte 44 (t ∷ ts)) ≡ t ∷ ts
pieces_join t [] h = pieces_one t h.0
pieces_join t (u ∷ us) h = pieces_cut t (join_with_byte 44 (u ∷ us)) h.0 ∙ ap (λ ps. t ∷ ps) (pieces_join u us h.1)

-- the pieces, joined, are the whole
pub join_pieces : (bytes : List ℕ) → bytes ≡ join_with_byte 44 (pieces bytes)
join_pieces bytes = sym (join_with_byte-slice_split 44 bytes)

-- each byte of what is joined passes a test that commas pass
pub each_join : (p : ℕ → Bool) → p 44 ≡ true → (ts : List (List ℕ)) → AllByRecursion (Each p) ts → Each p (join_with_byte 44 ts)
each_join p comma [] h = tt
each_join p comma (t ∷ []) h = h.0
each_join p comma (t ∷ u ∷ us) h = each_append p t (44 ∷ join_with_byte 44 (u ∷ us)) h.0 (comma, each_join p comma (u ∷ us) h.1)

-- what holds of the texts of values
pub all_texts : {X : Type 0} (V : X → Type 0) (text : X → List ℕ) (p : ℕ → Bool) → ((x : X) → V x → Each p (text x)) → (xs : List X) → AllByRecursion V xs → AllByRecursion (Each p) (map text xs)
all_texts V text p h [] v = tt
all_texts V text p h (x ∷ xs) v = (h x v.0, all_texts V text p h xs v.1)

-- ---- lists of places

-- neither a place nor a comma has the byte c
places_lack : (c : ℕ) → (c < 48) ⊎ (57 < c) → is_not c 37 ≡ true → is_not c 46 ≡ true → Each (is_not c) (codes "null") → (os : List (Option Name)) → AllByRecursion IsOne os → AllByRecursion (Each (is_not c)) (map one_text os)
places_lack c away percent dot null os v = all_texts IsOne one_text (is_not c) (λ o h. one_lacks c o away percent dot null h) os v

-- places that are joined to a text with a first byte are read piece by piece
places_of_joined : (b : ℕ) (t : List ℕ) (ts : List (List ℕ)) → places_of (join_with_byte 44 ((b ∷ t) ∷ ts)) ≡ all_of one_of (pieces (join_with_byte 44 ((b ∷ t) ∷ ts)))
places_of_joined b t [] = refl
places_of_joined b t (u ∷ us) = refl

-- places are read as they are spelled
places_complete : (os : List (Option Name)) → AllByRecursion IsOne os → places_of (join_with_byte 44 (map one_text os)) ≡ Some os
places_complete [] v = refl
places_complete (None ∷ os) v =
    places_of_joined 110 (codes "ull") (map one_text os)
    ∙ (ap (all_of one_of) (pieces_join (one_text None) (map one_text os) (places_lack 44 (inl (lit< tt)) refl refl (each (is_not 44) (codes "null") refl) (None ∷ os) v)) ∙ all_complete one_reader (None ∷ os) v)
places_complete (Some n ∷ os) v =
    places_of_joined 37 (decimal n.thread ++ (codes "." ++ decimal n.number)) (map one_text os)
    ∙ (ap (all_of one_of) (pieces_join (one_text (Some n)) (map one_text os) (places_lack 44 (inl (lit< tt)) refl refl (each (is_not 44) (codes "null") refl) (Some n ∷ os) v)) ∙ all_complete one_reader (Some n ∷ os) v)

-- a text that is read as places is their spelling
places_sound : (bytes : List ℕ) (os : List (Option Name)) → places_of bytes ≡ Some os → AllByRecursion IsOne os × (bytes ≡ join_with_byte 44 (map one_text os))
places_sound [] os h = let e : [] ≡ os = cc in subst (λ v. AllByRecursion IsOne v × ([] ≡ join_with_byte 44 (map one_text v))) e (tt, refl)
places_sound (b ∷ bytes) os h =
    let s = all_sound one_reader (pieces (b ∷ bytes)) os h in
    (s.0, join_pieces (b ∷ bytes) ∙ ap (λ ps. join_with_byte 44 ps) s.1)

-- ---- arguments

-- a list is read as it is spelled
list_complete : (os : List (Option Name)) → nat_le (length os) 1024 ≡ true → AllByRecursion IsOne os → list_of (codes "[" ++ (join_with_byte 44 (map one_text os) ++ codes "]")) ≡ Some (record { many = true; names = os })
unfolding list_of
list_complete os few v =
    let lacks : Each (is_not 93) (join_with_byte 44 (map one_text os)) = each_join (is_not 93) refl (map one_text os) (places_lack 93 (inr (lit< tt)) refl refl (each (is_not 93) (codes "null") refl) os v) in
    rw (until_append 93 (join_with_byte 44 (map one_text os)) (codes "]") lacks refl, from_append 93 (join_with_byte 44 (map one_text os)) (codes "]") lacks refl, places_complete os v, few) refl

-- a text that is read as a list is its spelling
list_sound : (w : List ℕ) (a : Arg) → list_of w ≡ Some a → HasForm true a × (w ≡ arg_text a)
unfolding list_of
list_sound w a h =
    let open_ = went (after (codes "[") w) list_in a h in
    let places = went (places_of (until 93 open_.value)) (closed (from 93 open_.value)) a open_.gave in
    let shut = passed (bytes_eq (from 93 open_.value) (codes "]") && nat_le (length places.value) 1024) (record { many = true; names = places.value }) a places.gave in
    let parts = and_parts (bytes_eq (from 93 open_.value) (codes "]")) (nat_le (length places.value) 1024) shut.0 in
    let s = places_sound (until 93 open_.value) places.value places.read in
    let end : from 93 open_.value ≡ codes "]" = (bytes_eq-Decides (from 93 open_.value) (codes "]")).0 parts.0 in
    let text : w ≡ codes "[" ++ (join_with_byte 44 (map one_text places.value) ++ codes "]") =
    after_is (codes "[") w open_.value open_.read ∙ ap (λ r. 91 ∷ r) (until_from 93 open_.value ∙ (ap (λ r. r ++ from 93 open_.value) s.1 ∙ ap (λ r. join_with_byte 44 (map one_text places.value) ++ r) end)) in
    subst (λ v. HasForm true v × (w ≡ arg_text v)) shut.1 ((refl, parts.1, s.0), text)

-- a list of one
one_of_one : (os : List (Option Name)) → (length os == 1) ≡ true → (o : Option Name) × (os ≡ o ∷ [])
one_of_one [] h = cc
one_of_one (o ∷ []) h = (o, refl)
one_of_one (o ∷ u ∷ us) h = let e : length (o ∷ u ∷ us) ≡ 1 = eqb-true (length (o ∷ u ∷ us)) 1 h in absurd (omega arith)

-- an argument is read as it is spelled
arg_complete : (many : Bool) (a : Arg) → HasForm many a → arg_of many (arg_text a) ≡ Some a
unfolding arg_of
arg_complete true a v =
    let text : arg_text a ≡ codes "[" ++ (join_with_byte 44 (map one_text a.names) ++ codes "]") = ap (λ m. cond m (codes "[" ++ (join_with_byte 44 (map one_text a.names) ++ codes "]")) (join_with_byte 44 (map one_text a.names))) v.0 in
    ap list_of text ∙ (list_complete a.names v.1 v.2 ∙ ap (λ m. Some (record { many = m; names = a.names })) (sym v.0))
arg_complete false a v =
    let o = one_of_one a.names v.1 in
    let one : IsOne o.0 = (subst (λ os. AllByRecursion IsOne os) o.1 v.2).0 in
    let text : arg_text a ≡ one_text o.0 = ap (λ m. cond m (codes "[" ++ (join_with_byte 44 (map one_text a.names) ++ codes "]")) (join_with_byte 44 (map one_text a.names))) v.0 ∙ ap (λ os. join_with_byte 44 (map one_text os)) o.1 in
    ap (λ w. option_map single (one_of w)) text ∙ (ap (λ m. option_map single m) (one_reader.complete o.0 one) ∙ (ap (λ os. Some (record { many = false; names = os })) (sym o.1) ∙ ap (λ m. Some (record { many = m; names = a.names })) (sym v.0)))

-- a text that is read as an argument is its spelling
arg_sound : (many : Bool) (w : List ℕ) (a : Arg) → arg_of many w ≡ Some a → HasForm many a × (w ≡ arg_text a)
unfolding arg_of
arg_sound true w a h = list_sound w a h
arg_sound false w a h =
    let m = mapped single (one_of w) a h in
    let s = one_reader.sound w m.value m.read in
    subst (λ v. HasForm false v × (w ≡ arg_text v)) m.gave ((refl, refl, (s.0, tt)), s.1)

-- arguments are read as they are spelled
pub args_complete : (ps : List ParamSpec) (args : List Arg) → FitParams ps args → args_of ps (map arg_text args) ≡ Some args
args_complete [] [] v = refl
args_complete [] (a ∷ args) v = absurd v
args_complete (p ∷ ps) [] v = absurd v
args_complete (p ∷ ps) (a ∷ args) v = rw (arg_complete p.many a v.0, args_complete ps args v.1) refl

-- texts that are read as arguments are their spellings
pub args_sound : (ps : List ParamSpec) (ws : List (List ℕ)) (args : List Arg) → args_of ps ws ≡ Some args → FitParams ps args × (ws ≡ map arg_text args)
args_sound [] [] args h = let e : [] ≡ args = cc in subst (λ v. FitParams [] v × ([] ≡ map arg_text v)) e (tt, refl)
args_sound [] (w ∷ ws) args h = cc
args_sound (p ∷ ps) [] args h = cc
args_sound (p ∷ ps) (w ∷ ws) args h =
    let b = were (arg_of p.many w) (args_of ps ws) args h in
    let one = arg_sound p.many w b.first b.one in
    let rest = args_sound ps ws b.rest b.others in
    subst (λ v. FitParams (p ∷ ps) v × (w ∷ ws ≡ map arg_text v)) b.all ((one.0, rest.0), ap (λ x. x ∷ ws) one.1 ∙ ap (λ xs. arg_text b.first ∷ xs) rest.1)

-- each byte of an argument passes a test that places, commas and brackets pass
pub arg_each : (p : ℕ → Bool) → ((o : Option Name) → IsOne o → Each p (one_text o)) → p 44 ≡ true → p 91 ≡ true → p 93 ≡ true → (many : Bool) (a : Arg) → HasForm many a → Each p (arg_text a)
arg_each p one comma left right true a v =
    let text : arg_text a ≡ codes "[" ++ (join_with_byte 44 (map one_text a.names) ++ codes "]") = ap (λ m. cond m (codes "[" ++ (join_with_byte 44 (map one_text a.names) ++ codes "]")) (join_with_byte 44 (map one_text a.names))) v.0 in
    let inside : Each p (join_with_byte 44 (map one_text a.names)) = each_join p comma (map one_text a.names) (all_texts IsOne one_text p one a.names v.2) in
    subst (λ w. Each p w) (sym text) (left, each_append p (join_with_byte 44 (map one_text a.names)) (codes "]") inside (right, tt))
arg_each p one comma left right false a v =
    let text : arg_text a ≡ join_with_byte 44 (map one_text a.names) = ap (λ m. cond m (codes "[" ++ (join_with_byte 44 (map one_text a.names) ++ codes "]")) (join_with_byte 44 (map one_text a.names))) v.0 in
    subst (λ w. Each p w) (sym text) (each_join p comma (map one_text a.names) (all_texts IsOne one_text p one a.names v.2))

-- a place is not empty
one_nonempty : (o : Option Name) → is_nonempty (one_text o) ≡ true
one_nonempty None = refl
one_nonempty (Some n) = refl

-- an argument is not empty
pub arg_nonempty : (many : Bool) (a : Arg) → HasForm many a → is_nonempty (arg_text a) ≡ true
arg_nonempty true a v = ap (λ m. is_nonempty (cond m (codes "[" ++ (join_with_byte 44 (map one_text a.names) ++ codes "]")) (join_with_byte 44 (map one_text a.names)))) v.0
arg_nonempty false a v =
    let o = one_of_one a.names v.1 in
    ap (λ m. is_nonempty (cond m (codes "[" ++ (join_with_byte 44 (map one_text a.names) ++ codes "]")) (join_with_byte 44 (map one_text a.names)))) v.0
    ∙ (ap (λ os. is_nonempty (join_with_byte 44 (map one_text os))) o.1 ∙ one_nonempty o.0)

-- the first argument is not null, as a test and as a fact
all_some : (os : List (Option Name)) → AllByRecursion (λ o. IsSome o) os → list_all is_some os ≡ true
all_some [] h = refl
all_some (o ∷ os) h = and_from (is_some o) (list_all is_some os) h.0 (all_some os h.1)

-- and the other way round
some_all : (os : List (Option Name)) → list_all is_some os ≡ true → AllByRecursion (λ o. IsSome o) os
some_all [] h = tt
some_all (o ∷ os) h = let parts = and_parts (is_some o) (list_all is_some os) h in (parts.0, some_all os parts.1)

-- a first argument that is not null passes the test
pub first_complete : (args : List Arg) → HasFirst args → has_first args ≡ true
first_complete [] h = refl
first_complete (a ∷ args) h = all_some a.names h

-- and one that passes it is not null
pub first_sound : (args : List Arg) → has_first args ≡ true → HasFirst args
first_sound [] h = tt
first_sound (a ∷ args) h = some_all a.names h
