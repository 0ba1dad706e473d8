-- Files by their paths, and the names in a folder.
use Rattle.std.proofs.Common.{◌≡◌, ◌∙◌, ℕ, suc, ◌+◌, ◌<◌, get_or, take, length, arith, Bool, true, false, cond, eqb, ◌&&◌, ◌||◌, List, [], ◌∷◌, ◌++◌, map, refl, ap, sym, Option, Some, None, option_and_then, All, Contains, IsTrue, Bor, MatchOption, ◌≢◌}
use Rattle.std.proofs.lemmas.List.Prefix.{front_rest}
use Rattle.std.specs.List.{cons_option, filter_map, IsDistinct}
use Rattle.std.specs.Str.{bytes_eq}
use Rattle.std.proofs.lemmas.Bool.Decides.{Decides-eqb}
use Rattle.std.proofs.lemmas.Slice.Eq.{bytes_eq-Decides}
use Rattle.std.proofs.lemmas.List.{take_more, map-append}
use Rattle.std.proofs.lemmas.List.Elements.{filter_map-append, All-nil, All-cons, All-weaker, recursion_from_All}
use Rattle.replay_base.specs.Files.{File, is_file, is_name, path_in, below, name_in, names_in, PathsOnce, IsListing}

-- what is found behind a folder makes its path
below_is : (folder path name : List ℕ) → below folder path ≡ Some name → path ≡ path_in folder name
below_is [] [] name e = cc
below_is (d ∷ folder) [] name e = cc
below_is [] (c ∷ path) name e = go (eqb c 47) (Decides-eqb c 47).0 e
  where
    go : (t : Bool) → (t ≡ true → c ≡ 47) → cond t (Some path) None ≡ Some name → c ∷ path ≡ 47 ∷ name
    go true is e = let h : c ≡ 47 = is refl in cc
    go false is e = cc
below_is (d ∷ folder) (c ∷ path) name e = go (eqb d c) (Decides-eqb d c).0 e (below_is folder path name)
  where
    go : (t : Bool) → (t ≡ true → d ≡ c) → cond t (below folder path) None ≡ Some name → (below folder path ≡ Some name → path ≡ path_in folder name) → c ∷ path ≡ d ∷ path_in folder name
    go true is e ih = let h : d ≡ c = is refl in let t : path ≡ path_in folder name = ih e in cc
    go false is e ih = cc

-- a path in a folder has its name behind it
is_below : (folder name : List ℕ) → below folder (path_in folder name) ≡ Some name
is_below [] name = refl
is_below (d ∷ folder) name = let same : eqb d d ≡ true = (Decides-eqb d d).1 refl in rw same (is_below folder name)

-- a name in a folder makes its path
pub name_is : (folder path name : List ℕ) → name_in folder path ≡ Some name → (path ≡ path_in folder name) × (is_name name ≡ true)
name_is folder path name e = go (below folder path) (below_is folder path) e
  where
    keep : (rest : List ℕ) (t : Bool) → is_name rest ≡ t → path ≡ path_in folder rest → cond t (Some rest) None ≡ Some name → (path ≡ path_in folder name) × (is_name name ≡ true)
    keep rest true is at e = let same : rest ≡ name = cc in (at ∙ ap (path_in folder) same, ap is_name (sym same) ∙ is)
    keep rest false is at e = cc

    go : (r : Option (List ℕ)) → ((n : List ℕ) → r ≡ Some n → path ≡ path_in folder n) → option_and_then (λ n. cond (is_name n) (Some n) None) r ≡ Some name → (path ≡ path_in folder name) × (is_name name ≡ true)
    go None is e = cc
    go (Some rest) is e = keep rest (is_name rest) refl (is rest refl) e

-- a name has its path in a folder
pub name_of : (folder name : List ℕ) → is_name name ≡ true → name_in folder (path_in folder name) ≡ Some name
name_of folder name is = rw (is_below folder name, is)

-- a path behind which nothing stands has no name
pub no_name : (folder path : List ℕ) → ((rest : List ℕ) → path ≡ folder ++ 47 ∷ rest → ⊥) → name_in folder path ≡ None
no_name folder path h = go (below folder path) (below_is folder path)
  where
    go : (r : Option (List ℕ)) → ((n : List ℕ) → r ≡ Some n → path ≡ path_in folder n) → option_and_then (λ n. cond (is_name n) (Some n) None) r ≡ None
    go None is = refl
    go (Some rest) is = absurd (h rest (is rest refl))

-- what isn't a name is none
pub not_name : (folder rest : List ℕ) → is_name rest ≡ false → name_in folder (path_in folder rest) ≡ None
not_name folder rest is = rw (is_below folder rest, is)

-- what stands behind a folder, and then behind a slash
pub behind_folder : (folder path x : List ℕ) (r : Option (Bor (List ℕ))) → path ≡ folder ++ x → MatchOption r ((rest : List ℕ) → x ≢ 47 ∷ rest) (λ y. x ≡ 47 ∷ y.now)
    → MatchOption r ((rest : List ℕ) → path ≢ path_in folder rest) (λ y. path ≡ path_in folder y.now)
behind_folder folder path x None e h = λ rest at. h rest (sym (front_rest path folder x e) ∙ front_rest path folder (47 ∷ rest) at)
behind_folder folder path x (Some y) e h = e ∙ ap (λ z. folder ++ z) h

-- what one more entry gives
pub filter_map-more : {E : Type 0} (view : E → File) (h : File → Option (List ℕ)) (es : List E) (i : ℕ) (e : E) → i < length es → e ≡ get_or es i e
    → filter_map h (map view (take (i + 1) es)) ≡ filter_map h (map view (take i es)) ++ cons_option (h (view e)) []
filter_map-more view h es i e l at =
    rw (take_more es i e l, map-append view (take i es) (get_or es i e ∷ []), filter_map-append h (map view (take i es)) (view (get_or es i e) ∷ []))
    (ap (λ x. filter_map h (map view (take i es)) ++ cons_option (h (view x)) []) (sym at))

-- where no path stands twice, each file gives its name
pub names_once : (folder : List ℕ) (files : List File) → PathsOnce files → names_in files folder ≡ filter_map (λ f. name_in folder f.path) files
names_once folder [] once = refl
names_once folder (f ∷ files) once = rw once.0 (ap (cons_option (name_in folder f.path)) (names_once folder files once.1))

-- the first of a list is in it
Contains-first : (x : List ℕ) (xs : List (List ℕ)) → Contains (x ∷ xs) x
Contains-first x xs = (0, omega arith, refl)

-- what is in a list is in a longer one
Contains-cons : (y : List ℕ) (xs : List (List ℕ)) (x : List ℕ) → Contains xs x → Contains (y ∷ xs) x
Contains-cons y xs x c = let h : c.0 < length xs = c.1 in (suc c.0, omega arith, c.2)

-- more files have each path that some have
is_file-more : (f : File) (files : List File) (path : List ℕ) → is_file files path ≡ true → is_file (f ∷ files) path ≡ true
is_file-more f files path e = rw e (go (bytes_eq f.path path))
  where
    go : (t : Bool) → (t || true) ≡ true
    go true = refl
    go false = refl

-- a name whose path is that of a file
abbrev IsThere : List File → List ℕ → List ℕ → Type 0
IsThere files folder name = IsTrue (is_name name && is_file files (path_in folder name))

there-more : (f : File) (files : List File) (folder name : List ℕ) → IsThere files folder name → IsThere (f ∷ files) folder name
there-more f files folder name h = go (is_name name) h
  where
    go : (t : Bool) → (t && is_file files (path_in folder name)) ≡ true → (t && is_file (f ∷ files) (path_in folder name)) ≡ true
    go true e = is_file-more f files (path_in folder name) e
    go false e = cc

-- the name of the first file is there
there-first : (f : File) (files : List File) (folder name : List ℕ) → name_in folder f.path ≡ Some name → IsThere (f ∷ files) folder name
there-first f files folder name e =
    let is = name_is folder f.path name e in
    let same : bytes_eq f.path (path_in folder name) ≡ true = (bytes_eq-Decides f.path (path_in folder name)).1 is.0 in
    rw (is.1, same) refl

-- the names in a folder are there
listing_sound : (files : List File) (folder : List ℕ) → All (IsThere files folder) (names_in files folder)
listing_sound [] folder = All-nil (IsThere [] folder)
listing_sound (f ∷ files) folder = go (is_file files f.path) (name_in folder f.path) refl (All-weaker (IsThere files folder) (IsThere (f ∷ files) folder) (there-more f files folder) (names_in files folder) (listing_sound files folder))
  where
    go : (t : Bool) (n : Option (List ℕ)) → name_in folder f.path ≡ n → All (IsThere (f ∷ files) folder) (names_in files folder)
        → All (IsThere (f ∷ files) folder) (cond t (names_in files folder) (cons_option n (names_in files folder)))
    go true n e ih = ih
    go false None e ih = ih
    go false (Some name) e ih = All-cons (IsThere (f ∷ files) folder) name (names_in files folder) (there-first f files folder name e) ih

-- each name that is there is among the names in a folder
listing_whole : (files : List File) (folder name : List ℕ) → IsThere files folder name → Contains (names_in files folder) name
listing_whole [] folder name h = go (is_name name) h
  where
    go : (t : Bool) → (t && false) ≡ true → Contains [] name
    go true e = cc
    go false e = cc
listing_whole (f ∷ files) folder name h = there (λ k. listing_whole files folder name k) (is_name name) refl h
  where
    behind : (n : Option (List ℕ)) → Contains (names_in files folder) name → Contains (cons_option n (names_in files folder)) name
    behind None c = c
    behind (Some other) c = Contains-cons other (names_in files folder) name c

    skip : (t : Bool) → Contains (names_in files folder) name → Contains (cond t (names_in files folder) (cons_option (name_in folder f.path) (names_in files folder))) name
    skip true c = c
    skip false c = behind (name_in folder f.path) c

    first : (IsThere files folder name → Contains (names_in files folder) name) → (t : Bool) → is_file files f.path ≡ t → is_name name ≡ true → f.path ≡ path_in folder name
        → Contains (cond t (names_in files folder) (cons_option (name_in folder f.path) (names_in files folder))) name
    first ih true e is at = ih (rw (is, (ap (is_file files) (sym at) ∙ e)) refl)
    first ih false e is at = rw (ap (name_in folder) at ∙ name_of folder name is) (Contains-first name (names_in files folder))

    at_path : (IsThere files folder name → Contains (names_in files folder) name) → (t : Bool) → (t ≡ true → f.path ≡ path_in folder name) → is_name name ≡ true
        → (t || is_file files (path_in folder name)) ≡ true → Contains (names_in (f ∷ files) folder) name
    at_path ih true at is e = first ih (is_file files f.path) refl is (at refl)
    at_path ih false at is e = skip (is_file files f.path) (ih (rw (is, e) refl))

    there : (IsThere files folder name → Contains (names_in files folder) name) → (t : Bool) → is_name name ≡ t → (t && is_file (f ∷ files) (path_in folder name)) ≡ true
        → Contains (names_in (f ∷ files) folder) name
    there ih true is e = at_path ih (bytes_eq f.path (path_in folder name)) (bytes_eq-Decides f.path (path_in folder name)).0 is e
    there ih false is e = cc

-- no name stands twice
listing_once : (files : List File) (folder : List ℕ) → IsDistinct bytes_eq (names_in files folder)
unfolding IsDistinct
listing_once [] folder = tt
listing_once (f ∷ files) folder = go (is_file files f.path) refl (name_in folder f.path) refl (listing_once files folder)
  where
    other : (name : List ℕ) → name_in folder f.path ≡ Some name → is_file files f.path ≡ false → (y : List ℕ) → IsThere files folder y → bytes_eq name y ≡ false
    other name e none y there = apart (bytes_eq name y) (bytes_eq-Decides name y).0 (is_name y) there
      where
        apart : (t : Bool) → (t ≡ true → name ≡ y) → (s : Bool) → (s && is_file files (path_in folder y)) ≡ true → t ≡ false
        apart false same s h = refl
        apart true same false h = cc
        apart true same true h =
            let at : f.path ≡ path_in folder y = (name_is folder f.path name e).0 ∙ ap (path_in folder) (same refl) in
            let no : true ≡ false = sym h ∙ (ap (is_file files) (sym at) ∙ none) in
            cc

    go : (t : Bool) → is_file files f.path ≡ t → (n : Option (List ℕ)) → name_in folder f.path ≡ n → IsDistinct bytes_eq (names_in files folder)
        → IsDistinct bytes_eq (cond t (names_in files folder) (cons_option n (names_in files folder)))
    go true e n at ih = ih
    go false e None at ih = ih
    go false e (Some name) at ih =
        (recursion_from_All (λ y. bytes_eq name y ≡ false) (names_in files folder) (All-weaker (IsThere files folder) (λ y. bytes_eq name y ≡ false) (other name at e) (names_in files folder) (listing_sound files folder)), ih)

-- the names in a folder are a listing of it
pub listing : (files : List File) (folder : List ℕ) → IsListing files folder (names_in files folder)
listing files folder = record { sound = listing_sound files folder; whole = listing_whole files folder; once = listing_once files folder }
