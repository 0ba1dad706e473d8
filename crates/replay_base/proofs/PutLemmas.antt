-- A file that is put, and one that is read.
use Rattle.std.proofs.Common.{◌≡◌, ◌∙◌, ℕ, zero, suc, ◌+◌, ◌<◌, ◌≤◌, nat_le, Bool, true, false, cond, ◌||◌, List, [], ◌∷◌, ◌++◌, length, get_or, map, refl, ap, sym, arith, Option, Some, None, option_map, find, string_bytes}
use Rattle.std.proofs.Math.ListN.{set}
use Rattle.std.specs.List.{position, position_from}
use Rattle.std.specs.Str.{bytes_eq}
use Rattle.std.proofs.lemmas.List.{map-append}
use Rattle.std.proofs.lemmas.List.Quantifiers.{position-Some}
use Rattle.std.proofs.lemmas.Slice.Eq.{bytes_eq-Decides}
use Rattle.std.proofs.lemmas.Iterator.Adapters.{position_from-zero}
use Rattle.std.proofs.lemmas.Bool.Decides.{nat_tests}
use Rattle.replay_base.specs.Files.{File, is_file, bytes_at, put_file, PathsOnce, ReadsAt}
use Rattle.replay_base.specs.declared.tree.TreeRead.TheVariants.{Data, Absent, TooLarge}
use Rattle.replay_base.specs.declared.memory_tree.MemFile.{MemFile}

-- a path that no file has has no bytes
none_there : (files : List File) (path : List ℕ) → is_file files path ≡ false → bytes_at files path ≡ None
none_there [] path e = refl
none_there (f ∷ files) path e = go (bytes_eq f.path path) e (none_there files path)
  where
    go : (t : Bool) → (t || is_file files path) ≡ false → (is_file files path ≡ false → bytes_at files path ≡ None) → option_map (λ g. g.bytes) (cond t (Some f) (find (λ g. bytes_eq g.path path) files)) ≡ None
    go true e ih = cc
    go false e ih = ih e

-- and its file goes behind all
behind_all : (files : List File) (path bytes : List ℕ) → is_file files path ≡ false → put_file files path bytes ≡ files ++ record { path = path; bytes = bytes } ∷ []
behind_all [] path bytes e = refl
behind_all (f ∷ files) path bytes e = go (bytes_eq f.path path) e (behind_all files path bytes)
  where
    go : (t : Bool) → (t || is_file files path) ≡ false → (is_file files path ≡ false → put_file files path bytes ≡ files ++ record { path = path; bytes = bytes } ∷ [])
        → cond t (record { path = path; bytes = bytes } ∷ files) (f ∷ put_file files path bytes) ≡ f ∷ (files ++ record { path = path; bytes = bytes } ∷ [])
    go true e ih = cc
    go false e ih = ap (λ fs. f ∷ fs) (ih e)

-- what the tree keeps is seen as files
module _ {E : Type 0} (view : E → File) (path : List ℕ) where
  -- whether an entry has the path
  abbrev pub has_path : E → Bool
  has_path e = bytes_eq (view e).path path

  -- where no place is found no file has the path
  none_from : (i : ℕ) (es : List E) → position_from has_path i es ≡ None → is_file (map view es) path ≡ false
  none_from i [] e = refl
  none_from i (x ∷ es) e = go (has_path x) e (none_from (i + 1) es)
    where
      go : (t : Bool) → cond t (Some i) (position_from has_path (i + 1) es) ≡ None → (position_from has_path (i + 1) es ≡ None → is_file (map view es) path ≡ false) → (t || is_file (map view es) path) ≡ false
      go true e ih = cc
      go false e ih = ih e

  -- where a place is found its file is the first with the path
  read_at : (es : List E) (i : ℕ) (d : E) → i < length es → has_path (get_or es i d) ≡ true → ((k : ℕ) → k < i → has_path (get_or es k d) ≡ false) → bytes_at (map view es) path ≡ Some (view (get_or es i d)).bytes
  read_at [] i d h at before = absurd (omega arith)
  read_at (x ∷ es) zero d h at before = rw at
  read_at (x ∷ es) (suc i) d h at before =
      let first : has_path x ≡ false = before 0 (omega arith) in
      rw first (read_at es i d (omega arith) at (λ k l. before (suc k) (omega arith)))

  -- and that which is put in its place stands there
  put_at : (bytes : List ℕ) (es : List E) (i : ℕ) (d x : E) → i < length es → has_path (get_or es i d) ≡ true → ((k : ℕ) → k < i → has_path (get_or es k d) ≡ false)
      → view x ≡ record { path = path; bytes = bytes } → map view (set es i x) ≡ put_file (map view es) path bytes
  put_at bytes [] i d x h at before e = absurd (omega arith)
  put_at bytes (y ∷ es) zero d x h at before e = rw at (ap (λ f. f ∷ map view es) e)
  put_at bytes (y ∷ es) (suc i) d x h at before e =
      let first : has_path y ≡ false = before 0 (omega arith) in
      rw first (ap (λ fs. view y ∷ fs) (put_at bytes es i d x (omega arith) at (λ k l. before (suc k) (omega arith)) e))

  -- a place that is found, and what stands there
  pub read_found : (es : List E) (i : ℕ) (y : E) → position has_path es ≡ Some i → y ≡ get_or es i y → bytes_at (map view es) path ≡ Some (view y).bytes
  read_found es i y e at =
      let found = position-Some has_path es i y e in
      read_at es i y found.0 found.1 found.2 ∙ ap (λ z. Some (view z).bytes) (sym at)

  -- a file that is put in the place that is found
  pub put_found : (es : List E) (i : ℕ) (y x : E) (bytes : List ℕ) → position has_path es ≡ Some i → y ≡ get_or es i y → (view x).path ≡ (view y).path → (view x).bytes ≡ bytes
      → map view (set es i x) ≡ put_file (map view es) path bytes
  put_found es i y x bytes e at same_path same_bytes =
      let found = position-Some has_path es i y e in
      let its_path : (view x).path ≡ path = same_path ∙ (ap (λ z. (view z).path) at ∙ (bytes_eq-Decides (view (get_or es i y)).path path).0 found.1) in
      put_at bytes es i y x found.0 found.1 found.2 (λ j. record { path = its_path j; bytes = same_bytes j })

  -- no place is found: no file has the path
  not_found : (es : List E) → position has_path es ≡ None → is_file (map view es) path ≡ false
  not_found es e = none_from 0 es (sym (position_from-zero has_path es) ∙ e)

  pub read_missing : (es : List E) → position has_path es ≡ None → bytes_at (map view es) path ≡ None
  read_missing es e = none_there (map view es) path (not_found es e)

  pub put_missing : (es : List E) (bytes : List ℕ) → position has_path es ≡ None → put_file (map view es) path bytes ≡ map view es ++ record { path = path; bytes = bytes } ∷ []
  put_missing es bytes e = behind_all (map view es) path bytes (not_found es e)

  -- a file that is put behind all
  pub put_pushed : (es : List E) (x : E) (bytes : List ℕ) → position has_path es ≡ None → (view x).path ≡ path → (view x).bytes ≡ bytes
      → map view (es ++ x ∷ []) ≡ put_file (map view es) path bytes
  put_pushed es x bytes e same_path same_bytes =
      let its : (view x ∷ []) ≡ (record { path = path; bytes = bytes } ∷ []) = λ j. record { path = same_path j; bytes = same_bytes j } ∷ [] in
      map-append view es (x ∷ []) ∙ (ap (λ fs. map view es ++ fs) its ∙ sym (put_missing es bytes e))

-- paths that differ, the other way round
differs : (xs ys : List ℕ) → bytes_eq xs ys ≡ false → bytes_eq ys xs ≡ false
differs xs ys e = go (bytes_eq ys xs) (bytes_eq-Decides ys xs).0
  where
    go : (t : Bool) → (t ≡ true → ys ≡ xs) → t ≡ false
    go true is = let no : true ≡ false = sym ((bytes_eq-Decides xs ys).1 (sym (is refl))) ∙ e in cc
    go false is = refl

-- a file that is put changes nothing for other paths
is_file-put : (files : List File) (path bytes q : List ℕ) → bytes_eq path q ≡ false → is_file (put_file files path bytes) q ≡ is_file files q
is_file-put [] path bytes q e = rw e
is_file-put (f ∷ files) path bytes q e = go (bytes_eq f.path path) (bytes_eq-Decides f.path path).0 (is_file-put files path bytes q e)
  where
    go : (t : Bool) → (t ≡ true → f.path ≡ path) → is_file (put_file files path bytes) q ≡ is_file files q
        → is_file (cond t (record { path = path; bytes = bytes } ∷ files) (f ∷ put_file files path bytes)) q ≡ (bytes_eq f.path q || is_file files q)
    go true is ih = let here : bytes_eq f.path q ≡ false = ap (λ p. bytes_eq p q) (is refl) ∙ e in rw (e, here)
    go false is ih = ap (λ t. bytes_eq f.path q || t) ih

-- paths stay once where a file is put
pub put_once : (files : List File) (path bytes : List ℕ) → PathsOnce files → PathsOnce (put_file files path bytes)
put_once [] path bytes once = (refl, tt)
put_once (f ∷ files) path bytes once = go (bytes_eq f.path path) refl (put_once files path bytes once.1)
  where
    go : (t : Bool) → bytes_eq f.path path ≡ t → PathsOnce (put_file files path bytes) → PathsOnce (cond t (record { path = path; bytes = bytes } ∷ files) (f ∷ put_file files path bytes))
    go true e ih = (ap (is_file files) (sym ((bytes_eq-Decides f.path path).0 e)) ∙ once.0, once.1)
    go false e ih = (is_file-put files path bytes f.path (differs f.path path e) ∙ once.0, ih)

-- what an entry of a tree in memory is seen as
abbrev pub file_of : MemFile → File
file_of f = record { path = string_bytes f.path; bytes = f.bytes.items }

-- no bytes at a path: it is absent
pub reads_absent : (found : Option (List ℕ)) (max : ℕ) (bytes : List ℕ) → found ≡ None → bytes ≡ [] → ReadsAt found max Absent bytes
reads_absent found max bytes e h = rw e (refl, h)

-- too many bytes
pub reads_large : (found : Option (List ℕ)) (all : List ℕ) (max : ℕ) (bytes : List ℕ) → found ≡ Some all → max < length all → bytes ≡ [] → ReadsAt found max TooLarge bytes
reads_large found all max bytes e l h = let no : nat_le (length all) max ≡ false = grind (arith, nat_tests) in rw (e, no) (refl, h)

-- few enough bytes
pub reads_data : (found : Option (List ℕ)) (all : List ℕ) (max : ℕ) (bytes : List ℕ) → found ≡ Some all → length all ≤ max → bytes ≡ all → ReadsAt found max Data bytes
reads_data found all max bytes e l h = let yes : nat_le (length all) max ≡ true = grind (arith, nat_tests) in rw (e, yes) (refl, h)
