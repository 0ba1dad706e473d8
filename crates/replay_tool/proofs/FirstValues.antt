-- Of entries with one name the first counts.
use Rattle.std.proofs.Common.{◌≡◌, ◌∙◌, ◌<◌, ◌+◌, ℕ, Bool, true, false, cond, refl, ap, sym, subst, arith, lit<, length-take, List, [], ◌∷◌, ◌++◌, length, map, take, Option, Some, None, Bor}
use Rattle.std.specs.Prelude.{◌&&◌, nat_lt, is_some, option_map, OnOk, Result, Ok, Err}
use Rattle.std.specs.List.{after_first, before_first, position_or_len, slice_index_or}
use Rattle.std.specs.Option.{option_or}
use Rattle.std.specs.Str.{IsUtf8, bytes_eq, is_utf8}
use Rattle.std.proofs.lemmas.Bool.Decides.{nat_tests}
use Rattle.std.proofs.lemmas.List.{map-append, take_more}
use Rattle.std.proofs.lemmas.List.Elements.{filter_map-append}
use Rattle.std.proofs.lemmas.Slice.Eq.{bytes_eq-Decides}
use Rattle.std.proofs.lemmas.Str.{IsUtf8-from_is_utf8, is_utf8-from_IsUtf8}
use Rattle.std.proofs.lemmas.Str.Pattern.{IsSplitOnceResult, split_once_first}
use Rattle.env_filters.specs.Variables.{Variable, value_of}
use Rattle.env_filters.specs.declared.memory.NoMemory.{NoMemory}
use Rattle.replay_tool.specs.Environment.{HasFirsts, TakesEntry, has_name, is_equals_sign, variable_in, variables_in}

-- ---- what an entry writes

-- the variable of a text with a name
abbrev variable_of : List ℕ → Option Variable
variable_of entry = Some (record { name = before_first is_equals_sign entry; value = after_first is_equals_sign entry })

-- what isn't UTF-8 writes nothing
pub no_text : (entry : List ℕ) → (IsUtf8 entry → ⊥) → variable_in entry ≡ None
unfolding variable_in
no_text entry none = go (is_utf8 entry) refl
  where
    go : (b : Bool) → is_utf8 entry ≡ b → cond (b && has_name entry) (variable_of entry) None ≡ None
    go true is = absurd (none (IsUtf8-from_is_utf8 entry is))
    go false is = refl

-- neither does what has no name
no_name : (entry : List ℕ) → has_name entry ≡ false → variable_in entry ≡ None
unfolding variable_in
no_name entry none = go (is_utf8 entry)
  where
    go : (b : Bool) → cond (b && has_name entry) (variable_of entry) None ≡ None
    go true = rw none refl
    go false = refl

-- a text with a name writes its variable
a_name : (entry : List ℕ) → IsUtf8 entry → has_name entry ≡ true
    → variable_in entry ≡ variable_of entry
unfolding variable_in
a_name entry text named = rw (is_utf8-from_IsUtf8 entry text, named) refl

-- a front without bytes has no length, and any other has one
taken_none : (n : ℕ) (xs : List ℕ) → n < length xs → length (take n xs) ≡ 0 → n ≡ 0
taken_none n xs inside none = omega (arith, length-take n xs, none)

taken_some : (n : ℕ) (xs : List ℕ) → (length (take n xs) ≡ 0 → ⊥) → nat_lt 0 n ≡ true
taken_some n xs some = go (nat_lt 0 n) refl
  where
    go : (b : Bool) → nat_lt 0 n ≡ b → b ≡ true
    go true is = refl
    go false is =
        let none : n ≡ 0 = grind (arith, nat_tests) in
        absurd (some (omega (arith, length-take n xs, none)))

module _ (entry : List ℕ) (r : Option (Bor (List ℕ) × Bor (List ℕ))) (split : IsSplitOnceResult 61 entry r) where
  -- without a `=` there is no variable
  pub no_sign : r ≡ None → variable_in entry ≡ None
  no_sign is =
      let none = rw is at (split_once_first 61 entry r split (lit< tt)) in
      no_name entry (grind (arith, nat_tests))

  -- nor without a name before it
  pub no_front : (x : Bor (List ℕ) × Bor (List ℕ)) → r ≡ Some x → length x.0.now ≡ 0 → variable_in entry ≡ None
  no_front x is empty =
      let (inside, front, back) = rw is at (split_once_first 61 entry r split (lit< tt)) in
      let here : position_or_len is_equals_sign entry ≡ 0 = taken_none _ entry inside (sym (ap length front) ∙ empty) in
      no_name entry (rw here refl)

  -- a text is split into its name and its value
  pub written : (x : Bor (List ℕ) × Bor (List ℕ)) → r ≡ Some x → IsUtf8 entry → (length x.0.now ≡ 0 → ⊥)
      → variable_in entry ≡ Some (record { name = x.0.now; value = x.1.now })
  written x is text some =
      let (inside, front, back) = rw is at (split_once_first 61 entry r split (lit< tt)) in
      let low : nat_lt 0 (position_or_len is_equals_sign entry) ≡ true = taken_some _ entry (λ none. some (ap length front ∙ none)) in
      let high : nat_lt (position_or_len is_equals_sign entry) (length entry) ≡ true = grind (arith, nat_tests) in
      let named : has_name entry ≡ true = rw (low, high) refl in
      rw (front, back) (a_name entry text named)

-- ---- the values of names

-- the value of a name among more variables
value_append : (xs ys : List Variable) (name : List ℕ) → value_of (xs ++ ys) name ≡ option_or (value_of xs name) (value_of ys name)
value_append [] ys name = refl
value_append (x ∷ xs) ys name = go (bytes_eq x.name name) (value_append xs ys name)
  where
    go : (b : Bool) → value_of (xs ++ ys) name ≡ option_or (value_of xs name) (value_of ys name)
        → cond b (Some x.value) (value_of (xs ++ ys) name) ≡ option_or (cond b (Some x.value) (value_of xs name)) (value_of ys name)
    go true rest = refl
    go false rest = rest

or_none : (o : Option (List ℕ)) → o ≡ option_or o None
or_none None = refl
or_none (Some x) = refl

-- an entry without a variable changes nothing
pub passed_over : (entry : List ℕ) (old : List Variable) → variable_in entry ≡ None → TakesEntry entry old old
passed_over entry old none = record { values = λ name. rw none (or_none (value_of old name)) }

-- nor does one whose name is set
pub is_set_before : (entry : List ℕ) (old : List Variable) (v : Variable) (o : Option (List ℕ)) → variable_in entry ≡ Some v → o ≡ value_of old v.name
    → is_some o ≡ true → TakesEntry entry old old
is_set_before entry old v o is found set = record { values = λ name. rw is (go name (bytes_eq v.name name) refl) }
  where
    has_value : (p q : Option (List ℕ)) → is_some p ≡ true → p ≡ option_or p q
    has_value None q some = cc
    has_value (Some x) q some = refl

    go : (name : List ℕ) (b : Bool) → bytes_eq v.name name ≡ b → value_of old name ≡ option_or (value_of old name) (cond b (Some v.value) None)
    go name true same =
        let there : is_some (value_of old v.name) ≡ true = ap is_some (sym found) ∙ set in
        has_value (value_of old name) (Some v.value) (subst (λ (n : List ℕ). is_some (value_of old n) ≡ true) ((bytes_eq-Decides v.name name).0 same) there)
    go name false other = or_none (value_of old name)

-- one whose name isn't set is put
pub is_put : (entry : List ℕ) (old : List Variable) (v : Variable) (o : Option (List ℕ)) → variable_in entry ≡ Some v → o ≡ value_of old v.name
    → is_some o ≡ false → TakesEntry entry old (v ∷ old)
is_put entry old v o is found none = record { values = λ name. rw is (go name (bytes_eq v.name name) refl) }
  where
    unset : (p : Option (List ℕ)) → is_some p ≡ false → p ≡ None
    unset None none = refl
    unset (Some x) none = cc

    go : (name : List ℕ) (b : Bool) → bytes_eq v.name name ≡ b → cond b (Some v.value) (value_of old name) ≡ option_or (value_of old name) (cond b (Some v.value) None)
    go name true same =
        let at : value_of old name ≡ None = subst (λ (n : List ℕ). value_of old n ≡ None) ((bytes_eq-Decides v.name name).0 same) (sym found ∙ unset o none) in
        rw at refl
    go name false other = or_none (value_of old name)

-- ---- as the functions read them

-- nothing is written by an entry
pub takes_none : (entry : List ℕ) (old : List Variable) → None ≡ variable_in entry → TakesEntry entry old old
takes_none entry old none = passed_over entry old (sym none)

module _ (entry : List ℕ) (old : List Variable) (v : Variable) (found : Option (Bor (List ℕ))) (is : Some v ≡ variable_in entry)
    (value : option_map (λ b. b.now) found ≡ value_of old v.name) where
  is_some_of : (o : Option (Bor (List ℕ))) → is_some (option_map (λ b. b.now) o) ≡ is_some o
  is_some_of None = refl
  is_some_of (Some x) = refl

  -- its name is set
  pub takes_no_second : is_some found ≡ true → TakesEntry entry old old
  takes_no_second set = is_set_before entry old v (option_map (λ b. b.now) found) (sym is) value (is_some_of found ∙ set)

  -- its name isn't set, and it is put where there is memory
  pub takes_first : is_some found ≡ false → (r : Result Unit NoMemory) (new : List Variable) → OnOk r (new ≡ v ∷ old) → OnOk r (TakesEntry entry old new)
  takes_first none (Ok u) new put = rw put (is_put entry old v (option_map (λ b. b.now) found) (sym is) value (is_some_of found ∙ none))
  takes_first none (Err e) new put = tt

-- no entry yet
pub none_yet : (variables : List Variable) → variables ≡ [] → HasFirsts [] variables
none_yet variables none = record { values = λ name. rw none refl }

-- one entry more
pub next_entry : (entries : List (List ℕ)) (entry : List ℕ) (old new : List Variable) → HasFirsts entries old → TakesEntry entry old new → HasFirsts (entries ++ entry ∷ []) new
next_entry entries entry old new firsts takes = record {
  values = λ name. takes.values name ∙ (ap (λ o. option_or o (value_of (variables_in (entry ∷ [])) name)) (firsts.values name)
      ∙ (sym (value_append (variables_in entries) (variables_in (entry ∷ [])) name) ∙ ap (λ vs. value_of vs name) (sym (filter_map-append variable_in entries (entry ∷ [])))));
}

-- one entry more of a list
pub next_of : {X : Type 0} (read : X → List ℕ) (xs : List X) (i : ℕ) (x : X) → i < length xs → x ≡ slice_index_or xs i x → (entry : List ℕ) → entry ≡ read x
    → (old new : List Variable) → HasFirsts (map read (take i xs)) old → TakesEntry entry old new → HasFirsts (map read (take (i + 1) xs)) new
next_of read xs i x lt at entry is old new firsts takes =
    let entries : map read (take (i + 1) xs) ≡ map read (take i xs) ++ entry ∷ [] =
    ap (map read) (take_more xs i x lt ∙ ap (λ y. take i xs ++ y ∷ []) (sym at)) ∙ (map-append read (take i xs) (x ∷ []) ∙ ap (λ e. map read (take i xs) ++ e ∷ []) (sym is)) in
    rw entries (next_entry (map read (take i xs)) entry old new firsts takes)
