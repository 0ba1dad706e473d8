-- How `clap` walks over the words that the definition reads.
use Rattle.std.proofs.Common.{◌≡◌, ◌∙◌, ◌==◌, ◌&&◌, ◌||◌, not, ℕ, Bool, cond, true, false, refl, sym, ap, ap₂, subst, List, [], ◌∷◌, ◌++◌, map, Option, Some, None, true≢false, append-nil}
use Rattle.std.specs.Prelude.{is_some, unwrap_or}
use Rattle.std.specs.List.{fold}
use Rattle.std.specs.Option.{option_map_or, option_and_then}
use Rattle.std.specs.Str.{bytes_eq}
use Rattle.std.specs.Cmp.Lexicographic.{bytes_decides}
use Rattle.std.proofs.lemmas.List.{map-append}
use Rattle.clap.specs.Lexer.{long_of, short_of}
use Rattle.clap.specs.Values.{}
use Rattle.clap.specs.Walk.{Held, Row, Rule, Step, Waiting, Walk, after_flag, after_step, long_met, long_or_other, more_values, option_word, next, reacted, settled, short_or_plain, trailing, arg_by_id, arg_by_long, at_row, has_row, idle, option, settled_rows, used, used_by_id, walked, with_values, without, first_of}
use Rattle.clap.specs.Simple.{Shape, new_shape}
use Rattle.clap.specs.Takes.{bundle_passes, flag_word_passes, long_passes, settle_passes, step_passes, turn_passes, use_passes, walk_passes}
use Rattle.clap.proofs.WalkLemmas.{both, list_any-map}
use Rattle.clap.specs.declared.builder.value_parser.Reading.TheVariants as reading
use Rattle.clap.specs.declared.parser.matches.ValueSource.TheVariants.{CommandLine}
use Rattle.program_words.specs.Program.{value_rule, option_row}
use Rattle.program_words.specs.Words.{GivenOptions, Word, is_given, is_one_of, is_value, awaited, is_empty_value, may_stand, options_from, value_given, with_option}

-- ---- rules and rows

pub by_long : (known : List Word) (name : Word) → is_one_of name known ≡ true → arg_by_long (map value_rule known) name ≡ Some (value_rule name)
by_long [] name e = absurd (true≢false (sym e))
by_long (k ∷ ks) name e = go (bytes_eq k name) refl e (by_long ks name)
  where
    go : (b : Bool) → bytes_eq k name ≡ b → (b || is_one_of name ks) ≡ true → (is_one_of name ks ≡ true → arg_by_long (map value_rule ks) name ≡ Some (value_rule name))
        → arg_by_long (map value_rule (k ∷ ks)) name ≡ Some (value_rule name)
    go true is f more = rw is (ap (λ n. Some (value_rule n)) ((bytes_decides k name).0 is))
    go false is f more = rw is (more f)

pub by_id : (known : List Word) (name : Word) → is_one_of name known ≡ true → arg_by_id (map value_rule known) name ≡ Some (value_rule name)
by_id [] name e = absurd (true≢false (sym e))
by_id (k ∷ ks) name e = go (bytes_eq k name) refl e (by_id ks name)
  where
    go : (b : Bool) → bytes_eq k name ≡ b → (b || is_one_of name ks) ≡ true → (is_one_of name ks ≡ true → arg_by_id (map value_rule ks) name ≡ Some (value_rule name))
        → arg_by_id (map value_rule (k ∷ ks)) name ≡ Some (value_rule name)
    go true is f more = rw is (ap (λ n. Some (value_rule n)) ((bytes_decides k name).0 is))
    go false is f more = rw is (more f)

pub has_given : (name : Word) (given : GivenOptions) → is_given name given ≡ has_row name (map option_row given)
has_given name given = list_any-map (λ (r : Row). bytes_eq r.id name) option_row given

at_end : (id : Word) (change : Row → List Row) (missing rows : List Row) → has_row id rows ≡ false → at_row id change missing rows ≡ rows ++ missing
at_end id change missing [] e = refl
at_end id change missing (r ∷ rs) e = go (bytes_eq r.id id) refl e (at_end id change missing rs)
  where
    go : (b : Bool) → bytes_eq r.id id ≡ b → (b || has_row id rs) ≡ false → (has_row id rs ≡ false → at_row id change missing rs ≡ rs ++ missing)
        → at_row id change missing (r ∷ rs) ≡ r ∷ (rs ++ missing)
    go true is f more = absurd (true≢false f)
    go false is f more = rw is (ap (λ xs. r ∷ xs) (more f))

pub used_once : (name v : Word) (given : GivenOptions) → is_given name given ≡ false → used (value_rule name) (v ∷ []) (map option_row given) ≡ map option_row (given ++ (name, v) ∷ [])
used_once name v given e =
    let none : has_row name (map option_row given) ≡ false = sym (has_given name given) ∙ e in
    let bare : without name (map option_row given) ≡ map option_row given = at_end name (λ _. []) [] (map option_row given) none ∙ append-nil (map option_row given) in
    ap (with_values name reading.AsWritten CommandLine (v ∷ [])) bare ∙ at_end name (more_values CommandLine (v ∷ [])) (option_row (name, v) ∷ []) (map option_row given) none ∙ sym (map-append option_row given ((name, v) ∷ []))

-- what `get_str` reads
pub first_is : (name : Word) (given : GivenOptions) → first_of name (map option_row given) ≡ value_given name given
first_is name [] = refl
first_is name (p ∷ ps) = go (bytes_eq p.0 name) refl (first_is name ps)
  where
    go : (b : Bool) → bytes_eq p.0 name ≡ b → first_of name (map option_row ps) ≡ value_given name ps → first_of name (map option_row (p ∷ ps)) ≡ value_given name (p ∷ ps)
    go true is e = rw is refl
    go false is e = rw is e

-- ---- one word

abbrev dashes : Word
dashes = 45 ∷ 45 ∷ []

-- the subcommand, as it is built
abbrev pub leaf : Word → List Word → Shape
leaf name known = record (new_shape name) {
  rules = map value_rule known;
  disable_help_flag = true;
  disable_help_subcommand = true;
  no_binary_name = true;
  is_built = true;
}

abbrev pub walk_at : Held → Waiting → ℕ → Walk
walk_at h waiting n = record { held = h; waiting = waiting; position = n; is_trailing = false; stopped = None }

abbrev turned : List Rule → Waiting → ℕ → Word → Held → Bool → Option (Word × Option Word) → Held × Step
turned c waiting n word h b o = cond b (h, trailing n) (long_or_other c waiting word o h)

abbrev passes_turned : Shape → Waiting → ℕ → Word → Held → Bool → Option (Word × Option Word) → Bool
passes_turned s waiting n word h b o =
    (b || flag_word_passes s.rules s.args_override_self o word h)
    && step_passes s n (turned s.rules waiting n word h b o).0 (turned s.rules waiting n word h b o).1

not_dashes : (word : Word) (p : Word × Option Word) → long_of word ≡ Some p → bytes_eq word dashes ≡ false
not_dashes word p is = go (bytes_eq word dashes) refl
  where
    go : (b : Bool) → bytes_eq word dashes ≡ b → b ≡ false
    go false e = refl
    go true e =
        let bad : None ≡ Some p = ap long_of (sym ((bytes_decides word dashes).0 e)) ∙ is in
        absurd (true≢false (sym (ap is_some bad)))

pub used_passes : (name v : Word) (rows : List Row) → has_row name rows ≡ false → use_passes false (value_rule name) (v ∷ []) rows ≡ true
used_passes name v rows e = rw e refl

both_true : (a b : Bool) → a ≡ true → b ≡ true → (a && b) ≡ true
both_true a b e f = rw (e, f) refl

or_right : (a b : Bool) → b ≡ true → (a || b) ≡ true
or_right true b e = refl
or_right false b e = e

-- a value is no flag
plain_value : (word : Word) → is_value word ≡ true → (bytes_eq word dashes ≡ false) × (long_of word ≡ None) × (short_of word ≡ None)
plain_value [] e = absurd (true≢false (sym e))
plain_value (b ∷ bs) e = go (b == 45) refl e
  where
    go : (t : Bool) → (b == 45) ≡ t → not t ≡ true → (bytes_eq (b ∷ bs) dashes ≡ false) × (long_of (b ∷ bs) ≡ None) × (short_of (b ∷ bs) ≡ None)
    go true is f = absurd (true≢false (sym f))
    go false is f = (rw is refl, rw is refl, rw is refl)

is_not : (b : Bool) → not b ≡ true → b ≡ false
is_not true e = sym e
is_not false e = refl

module _ (title : Word) (known : List Word) where
  abbrev s : Shape
  s = leaf title known

  abbrev c : List Rule
  c = map value_rule known

  -- nothing waits for a value
  pub record Rests (given : GivenOptions) (h : Held) : Type 0 where
    pub rows : settled_rows c h.pending h.rows ≡ map option_row given
    pub passes : settle_passes c false h ≡ true

  abbrev after_long : Word → ℕ → Held → Held × Step → Walk
  after_long word n h met = after_step c word (walk_at h idle n) met.0 met.1

  abbrev by_rule : Word → ℕ → Held → Option Word → Option Rule → Held × Step
  by_rule word n h v r = after_flag c idle word (long_met c r v h).0 (long_met c r v h).1

  long_walked : (h : Held) (n : ℕ) (word name : Word) (v : Option Word) → long_of word ≡ Some (name, v) → is_one_of name known ≡ true
      → walked c [] (walk_at h idle n) word ≡ after_long word n h (by_rule word n h v (Some (value_rule name)))
  unfolding walked
  long_walked h n word name v is has =
      ap₂ (λ b o. after_long word n h (turned c idle n word h b o)) (not_dashes word (name, v) is) is
      ∙ ap (λ r. after_long word n h (by_rule word n h v r)) (by_long known name has)

  abbrev long_turn : Word → ℕ → Held → Option Word → Option Rule → Bool
  long_turn word n h v r = long_passes c false r v h && step_passes s n (by_rule word n h v r).0 (by_rule word n h v r).1

  long_passed : (h : Held) (n : ℕ) (word name : Word) (v : Option Word) → long_of word ≡ Some (name, v) → is_one_of name known ≡ true
      → turn_passes s [] (walk_at h idle n) word ≡ long_turn word n h v (Some (value_rule name))
  long_passed h n word name v is has =
      ap₂ (λ b o. passes_turned s idle n word h b o) (not_dashes word (name, v) is) is
      ∙ ap (λ r. long_turn word n h v r) (by_long known name has)

  -- `--name=value`
  pub valued_walks : (h : Held) (n : ℕ) (word name v : Word) → long_of word ≡ Some (name, Some v) → is_one_of name known ≡ true
      → walked c [] (walk_at h idle n) word ≡ walk_at (reacted c (value_rule name) (v ∷ []) h) idle n
  valued_walks h n word name v is has = long_walked h n word name (Some v) is has

  pub valued_passes : (given : GivenOptions) (h : Held) (n : ℕ) (word name v : Word) → Rests given h → long_of word ≡ Some (name, Some v) → is_one_of name known ≡ true
      → is_given name given ≡ false → turn_passes s [] (walk_at h idle n) word ≡ true
  valued_passes given h n word name v r is has first =
      let none : has_row name (settled c h).rows ≡ false = ap (has_row name) r.rows ∙ sym (has_given name given) ∙ first in
      long_passed h n word name (Some v) is has ∙ both_true _ _ (both_true _ _ r.passes (used_passes name v (settled c h).rows none)) refl

  pub valued_rests : (given : GivenOptions) (h : Held) (name v : Word) → Rests given h → is_given name given ≡ false
      → Rests (given ++ (name, v) ∷ []) (reacted c (value_rule name) (v ∷ []) h)
  valued_rests given h name v r first = record {
    rows = ap (used (value_rule name) (v ∷ [])) r.rows ∙ used_once name v given first;
    passes = refl;
  }

  -- `--name`
  pub named_walks : (h : Held) (n : ℕ) (word name : Word) → long_of word ≡ Some (name, None) → is_one_of name known ≡ true
      → walked c [] (walk_at h idle n) word ≡ walk_at (record (settled c h) { pending = Some (name, []) }) (option name) n
  named_walks h n word name is has = long_walked h n word name None is has

  pub named_passes : (given : GivenOptions) (h : Held) (n : ℕ) (word name : Word) → Rests given h → long_of word ≡ Some (name, None) → is_one_of name known ≡ true
      → turn_passes s [] (walk_at h idle n) word ≡ true
  named_passes given h n word name r is has = long_passed h n word name None is has ∙ both_true _ _ r.passes refl

  -- the value
  abbrev wants : List Row → ℕ → Word → Held
  wants rows k name = record { rows = rows; pending = Some (name, []); skip = k }

  abbrev has_value : List Row → ℕ → Word → Word → Held
  has_value rows k name v = record { rows = rows; pending = Some (name, v ∷ []); skip = k }

  abbrev after_value : Word → ℕ → Word → Held → Held × Step → Walk
  after_value name n word h met = after_step c word (walk_at h (option name) n) met.0 met.1

  abbrev by_short : Word → ℕ → Word → Held → Option Word → Held × Step
  by_short name n word h t = short_or_plain c (option name) word t h

  abbrev by_waiting : Word → Word → Held → Option Rule → Held × Step
  by_waiting name word h r = ((option_word r name word h).0, next (option_word r name word h).1)

  value_met : (h : Held) (n : ℕ) (name word : Word) → is_value word ≡ true → is_one_of name known ≡ true
      → turned c (option name) n word h (bytes_eq word dashes) (long_of word) ≡ by_waiting name word h (Some (value_rule name))
  value_met h n name word is has =
      let plain = plain_value word is in
      ap₂ (turned c (option name) n word h) plain.0 plain.1
      ∙ ap (by_short name n word h) plain.2
      ∙ ap (by_waiting name word h) (by_id known name has)

  counted_once : (rows : List Row) (k : ℕ) (name word : Word)
      → by_waiting name word (wants rows k name) (Some (value_rule name)) ≡ (has_value rows k name word, next idle)
  counted_once rows k name word = rw ((bytes_decides name name).1 refl) refl

  pub value_walks : (rows : List Row) (k n : ℕ) (name word : Word) → is_value word ≡ true → is_one_of name known ≡ true
      → walked c [] (walk_at (wants rows k name) (option name) n) word ≡ walk_at (has_value rows k name word) idle n
  unfolding walked
  value_walks rows k n name word is has =
      ap (after_value name n word (wants rows k name)) (value_met (wants rows k name) n name word is has ∙ counted_once rows k name word)

  pub value_passes : (rows : List Row) (k n : ℕ) (name word : Word) → is_value word ≡ true → is_one_of name known ≡ true
      → turn_passes s [] (walk_at (wants rows k name) (option name) n) word ≡ true
  value_passes rows k n name word is has =
      let h = wants rows k name in
      let plain = plain_value word is in
      let flags : flag_word_passes c false (long_of word) word h ≡ true =
      ap (λ o. flag_word_passes c false o word h) plain.1 ∙ ap (λ t. option_map_or (λ flags. bundle_passes c false flags h) t true) plain.2 in
      both_true _ _ (or_right (bytes_eq word dashes) _ flags)
      (ap (λ (m : Held × Step). step_passes s n m.0 m.1) (value_met h n name word is has ∙ counted_once rows k name word))

  pub value_rests : (given : GivenOptions) (k : ℕ) (name word : Word) → is_one_of name known ≡ true → is_given name given ≡ false
      → Rests (given ++ (name, word) ∷ []) (has_value (map option_row given) k name word)
  value_rests given k name word has first =
      let none : has_row name (map option_row given) ≡ false = sym (has_given name given) ∙ first in
      record {
        rows = ap (λ r. used_by_id r (word ∷ []) (map option_row given)) (by_id known name has) ∙ used_once name word given first;
        passes = ap (λ r. option_map_or (λ a. use_passes false a (word ∷ []) (map option_row given)) r true) (by_id known name has) ∙ used_passes name word (map option_row given) none;
      }

  -- ---- all the words

  pub data Stands : GivenOptions → Option Word → Walk → Type 0 where
    resting : (given : GivenOptions) (h : Held) (n : ℕ) → Rests given h → Stands given None (walk_at h idle n)
    wanting : (given : GivenOptions) (k n : ℕ) (name : Word) → may_stand known given name ≡ true
        → Stands given (Some name) (walk_at (wants (map option_row given) k name) (option name) n)

  -- the walk over the words passes, and ends with these options
  pub record Follows (w : Walk) (words : List Word) (out : GivenOptions) : Type 0 where
    pub passes : walk_passes s [] w words ≡ true
    pub stopped : (fold (walked c []) w words).stopped ≡ None
    pub rests : Rests out (fold (walked c []) w words).held

  first_word : (w : Walk) (word : Word) (rest : List Word) (out : GivenOptions) → turn_passes s [] w word ≡ true → Follows (walked c [] w word) rest out → Follows w (word ∷ rest) out
  unfolding walk_passes
  first_word w word rest out e f = record { passes = both_true _ _ e f.passes; stopped = f.stopped; rests = f.rests }

  abbrev More : Word → List Word → GivenOptions → Type 0
  More word rest out = (now : GivenOptions) (waiting : Option Word) (w : Walk) → Stands now waiting w → options_from known now waiting rest ≡ Some out → Follows w rest out

  abbrev after : List Word → GivenOptions → Word × Option Word → Option GivenOptions
  after rest given p = options_from known (with_option given p) (awaited p) rest

  none≢some : (out : GivenOptions) → None ≡ Some out → ⊥
  none≢some out e = true≢false (sym (ap is_some e))

  stands_in : (given : GivenOptions) (name : Word) → may_stand known given name ≡ true → (is_one_of name known ≡ true) × (is_given name given ≡ false)
  stands_in given name e =
      let parts = both (is_one_of name known) (not (is_given name given)) e in
      (parts.0, is_not (is_given name given) parts.1)

  follows_long : (given : GivenOptions) (h : Held) (n : ℕ) (word : Word) (rest : List Word) (out : GivenOptions) (name : Word) (v : Option Word) → Rests given h
      → long_of word ≡ Some (name, v) → may_stand known given name ≡ true → is_empty_value v ≡ false → after rest given (name, v) ≡ Some out → More word rest out
      → Follows (walk_at h idle n) (word ∷ rest) out
  follows_long given h n word rest out name None r is can full e more =
      let in_table = stands_in given name can in
      first_word (walk_at h idle n) word rest out (named_passes given h n word name r is in_table.0)
      (subst (λ w. Follows w rest out) (sym (named_walks h n word name is in_table.0 ∙ ap (λ rows. walk_at (wants rows h.skip name) (option name) n) r.rows))
      (more given (Some name) _ (wanting given h.skip n name can) e))
  follows_long given h n word rest out name (Some []) r is can full e more = absurd (true≢false full)
  follows_long given h n word rest out name (Some (b ∷ bs)) r is can full e more =
      let in_table = stands_in given name can in
      first_word (walk_at h idle n) word rest out (valued_passes given h n word name (b ∷ bs) r is in_table.0 in_table.1)
      (subst (λ w. Follows w rest out) (sym (valued_walks h n word name (b ∷ bs) is in_table.0))
      (more (given ++ (name, b ∷ bs) ∷ []) None _ (resting _ _ n (valued_rests given h name (b ∷ bs) r in_table.1)) e))

  abbrev where_named : GivenOptions → Option (Word × Option Word) → Option (Word × Option Word)
  where_named given long = option_and_then (λ p. cond (may_stand known given p.0 && not (is_empty_value p.1)) (Some p) None) long

  follows_option : (given : GivenOptions) (h : Held) (n : ℕ) (word : Word) (rest : List Word) (out : GivenOptions) (long : Option (Word × Option Word)) → Rests given h
      → long_of word ≡ long → option_and_then (after rest given) (where_named given long) ≡ Some out → More word rest out → Follows (walk_at h idle n) (word ∷ rest) out
  follows_option given h n word rest out None r is e more = absurd (none≢some out e)
  follows_option given h n word rest out (Some (name, v)) r is e more = go (may_stand known given name) (is_empty_value v) refl refl e
    where
      go : (b c : Bool) → may_stand known given name ≡ b → is_empty_value v ≡ c → option_and_then (after rest given) (cond (b && not c) (Some (name, v)) None) ≡ Some out
          → Follows (walk_at h idle n) (word ∷ rest) out
      go true false can full f = follows_long given h n word rest out name v r is can full f more
      go true true can full f = absurd (none≢some out f)
      go false c can full f = absurd (none≢some out f)

  follows_value : (given : GivenOptions) (k n : ℕ) (name word : Word) (rest : List Word) (out : GivenOptions) → may_stand known given name ≡ true
      → option_and_then (after rest given) (cond (is_value word) (Some (name, Some word)) None) ≡ Some out → More word rest out
      → Follows (walk_at (wants (map option_row given) k name) (option name) n) (word ∷ rest) out
  follows_value given k n name word rest out can e more = go (is_value word) refl e
    where
      go : (b : Bool) → is_value word ≡ b → option_and_then (after rest given) (cond b (Some (name, Some word)) None) ≡ Some out
          → Follows (walk_at (wants (map option_row given) k name) (option name) n) (word ∷ rest) out
      go false is f = absurd (none≢some out f)
      go true is f =
          let in_table = stands_in given name can in
          first_word (walk_at (wants (map option_row given) k name) (option name) n) word rest out (value_passes (map option_row given) k n name word is in_table.0)
          (subst (λ w. Follows w rest out) (sym (value_walks (map option_row given) k n name word is in_table.0))
          (more _ None _ (resting _ _ n (value_rests given k name word in_table.0 in_table.1)) f))

  same : (a b : GivenOptions) → Some a ≡ Some b → a ≡ b
  same a b e = ap (λ o. unwrap_or o a) e

  pub follows : (words : List Word) (given : GivenOptions) (waiting : Option Word) (w : Walk) (out : GivenOptions) → Stands given waiting w
      → options_from known given waiting words ≡ Some out → Follows w words out
  unfolding options_from walk_passes
  follows [] _ _ _ out (resting given h n r) e = record { passes = refl; stopped = refl; rests = subst (λ g. Rests g h) (same given out e) r }
  follows [] _ _ _ out (wanting given k n name can) e = absurd (none≢some out e)
  follows (word ∷ rest) _ _ _ out (resting given h n r) e =
      follows_option given h n word rest out (long_of word) r refl e (λ now waiting v st f. follows rest now waiting v out st f)
  follows (word ∷ rest) _ _ _ out (wanting given k n name can) e =
      follows_value given k n name word rest out can e (λ now waiting v st f. follows rest now waiting v out st f)
