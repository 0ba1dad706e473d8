-- `clap`'s answer on the words that the definition reads.
use Rattle.std.proofs.Common.{◌≡◌, ◌∙◌, ◌&&◌, ◌||◌, ◌++◌, not, Bool, cond, true, false, refl, sym, ap, subst, List, [], ◌∷◌, map, find, Option, Some, None, true≢false}
use Rattle.std.specs.Prelude.{is_some, option_map, unwrap_or}
use Rattle.std.specs.List.{fold, list_all, list_any}
use Rattle.std.specs.Option.{option_map_or, option_and_then}
use Rattle.std.specs.Str.{bytes_eq}
use Rattle.std.specs.Cmp.Lexicographic.{bytes_decides}
use Rattle.clap.specs.Walk.{Names, Row, Rule, Walk, answers_to, finished, idle, nothing_held, subcommand_met, subcommand_or_other, walk, walk_from, walked, after_step, with_default}
use Rattle.clap.specs.Simple.{App, Shape, built, entered, label_of, names_of, rows_at, subcommand_of}
use Rattle.clap.specs.Takes.{default_passes, entered_passes, is_valid, level_passes, settle_passes, step_passes, takes, turn_passes, walk_passes, is_given, other_passes}
use Rattle.clap.proofs.WalkLemmas.{walk_stopped}
use Rattle.program_words.specs.Words.{GivenOptions, Word, options_from, understood, commands}
use Rattle.program_words.proofs.Options.{Follows, follows, leaf, resting}
use Rattle.program_words.specs.Program.{value_rule, program, option_row}

abbrev a : App
a = built program

abbrev names : Names
names = names_of a

both_true : (x y : Bool) → x ≡ true → y ≡ true → (x && y) ≡ true
both_true x y e f = rw (e, f) refl

or_right : (x y : Bool) → y ≡ true → (x || y) ≡ true
or_right true y e = refl
or_right false y e = e

-- ---- the leaf

same_rows : (b : Bool) (rows : List Row) → cond b rows rows ≡ rows
same_rows true rows = refl
same_rows false rows = refl

no_defaults : (known : List Word) (rows : List Row) → fold with_default rows (map value_rule known) ≡ rows
no_defaults [] rows = refl
no_defaults (k ∷ ks) rows =
    ap (λ rs. fold with_default rs (map value_rule ks)) (same_rows (list_any (λ (r : Row). bytes_eq r.id k) rows) rows) ∙ no_defaults ks rows

all_options : (p : Rule → Bool) (known : List Word) → ((n : Word) → p (value_rule n) ≡ true) → list_all p (map value_rule known) ≡ true
all_options p [] h = refl
all_options p (k ∷ ks) h = both_true (p (value_rule k)) (list_all p (map value_rule ks)) (h k) (all_options p ks h)

module _ (title : Word) (known : List Word) (words : List Word) (given : GivenOptions) (is : options_from known [] None words ≡ Some given) where
  followed : Follows title known (walk_from nothing_held) words given
  followed = follows title known words [] None (walk_from nothing_held) given (resting [] nothing_held 1 (record { rows = refl; passes = refl })) is

  pub leaf_passes : level_passes (leaf title known) [] nothing_held words false ≡ true
  leaf_passes =
      both_true _ _ followed.passes
      (both_true _ _ followed.rests.passes
      (both_true _ _ (all_options default_passes known (λ n. refl))
      (both_true _ _ (all_options (λ r. r.is_free) known (λ n. refl))
      (all_options (λ r. not r.required || is_given r.id _) known (λ n. refl)))))

  pub leaf_rows : rows_at (leaf title known) words ≡ (title, map option_row given)
  leaf_rows = ap (λ rows. (title, rows)) (no_defaults known _ ∙ followed.rests.rows)

-- ---- the command above

abbrev start : Walk
start = walk_from nothing_held

abbrev stopped_at : Word → List Word → Walk
stopped_at name rest = record start { stopped = Some (name, rest) }

-- after the subcommand the words are left to it
left_to_it : (name : Word) (seen rest : List Word) → walk_passes a.top names (stopped_at name seen) rest ≡ true
unfolding walk_passes walked
left_to_it name seen [] = refl
left_to_it name seen (x ∷ xs) = left_to_it name (seen ++ x ∷ []) xs

module _ (name : Word) (known rest : List Word) (given : GivenOptions)
    (met : subcommand_met names idle name ≡ Some name)
    (found : find (λ s. answers_to name (label_of s)) a.subs ≡ Some (leaf name known))
    (is : options_from known [] None rest ≡ Some given) where
  enters : walked [] names start name ≡ stopped_at name []
  unfolding walked
  enters = ap (λ o. after_step [] name start (subcommand_or_other [] o idle 1 name nothing_held).0 (subcommand_or_other [] o idle 1 name nothing_held).1) met

  walks : walk [] names nothing_held (name ∷ rest) ≡ stopped_at name rest
  walks = ap (λ w. fold (walked [] names) w rest) enters ∙ sym (walk_stopped [] names start name [] rest)

  first_passes : turn_passes a.top names start name ≡ true
  first_passes = ap (λ o. other_passes a.top o name nothing_held
      && step_passes a.top 1 (subcommand_or_other [] o idle 1 name nothing_held).0 (subcommand_or_other [] o idle 1 name nothing_held).1) met
      ∙ both_true _ _ (or_right _ true refl) refl

  top_passes : walk_passes a.top names start (name ∷ rest) ≡ true
  unfolding walk_passes
  top_passes = both_true _ _ first_passes (ap (λ w. walk_passes a.top names w rest) enters ∙ left_to_it name [] rest)

  abbrev by_found : Option Shape → Option (Word × List Row)
  by_found o = option_map (λ s. rows_at s rest) o

  enters_leaf : entered a (Some (name, rest)) ≡ Some (name, map option_row given)
  enters_leaf = ap by_found found ∙ ap (λ p. Some p) (leaf_rows name known rest given is)

  abbrev takes_by : Walk → Bool
  takes_by w = entered_passes a w.stopped
      && (walk_passes a.top names start (name ∷ rest)
      && (settle_passes [] false w.held
      && (list_all default_passes [] && is_valid a.top (finished [] w.held) (is_some (entered a w.stopped)))))

  leaf_entered : entered_passes a (Some (name, rest)) ≡ true
  leaf_entered = ap (λ o. option_map_or (λ s. level_passes s [] nothing_held rest false) o true) found ∙ leaf_passes name known rest given is

  pub taken_as : takes program (name ∷ rest) ≡ true
  taken_as = ap takes_by walks ∙ both_true _ _ leaf_entered (both_true _ _ top_passes refl)

  pub entered_as : subcommand_of program (name ∷ rest) ≡ Some (name, map option_row given)
  entered_as = ap (λ (w : Walk). entered a w.stopped) walks ∙ enters_leaf

pub record Taken (words : List Word) (command : Word) (given : GivenOptions) : Type 0 where
  pub taken : takes program words ≡ true
  pub entered : subcommand_of program words ≡ Some (command, map option_row given)

none≢some : {X : Type 0} (x : X) → None ≡ Some x → ⊥
none≢some x e = true≢false (sym (ap is_some e))

some_is : {X : Type 0} (x y : X) → Some x ≡ Some y → x ≡ y
some_is x y e = ap (λ o. unwrap_or o x) e

-- ---- the commands

abbrev Entry : Type 0
Entry = Word × List Word

abbrev named_as : Word → List Entry → Option Entry
named_as command t = find (λ p. bytes_eq p.0 command) t

abbrev label_at : Entry → Word × List Word
label_at p = (p.0, [])

abbrev leaf_at : Entry → Shape
leaf_at p = leaf p.0 p.1

record Stood (t : List Entry) (command : Word) (p : Entry) : Type 0 where
  pub name : p.0 ≡ command
  pub label : option_map (λ s. s.0) (find (answers_to command) (map label_at t)) ≡ Some p.0
  pub shape : find (λ s. answers_to command (label_of s)) (map leaf_at t) ≡ Some (leaf_at p)

stood : (t : List Entry) (command : Word) (p : Entry) → named_as command t ≡ Some p → Stood t command p
stood [] command p e = absurd (none≢some p e)
stood (q ∷ qs) command p e = go (bytes_eq q.0 command) refl e (stood qs command p)
  where
    go : (b : Bool) → bytes_eq q.0 command ≡ b → cond b (Some q) (named_as command qs) ≡ Some p → (named_as command qs ≡ Some p → Stood qs command p) → Stood (q ∷ qs) command p
    go true is f more =
        let same : q ≡ p = some_is q p f in
        record {
          name = ap (λ (x : Entry). x.0) (sym same) ∙ (bytes_decides q.0 command).0 is;
          label = rw is (ap (λ (x : Entry). Some x.0) same);
          shape = rw is (ap (λ (x : Entry). Some (leaf_at x)) same);
        }
    go false is f more =
        let next = more f in
        record {
          name = next.name;
          label = rw is next.label;
          shape = rw is next.shape;
        }

abbrev with_name : Word → GivenOptions → Word × GivenOptions
with_name command given = (command, given)

abbrev options_at : Word → List Word → List Word → Option (Word × GivenOptions)
options_at command rest known = option_map (with_name command) (options_from known [] None rest)

pub read_taken : (words : List Word) (command : Word) (given : GivenOptions) → understood words ≡ Some (command, given) → Taken words command given
read_taken [] command given e = absurd (none≢some _ e)
read_taken (word ∷ rest) command given e = at_entry (named_as word commands) refl e
  where
    at_options : (p : Entry) → named_as word commands ≡ Some p → (o : Option GivenOptions) → options_from p.1 [] None rest ≡ o → option_map (with_name word) o ≡ Some (command, given) → Taken (word ∷ rest) command given
    at_options p found None is f = absurd (none≢some _ f)
    at_options p found (Some g) is f =
        let s = stood commands word p found in
        let pair : ◌≡◌ {A = Word × GivenOptions} (p.0, g) (command, given) = ap (λ n. with_name n g) s.name ∙ some_is (with_name word g) (command, given) f in
        subst (λ (q : Word × GivenOptions). Taken (word ∷ rest) q.0 q.1) pair
        (subst (λ n. Taken (n ∷ rest) p.0 g) s.name (record {
          taken = taken_as p.0 p.1 rest g (subst (λ n. subcommand_met names idle n ≡ Some p.0) (sym s.name) s.label) (subst (λ n. find (λ l. answers_to n (label_of l)) a.subs ≡ Some (leaf p.0 p.1)) (sym s.name) s.shape) is;
          entered = entered_as p.0 p.1 rest g (subst (λ n. subcommand_met names idle n ≡ Some p.0) (sym s.name) s.label) (subst (λ n. find (λ l. answers_to n (label_of l)) a.subs ≡ Some (leaf p.0 p.1)) (sym s.name) s.shape) is;
        }))

    at_entry : (o : Option Entry) → named_as word commands ≡ o → option_and_then (options_at word rest) (option_map (λ p. p.1) o) ≡ Some (command, given) → Taken (word ∷ rest) command given
    at_entry None found f = absurd (none≢some _ f)
    at_entry (Some p) found f = at_options p found (options_from p.1 [] None rest) refl f
