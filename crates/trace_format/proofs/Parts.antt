-- The parts of a line are read just as they are spelled, and leave what follows them.
use Rattle.std.proofs.Common.{◌≡◌, ℕ, ◌==◌, Bool, true, false, not, cond, inl, Option, Some, None, is_some, List, [], ◌∷◌, ◌++◌, map, length, find, refl, sym, ap, ◌∙◌, arith, subst, codes, lit<, append_assoc}
use Rattle.std.specs.Option.{option_map}
use Rattle.std.specs.List.{AllByRecursion, flat_map, join_with_byte}
use Rattle.std.specs.Str.{bytes_eq}
use Rattle.std.proofs.lemmas.List.Splits.{length-slice_split}
use Rattle.std.proofs.lemmas.Slice.Eq.{bytes_eq-Decides}
use Rattle.command_tables.specs.declared.types.CommandId.{CommandId}
use Rattle.command_tables.specs.declared.types.CommandId.TheVariants as cmd
use Rattle.command_tables.specs.declared.types.Code.{Code}
use Rattle.command_tables.specs.declared.types.Code.TheVariants as code
use Rattle.command_tables.specs.declared.types.Effect.{Effect}
use Rattle.command_tables.specs.declared.codes.TheConstants.{CODES}
use Rattle.command_tables.specs.declared.lookup.TheConstants.{COMMANDS}
use Rattle.command_tables.specs.CodeNames.{code_name}
use Rattle.command_tables.specs.Table.{ParamSpec, RowSpec, row_of}
use Rattle.trace_format.specs.declared.event.Name.{Name}
use Rattle.trace_format.specs.Content.{Arg}
use Rattle.trace_format.specs.Grammar.{FitParams, HasFirst, HasForm, IsName, IsOne, arg_text, args_text, code_text, is_printable, name_text, one_text, payload_text, results_text, takes}
use Rattle.trace_format.specs.Words.{after, all_of, and_then, args_of, code_of, command_of, from, is_nonempty, name_of, only_if, pieces, until}
use Rattle.trace_format.specs.Reading.{agrees, args_in, code_at, code_in, cut_word, has_first, names_at, payload_at, results_at, results_or, word_at, words_at}
use Rattle.trace_format.proofs.Texts.{AtEnd, Each, after_is, all_complete, all_sound, each, from_append, is_not, mapped, passed, until_append, until_from, went}
use Rattle.trace_format.proofs.Names.{digit_no_space, name_each, name_lacks, name_reader, one_each}
use Rattle.trace_format.proofs.Lists.{all_texts, arg_each, arg_nonempty, args_complete, args_sound, each_join, first_complete, first_sound, join_pieces, pieces_join}

-- ---- spaces

-- no name holds a space
name_lacks_space : (n : Name) → IsName n → Each (is_not 32) (name_text n)
name_lacks_space n v = name_each (is_not 32) digit_no_space refl refl n v

-- no place holds a space
one_lacks_space : (o : Option Name) → IsOne o → Each (is_not 32) (one_text o)
one_lacks_space o v = one_each (is_not 32) name_lacks_space (each (is_not 32) (codes "null") refl) o v

-- no argument holds a space
arg_lacks_space : (many : Bool) (a : Arg) → HasForm many a → Each (is_not 32) (arg_text a)
arg_lacks_space many a v = arg_each (is_not 32) one_lacks_space refl refl refl many a v

-- no list of names holds a space
names_lack_space : (ns : List Name) → AllByRecursion IsName ns → Each (is_not 32) (join_with_byte 44 (map name_text ns))
names_lack_space ns v = each_join (is_not 32) refl (map name_text ns) (all_texts IsName name_text (is_not 32) name_lacks_space ns v)

-- ---- arguments

-- arguments before an end begin with a space, or are none
args_at_end : (args : List Arg) (rest : List ℕ) → AtEnd 32 rest → AtEnd 32 (args_text args ++ rest)
args_at_end [] rest end = end
args_at_end (a ∷ args) rest end = refl

-- one argument more in front
args_text_more : (a : Arg) (args : List Arg) (rest : List ℕ) → args_text (a ∷ args) ++ rest ≡ 32 ∷ (arg_text a ++ (args_text args ++ rest))
args_text_more a args rest = ap (λ r. 32 ∷ r) (append_assoc (arg_text a) (args_text args) rest)

-- a word after one space is cut there
word_complete : (w rest : List ℕ) → Each (is_not 32) w → is_nonempty w ≡ true → AtEnd 32 rest → word_at (32 ∷ (w ++ rest)) ≡ Some (w, rest)
word_complete w rest lacks there end = rw (until_append 32 w rest lacks end, from_append 32 w rest lacks end, there) refl

-- arguments are cut into their words
pub words_complete : (ps : List ParamSpec) (args : List Arg) (rest : List ℕ) → FitParams ps args → AtEnd 32 rest → words_at ps (args_text args ++ rest) ≡ Some (map arg_text args, rest)
words_complete [] [] rest v end = refl
words_complete [] (a ∷ args) rest v end = absurd v
words_complete (p ∷ ps) [] rest v end = absurd v
words_complete (p ∷ ps) (a ∷ args) rest v end =
    ap (words_at (p ∷ ps)) (args_text_more a args rest)
    ∙ (ap (λ m. and_then m (λ (first : List ℕ × List ℕ). option_map (λ (others : List (List ℕ) × List ℕ). (first.0 ∷ others.0, others.1)) (words_at ps first.1)))
    (word_complete (arg_text a) (args_text args ++ rest) (arg_lacks_space p.many a v.0) (arg_nonempty p.many a v.0) (args_at_end args rest end))
    ∙ ap (λ m. option_map (λ (others : List (List ℕ) × List ℕ). (arg_text a ∷ others.0, others.1)) m) (words_complete ps args rest v.1 end))

-- words, each after one space
abbrev pub spaced : List (List ℕ) → List ℕ
spaced ws = flat_map (λ w. codes " " ++ w) ws

-- the words of arguments, each after one space, are the text of the arguments
spaced_args : (args : List Arg) → spaced (map arg_text args) ≡ args_text args
spaced_args [] = refl
spaced_args (a ∷ args) = ap (λ r. 32 ∷ (arg_text a ++ r)) (spaced_args args)

-- a word that was cut stood after one space
word_sound : (bytes : List ℕ) (x : List ℕ × List ℕ) → word_at bytes ≡ Some x → bytes ≡ 32 ∷ (x.0 ++ x.1)
word_sound bytes x h =
    let a = went (after (codes " ") bytes) cut_word x h in
    let p = passed (is_nonempty (until 32 a.value)) (until 32 a.value, from 32 a.value) x a.gave in
    after_is (codes " ") bytes a.value a.read ∙ (ap (λ r. 32 ∷ r) (until_from 32 a.value) ∙ ap (λ (y : List ℕ × List ℕ). 32 ∷ (y.0 ++ y.1)) p.1)

-- words that were cut stood each after one space
words_sound : (ps : List ParamSpec) (bytes : List ℕ) (x : List (List ℕ) × List ℕ) → words_at ps bytes ≡ Some x → bytes ≡ spaced x.0 ++ x.1
words_sound [] bytes x h = let e : ([], bytes) ≡ x = cc in ap (λ (y : List (List ℕ) × List ℕ). spaced y.0 ++ y.1) e
words_sound (p ∷ ps) bytes x h =
    let a = went (word_at bytes) (λ (first : List ℕ × List ℕ). option_map (λ (others : List (List ℕ) × List ℕ). (first.0 ∷ others.0, others.1)) (words_at ps first.1)) x h in
    let m = mapped (λ (others : List (List ℕ) × List ℕ). (a.value.0 ∷ others.0, others.1)) (words_at ps a.value.1) x a.gave in
    let w = word_sound bytes a.value a.read in
    let ws = words_sound ps a.value.1 m.value m.read in
    w ∙ (ap (λ r. 32 ∷ (a.value.0 ++ r)) ws ∙ (ap (λ r. 32 ∷ r) (sym (append_assoc a.value.0 (spaced m.value.0) m.value.1)) ∙ ap (λ (y : List (List ℕ) × List ℕ). spaced y.0 ++ y.1) m.gave))

-- what the arguments at the front of the bytes are
pub record ArgsRead (ps : List ParamSpec) (bytes : List ℕ) (args : List Arg) (rest : List ℕ) : Type 0 where
  pub fit : FitParams ps args
  pub first : HasFirst args
  pub text : bytes ≡ args_text args ++ rest

-- arguments that were read stood at the front
pub args_read : (ps : List ParamSpec) (bytes : List ℕ) (x : List (List ℕ) × List ℕ) (args : List Arg) → words_at ps bytes ≡ Some x → args_in ps x.0 ≡ Some args → ArgsRead ps bytes args x.1
args_read ps bytes x args h k =
    let a = went (args_of ps x.0) (λ as'. only_if (has_first as') as') args k in
    let p = passed (has_first a.value) a.value args a.gave in
    let s = args_sound ps x.0 args (a.read ∙ ap (λ v. Some v) p.1) in
    record {
      fit = s.0;
      first = first_sound args (sym (ap has_first p.1) ∙ p.0);
      text = words_sound ps bytes x h ∙ (ap (λ ws. spaced ws ++ x.1) s.1 ∙ ap (λ t. t ++ x.1) (spaced_args args));
    }

-- arguments that fit are read from their words
pub args_in_complete : (ps : List ParamSpec) (args : List Arg) → FitParams ps args → HasFirst args → args_in ps (map arg_text args) ≡ Some args
args_in_complete ps args fit first = rw (args_complete ps args fit, first_complete args first) refl

-- ---- results

-- results are read as they are spelled
pub results_complete : (e : Effect) (ns : List Name) (rest : List ℕ) → takes e (length ns) ≡ true → AllByRecursion IsName ns → AtEnd 32 rest → after (codes " = ") rest ≡ None
    → results_at e (results_text ns ++ rest) ≡ Some (ns, rest)
results_complete e [] rest t v end other = rw (other, t) refl
results_complete e (n ∷ ns) rest t v end other =
    let lacks = names_lack_space (n ∷ ns) v in
    let commas = all_texts IsName name_text (is_not 44) (λ m h. name_lacks 44 m (inl (lit< tt)) refl refl h) (n ∷ ns) v in
    rw (
      until_append 32 (join_with_byte 44 (map name_text (n ∷ ns))) rest lacks end,
      from_append 32 (join_with_byte 44 (map name_text (n ∷ ns))) rest lacks end,
      pieces_join (name_text n) (map name_text ns) commas,
      all_complete name_reader (n ∷ ns) v,
      t,
    ) refl

-- what the results at the front of the bytes are
pub record ResultsRead (e : Effect) (bytes : List ℕ) (x : List Name × List ℕ) : Type 0 where
  pub takes_them : takes e (length x.0) ≡ true
  pub names : AllByRecursion IsName x.0
  pub text : bytes ≡ results_text x.0 ++ x.1

-- names that are pieces are at least one
results_of_pieces : (ns : List Name) (bytes : List ℕ) → pieces bytes ≡ map name_text ns → results_text ns ≡ codes " = " ++ join_with_byte 44 (map name_text ns)
results_of_pieces [] bytes h =
    let e : length (pieces bytes) ≡ 0 = ap (λ ps. length ps) h in
    absurd (omega (arith, length-slice_split (λ b. b == 44) bytes))
results_of_pieces (n ∷ ns) bytes h = refl

-- results that were read behind ` = ` are spelled so
results_with : (e : Effect) (bytes rest : List ℕ) (x : List Name × List ℕ) → bytes ≡ codes " = " ++ rest → names_at e rest ≡ Some x → ResultsRead e bytes x
results_with e bytes rest x text h =
    let a = went (all_of name_of (pieces (until 32 rest))) (λ names. only_if (takes e (length names)) (names, from 32 rest)) x h in
    let p = passed (takes e (length a.value)) (a.value, from 32 rest) x a.gave in
    let s = all_sound name_reader (pieces (until 32 rest)) a.value a.read in
    let word : until 32 rest ≡ join_with_byte 44 (map name_text a.value) = join_pieces (until 32 rest) ∙ ap (λ ps. join_with_byte 44 ps) s.1 in
    let whole : bytes ≡ results_text a.value ++ from 32 rest =
    text ∙ (ap (λ r. codes " = " ++ r) (until_from 32 rest ∙ ap (λ w. w ++ from 32 rest) word) ∙ ap (λ r. r ++ from 32 rest) (sym (results_of_pieces a.value (until 32 rest) s.1))) in
    subst (λ y. ResultsRead e bytes y) p.1 (record { takes_them = p.0; names = s.0; text = whole })

-- where there is no ` = `, there are no results
results_without : (e : Effect) (bytes : List ℕ) (x : List Name × List ℕ) → only_if (takes e 0) ([], bytes) ≡ Some x → ResultsRead e bytes x
results_without e bytes x h =
    let p = passed (takes e 0) ([], bytes) x h in
    subst (λ y. ResultsRead e bytes y) p.1 (record { takes_them = p.0; names = tt; text = refl })

-- results that were read stood at the front
pub results_read : (e : Effect) (bytes : List ℕ) (x : List Name × List ℕ) → results_at e bytes ≡ Some x → ResultsRead e bytes x
results_read e bytes x h = go (after (codes " = ") bytes) refl h
  where
    go : (o : Option (List ℕ)) → after (codes " = ") bytes ≡ o → results_or e bytes o ≡ Some x → ResultsRead e bytes x
    go None is k = results_without e bytes x k
    go (Some rest) is k = results_with e bytes rest x (after_is (codes " = ") bytes rest is) k

-- ---- codes

-- a code is read as it is spelled
code_complete : (c : Option Code) → code_of (code_text c) ≡ Some c
unfolding code_of
code_complete None = refl
code_complete (Some code.Success) = refl
code_complete (Some _) = refl

-- what a look-up finds has the name
pub found_name : {X : Type 0} (key : X → List ℕ) (name : List ℕ) (xs : List X) (y : X) → find (λ x. bytes_eq (key x) name) xs ≡ Some y → name ≡ key y
found_name key name [] y h = cc
found_name key name (x ∷ xs) y h = go (found_name key name xs y) (bytes_eq (key x) name) (bytes_eq-Decides (key x) name).0 h
  where
    go : (find (λ x. bytes_eq (key x) name) xs ≡ Some y → name ≡ key y) → (t : Bool) → (t ≡ true → key x ≡ name) → cond t (Some x) (find (λ x. bytes_eq (key x) name) xs) ≡ Some y → name ≡ key y
    go ih true is k = let e : x ≡ y = cc in sym (is refl) ∙ ap key e
    go ih false is k = ih k

-- a text that is read as a code is its spelling
code_sound : (w : List ℕ) (c : Option Code) → code_of w ≡ Some c → w ≡ code_text c
unfolding code_of
code_sound w c h = go (bytes_eq w (codes "void")) (bytes_eq-Decides w (codes "void")).0 h
  where
    go : (t : Bool) → (t ≡ true → w ≡ codes "void") → cond t (Some None) (option_map Some (find (λ x. bytes_eq (code_name x) w) CODES)) ≡ Some c → w ≡ code_text c
    go true is k = let e : None ≡ c = cc in is refl ∙ ap code_text e
    go false is k =
        let m = mapped Some (find (λ x. bytes_eq (code_name x) w) CODES) c k in
        found_name code_name w CODES m.value m.read ∙ ap code_text m.gave

-- no code holds a space
code_lacks_space : (c : Option Code) → Each (is_not 32) (code_text c)
code_lacks_space None = each (is_not 32) (codes "void") refl
code_lacks_space (Some code.Success) = each (is_not 32) (code_name code.Success) refl
code_lacks_space (Some c) = each (is_not 32) (code_name c) refl

-- a code agrees with a row exactly where it is there as the row says
agrees_same : (r s : Bool) → s ≡ r → agrees r s ≡ true
agrees_same true s h = h
agrees_same false s h = ap not h

-- and the other way round
same_agrees : (r s : Bool) → agrees r s ≡ true → s ≡ r
same_agrees true s h = h
same_agrees false true h = cc
same_agrees false false h = refl

-- a code after one space is read as it is spelled
pub code_at_complete : (row : RowSpec) (c : Option Code) (rest : List ℕ) → is_some c ≡ row.returns → AtEnd 32 rest → code_at row (32 ∷ (code_text c ++ rest)) ≡ Some (c, rest)
code_at_complete row c rest is end = rw (until_append 32 (code_text c) rest (code_lacks_space c) end, from_append 32 (code_text c) rest (code_lacks_space c) end, code_complete c, agrees_same row.returns (is_some c) is) refl

-- what the code at the front of the bytes is
pub record CodeRead (row : RowSpec) (bytes : List ℕ) (x : Option Code × List ℕ) : Type 0 where
  pub there : is_some x.0 ≡ row.returns
  pub text : bytes ≡ codes " " ++ (code_text x.0 ++ x.1)

-- a code that was read stood at the front
pub code_read : (row : RowSpec) (bytes : List ℕ) (x : Option Code × List ℕ) → code_at row bytes ≡ Some x → CodeRead row bytes x
code_read row bytes x h =
    let a = went (after (codes " ") bytes) (code_in row) x h in
    let b = went (code_of (until 32 a.value)) (λ c. only_if (agrees row.returns (is_some c)) (c, from 32 a.value)) x a.gave in
    let p = passed (agrees row.returns (is_some b.value)) (b.value, from 32 a.value) x b.gave in
    let text : bytes ≡ codes " " ++ (code_text b.value ++ from 32 a.value) =
    after_is (codes " ") bytes a.value a.read ∙ ap (λ r. 32 ∷ r) (until_from 32 a.value ∙ ap (λ w. w ++ from 32 a.value) (code_sound (until 32 a.value) b.value b.read)) in
    subst (λ y. CodeRead row bytes y) p.1 (record { there = same_agrees row.returns (is_some b.value) p.0; text = text })

-- no code is read as results
pub code_is_no_result : (c : Option Code) (rest : List ℕ) → after (codes " = ") (32 ∷ (code_text c ++ rest)) ≡ None
code_is_no_result None rest = refl
code_is_no_result (Some code.Success) rest = refl
code_is_no_result (Some _) rest = refl

-- ---- payloads

-- a payload is read as it is spelled
pub payload_complete : (p : List ℕ) → payload_at (payload_text p) ≡ Some p
payload_complete [] = refl
payload_complete (b ∷ bytes) = refl

-- a payload that is not empty is spelled behind ` : `
payload_with : (p : List ℕ) → is_nonempty p ≡ true → codes " : " ++ p ≡ payload_text p
payload_with [] h = cc
payload_with (b ∷ p) h = refl

-- bytes that are read as a payload are its spelling
pub payload_sound : (bytes p : List ℕ) → payload_at bytes ≡ Some p → bytes ≡ payload_text p
payload_sound [] p h = let e : [] ≡ p = cc in ap payload_text e
payload_sound (b ∷ bytes) p h =
    let a = went (after (codes " : ") (b ∷ bytes)) (λ q. only_if (is_nonempty q) q) p h in
    let t = passed (is_nonempty a.value) a.value p a.gave in
    after_is (codes " : ") (b ∷ bytes) a.value a.read ∙ (payload_with a.value t.0 ∙ ap payload_text t.1)

-- a payload begins with a space, or is empty
pub payload_at_end : (p : List ℕ) → AtEnd 32 (payload_text p)
payload_at_end [] = tt
payload_at_end (b ∷ bytes) = refl

-- ---- commands

-- a command is read as it is spelled
pub command_complete : (c : CommandId) → command_of (row_of c).name ≡ Some c
unfolding command_of row_of
command_complete cmd.AcquireNextImageKHR = refl
command_complete _ = refl

-- a text that is read as a command is its name
pub command_sound : (w : List ℕ) (c : CommandId) → command_of w ≡ Some c → w ≡ (row_of c).name
unfolding command_of
command_sound w c h = found_name (λ d. (row_of d).name) w COMMANDS c h

-- no name of a command holds a space
pub command_lacks_space : (c : CommandId) → Each (is_not 32) (row_of c).name
unfolding row_of
command_lacks_space cmd.AcquireNextImageKHR = each (is_not 32) (row_of cmd.AcquireNextImageKHR).name refl
command_lacks_space c = each (is_not 32) (row_of c).name refl

-- names of commands can be printed
pub command_prints : (c : CommandId) → Each is_printable (row_of c).name
unfolding row_of
command_prints cmd.AcquireNextImageKHR = each is_printable (row_of cmd.AcquireNextImageKHR).name refl
command_prints c = each is_printable (row_of c).name refl

-- codes can be printed
pub code_prints : (c : Option Code) → Each is_printable (code_text c)
code_prints None = each is_printable (codes "void") refl
code_prints (Some code.Success) = each is_printable (code_name code.Success) refl
code_prints (Some c) = each is_printable (code_name c) refl
