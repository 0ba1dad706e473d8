-- Lists that are read one element after the other.
use Rattle.std.proofs.Common.{◌≡◌, ◌+◌, ◌<◌, ℕ, suc, Option, Some, None, List, [], ◌∷◌, ◌++◌, map, length, drop, get_or, refl, ap, sym, ◌∙◌, arith, append_assoc, option_map, Bor, IfSome}
use Rattle.std.proofs.lemmas.List.{at_drop_more}
use Rattle.command_tables.specs.declared.types.Param.{Param}
use Rattle.command_tables.specs.Table.{seen_param}
use Rattle.trace_format.specs.Content.{Arg}
use Rattle.trace_format.specs.Words.{arg_of, args_of, both, from, until}
use Rattle.trace_format.specs.Steps.{words_in}

-- a list that is read, behind the elements read before it
abbrev pub with_front : {X : Type 0} → List X → Option (List X) → Option (List X)
with_front xs o = option_map (λ ys. xs ++ ys) o

-- one element more was read
cons_front : {X : Type 0} (front : List X) (x : X) (o : Option (List X)) → with_front front (both (Some x) o) ≡ with_front (front ++ x ∷ []) o
cons_front front x None = refl
cons_front front x (Some xs) = ap (λ (l : List _). Some l) (sym (append_assoc front (x ∷ []) xs))

-- the arguments of these parameters, whose words stand at the front
abbrev pub args_here : List Param → List ℕ → Option (List Arg)
args_here ps bytes = args_of (map seen_param ps) (words_in (map seen_param ps) bytes)

-- an argument that is read
args_more : (front : List Arg) (p : Param) (ps : List Param) (bytes : List ℕ) (a : Arg) → arg_of p.many (until 32 (drop 1 bytes)) ≡ Some a
    → with_front front (args_here (p ∷ ps) bytes) ≡ with_front (front ++ a ∷ []) (args_here ps (from 32 (drop 1 bytes)))
args_more front p ps bytes a e = ap (λ o. with_front front (both o (args_here ps (from 32 (drop 1 bytes))))) e ∙ cons_front front a (args_here ps (from 32 (drop 1 bytes)))

-- an argument that is not read
args_none : (front : List Arg) (p : Param) (ps : List Param) (bytes : List ℕ) → arg_of p.many (until 32 (drop 1 bytes)) ≡ None → with_front front (args_here (p ∷ ps) bytes) ≡ None
args_none front p ps bytes e = ap (λ o. with_front front (both o (args_here ps (from 32 (drop 1 bytes))))) e

-- the same at a place of the parameters
pub args_more_at : (front : List Arg) (ps : List Param) (i : ℕ) (d : Param) (bytes skipped word after : List ℕ) (a : Arg) → i < length ps → skipped ≡ drop 1 bytes → word ≡ until 32 skipped → after ≡ from 32 skipped
    → arg_of (get_or ps i d).many word ≡ Some a → with_front front (args_here (drop i ps) bytes) ≡ with_front (front ++ a ∷ []) (args_here (drop (i + 1) ps) after)
args_more_at front ps i d bytes skipped word after a h is_skipped is_word is_after e =
    let here : arg_of (get_or ps i d).many (until 32 (drop 1 bytes)) ≡ Some a = rw (is_word, is_skipped) at e in
    at_drop_more (λ qs. with_front front (args_here qs bytes)) ps i d h ∙ args_more front (get_or ps i d) (drop (i + 1) ps) bytes a here
    ∙ ap (λ rest. with_front (front ++ a ∷ []) (args_here (drop (i + 1) ps) rest)) (sym (is_after ∙ ap (from 32) is_skipped))

-- and where it is not read
pub args_none_at : (front : List Arg) (ps : List Param) (i : ℕ) (d : Param) (bytes skipped word : List ℕ) → i < length ps → skipped ≡ drop 1 bytes → word ≡ until 32 skipped
    → arg_of (get_or ps i d).many word ≡ None → with_front front (args_here (drop i ps) bytes) ≡ None
args_none_at front ps i d bytes skipped word h is_skipped is_word e =
    let here : arg_of (get_or ps i d).many (until 32 (drop 1 bytes)) ≡ None = rw (is_word, is_skipped) at e in
    at_drop_more (λ qs. with_front front (args_here qs bytes)) ps i d h ∙ args_none front (get_or ps i d) (drop (i + 1) ps) bytes here

-- how much is left of a list between commas
abbrev pub left_of : Option (Bor (List ℕ)) → ℕ
left_of None = 0
left_of (Some bytes) = suc (length bytes.now)

-- less than before, after a piece
pub less_left : (o p : Option (Bor (List ℕ))) (bytes : Bor (List ℕ)) → p ≡ Some bytes → IfSome o (λ rest. length rest.now < length bytes.now) → left_of o < left_of p
less_left None p bytes e h = rw e (omega arith)
less_left (Some rest) p bytes e h = rw e (omega arith)
