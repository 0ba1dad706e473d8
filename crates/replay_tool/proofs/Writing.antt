-- Pieces of text that are written one behind the other.
use Rattle.std.proofs.Common.{◌≡◌, ◌∙◌, ◌+◌, ◌<◌, ℕ, Bool, false, refl, sym, ap, subst, arith, List, [], ◌∷◌, ◌++◌, length, map, take, drop, min, Option, append-nil, append_assoc, true≢false, inr}
use Rattle.std.specs.Prelude.{Result, Ok, Err}
use Rattle.std.specs.List.{concat, slice_index_or}
use Rattle.std.proofs.Math.Seq.{take-append-add}
use Rattle.std.proofs.lemmas.List.{map-append, take-append-drop, take-append-le, take_min, take_more}
use Rattle.replay_base.specs.Bytes.{grown, GrownByFront}
use Rattle.replay_base.specs.Changes.{Change, changed}
use Rattle.replay_base.specs.Faults.{raised}
use Rattle.replay_base.specs.declared.limit.Which.TheVariants as which
use Rattle.replay_base.proofs.Written.{grown_nil}
use Rattle.replay_core.specs.declared.error.ReplayError.{ReplayError}
use Rattle.replay_core.specs.declared.error.ReplayError.TheVariants as error
use Rattle.replay_tool.proofs.SaidLemmas.{all_of_both, front_more, front_behind}
use Rattle.replay_tool.specs.Showing.{ChainRun, Shows, ShowsSetup, WroteAll, WroteFront, WroteSome, Writes}

-- the pieces of two lists
pub concat_append : (xs ys : List (List ℕ)) → concat (xs ++ ys) ≡ concat xs ++ concat ys
concat_append [] ys = refl
concat_append (x ∷ xs) ys = ap (λ t. x ++ t) (concat_append xs ys) ∙ sym (append_assoc x (concat xs) (concat ys))

-- where no piece is due, all are written
pub nothing_yet : (h : Option (List ℕ)) (f : ℕ) → WroteAll [] (changed h h f f)
nothing_yet h f = record { wrote = sym (grown_nil h); stood = refl }

-- memory ran out before the first piece
pub none_of : (pieces : List (List ℕ)) (h : Option (List ℕ)) (f : ℕ) → WroteSome pieces (changed h h f f)
none_of pieces h f = record { count = 0; wrote = sym (grown_nil h); stood = refl }

-- one piece
pub one_piece : (piece : List ℕ) (h0 h1 : Option (List ℕ)) (f0 f1 : ℕ) → h1 ≡ grown h0 piece → f1 ≡ f0 → WroteAll (piece ∷ []) (changed h0 h1 f0 f1)
one_piece piece h0 h1 f0 f1 wrote stood = record { wrote = wrote ∙ ap (grown h0) (sym (append-nil piece)); stood = stood }

-- all of these, and then all of those
all_then : (xs ys : List (List ℕ)) (h0 h1 h2 : Option (List ℕ)) (f0 f1 f2 : ℕ) → WroteAll xs (changed h0 h1 f0 f1) → WroteAll ys (changed h1 h2 f1 f2)
    → WroteAll (xs ++ ys) (changed h0 h2 f0 f2)
all_then xs ys h0 h1 h2 f0 f1 f2 a b = record {
  wrote = all_of_both h0 h1 h2 (concat xs) (concat ys) a.wrote b.wrote ∙ ap (grown h0) (sym (concat_append xs ys));
  stood = b.stood ∙ a.stood;
}

front_then : (xs ys : List (List ℕ)) (h0 h1 h2 : Option (List ℕ)) (f0 f1 f2 : ℕ) → WroteAll xs (changed h0 h1 f0 f1) → WroteFront ys (changed h1 h2 f1 f2)
    → WroteFront (xs ++ ys) (changed h0 h2 f0 f2)
front_then xs ys h0 h1 h2 f0 f1 f2 a b = record {
  front = subst (GrownByFront h0 h2) (sym (concat_append xs ys)) (front_behind h0 h1 h2 (concat xs) (concat ys) a.wrote b.front);
  failed = b.failed ∙ ap raised a.stood;
}

some_then : (xs ys : List (List ℕ)) (h0 h1 h2 : Option (List ℕ)) (f0 f1 f2 : ℕ) → WroteAll xs (changed h0 h1 f0 f1) → WroteSome ys (changed h1 h2 f1 f2)
    → WroteSome (xs ++ ys) (changed h0 h2 f0 f2)
some_then xs ys h0 h1 h2 f0 f1 f2 a b = record {
  count = length xs + b.count;
  wrote = all_of_both h0 h1 h2 (concat xs) (concat (take b.count ys)) a.wrote b.wrote
      ∙ ap (grown h0) (sym (concat_append xs (take b.count ys)) ∙ ap concat (sym (take-append-add xs ys b.count)));
  stood = b.stood ∙ a.stood;
}

-- what is written behind what was written
pub then : (xs ys : List (List ℕ)) (long : Bool) (h0 h1 h2 : Option (List ℕ)) (f0 f1 f2 : ℕ) (r : Result Unit ReplayError)
    → WroteAll xs (changed h0 h1 f0 f1) → Writes ys long (changed h1 h2 f1 f2) r → Writes (xs ++ ys) long (changed h0 h2 f0 f2) r
then xs ys long h0 h1 h2 f0 f1 f2 (Ok u) a w = (all_then xs ys h0 h1 h2 f0 f1 f2 a w.0, w.1)
then xs ys long h0 h1 h2 f0 f1 f2 (Err error.Write) a w = front_then xs ys h0 h1 h2 f0 f1 f2 a w
then xs ys long h0 h1 h2 f0 f1 f2 (Err (error.Limit which.Chain)) a w = (all_then xs ys h0 h1 h2 f0 f1 f2 a w.0, w.1)
then xs ys long h0 h1 h2 f0 f1 f2 (Err error.NoMemory) a w = some_then xs ys h0 h1 h2 f0 f1 f2 a w
then xs ys long h0 h1 h2 f0 f1 f2 (Err other) a w = absurd w

-- an error in these leaves those unwritten
pub cut_before : (xs ys : List (List ℕ)) (long : Bool) (c : Change) (e : ReplayError) → Writes xs false c (Err e) → Writes (xs ++ ys) long c (Err e)
cut_before xs ys long c error.Write w = record { front = subst (GrownByFront c.old c.new) (sym (concat_append xs ys)) (front_more c.old c.new (concat xs) (concat ys) w.front); failed = w.failed }
cut_before xs ys long c (error.Limit which.Chain) w = absurd (true≢false (sym w.1))
cut_before xs ys long c error.NoMemory w = record {
  count = min w.count (length xs);
  wrote = w.wrote ∙ ap (λ ps. grown c.old (concat ps)) (sym (take_min w.count xs) ∙ sym (take-append-le (min w.count (length xs)) xs ys (omega arith)));
  stood = w.stood;
}
cut_before xs ys long c other w = absurd w

-- ---- a line for each element

module _ {X Y : Type 0} (line : Y → List ℕ) (read : X → Y) (xs : List X) (i : ℕ) (x : X) (lt : i < length xs) (at : x ≡ slice_index_or xs i x) where
  abbrev lines_in : List X → List (List ℕ)
  lines_in ys = map line (map read ys)

  abbrev this : List (List ℕ)
  this = line (read x) ∷ []

  lines_append : (ys zs : List X) → lines_in (ys ++ zs) ≡ lines_in ys ++ lines_in zs
  lines_append ys zs = ap (map line) (map-append read ys zs) ∙ map-append line (map read ys) (map read zs)

  lines_next : lines_in (take (i + 1) xs) ≡ lines_in (take i xs) ++ this
  lines_next = ap lines_in (take_more xs i x lt ∙ ap (λ y. take i xs ++ y ∷ []) (sym at)) ∙ lines_append (take i xs) (x ∷ [])

  -- the lines so far, and then this one
  pub next_line : (h0 h1 h2 : Option (List ℕ)) (f0 f1 f2 : ℕ) → WroteAll (lines_in (take i xs)) (changed h0 h1 f0 f1) → WroteAll this (changed h1 h2 f1 f2)
      → WroteAll (lines_in (take (i + 1) xs)) (changed h0 h2 f0 f2)
  next_line h0 h1 h2 f0 f1 f2 a b = subst (λ (ps : List (List ℕ)). WroteAll ps (changed h0 h2 f0 f2)) (sym lines_next) (all_then (lines_in (take i xs)) this h0 h1 h2 f0 f1 f2 a b)

  -- an error in this line
  pub cut_line : (h0 h1 h2 : Option (List ℕ)) (f0 f1 f2 : ℕ) (e : ReplayError) → WroteAll (lines_in (take i xs)) (changed h0 h1 f0 f1)
      → Writes this false (changed h1 h2 f1 f2) (Err e) → Writes (lines_in xs) false (changed h0 h2 f0 f2) (Err e)
  cut_line h0 h1 h2 f0 f1 f2 e a w =
      let rest = lines_in (drop (i + 1) xs) in
      let whole : lines_in xs ≡ (lines_in (take i xs) ++ this) ++ rest =
      ap lines_in (sym (take-append-drop (i + 1) xs)) ∙ lines_append (take (i + 1) xs) (drop (i + 1) xs) ∙ ap (λ ps. ps ++ rest) lines_next in
      subst (λ (ps : List (List ℕ)). Writes ps false (changed h0 h2 f0 f2) (Err e)) (sym whole)
      (cut_before (lines_in (take i xs) ++ this) rest false (changed h0 h2 f0 f2) e (then (lines_in (take i xs)) this false h0 h1 h2 f0 f1 f2 (Err e) a w))

-- ---- notes of three kinds, and then the chain

module _ (a b c d : List (List ℕ)) (long : Bool) (h0 h1 : Option (List ℕ)) (f0 f1 : ℕ) (first : WroteAll a (changed h0 h1 f0 f1)) where
  -- an error in the second
  pub cut_second : (h2 : Option (List ℕ)) (f2 : ℕ) (e : ReplayError) → Writes b false (changed h1 h2 f1 f2) (Err e) → Writes (a ++ (b ++ (c ++ d))) long (changed h0 h2 f0 f2) (Err e)
  cut_second h2 f2 e w = then a (b ++ (c ++ d)) long h0 h1 h2 f0 f1 f2 (Err e) first (cut_before b (c ++ d) long (changed h1 h2 f1 f2) e w)

  -- an error in the third
  pub cut_third : (h2 h3 : Option (List ℕ)) (f2 f3 : ℕ) (e : ReplayError) → WroteAll b (changed h1 h2 f1 f2) → Writes c false (changed h2 h3 f2 f3) (Err e)
      → Writes (a ++ (b ++ (c ++ d))) long (changed h0 h3 f0 f3) (Err e)
  cut_third h2 h3 f2 f3 e second w =
      then a (b ++ (c ++ d)) long h0 h1 h3 f0 f1 f3 (Err e) first (then b (c ++ d) long h1 h2 h3 f1 f2 f3 (Err e) second (cut_before c d long (changed h2 h3 f2 f3) e w))

  -- and the chain behind all three
  pub all_four : (h2 h3 h4 : Option (List ℕ)) (f2 f3 f4 : ℕ) (r : Result Unit ReplayError) → WroteAll b (changed h1 h2 f1 f2) → WroteAll c (changed h2 h3 f2 f3)
      → Writes d long (changed h3 h4 f3 f4) r → Writes (a ++ (b ++ (c ++ d))) long (changed h0 h4 f0 f4) r
  all_four h2 h3 h4 f2 f3 f4 r second third w =
      then a (b ++ (c ++ d)) long h0 h1 h4 f0 f1 f4 r first (then b (c ++ d) long h1 h2 h4 f1 f2 f4 r second (then c d long h2 h3 h4 f2 f3 f4 r third w))

-- ---- a setup that was read

-- it is shown, to its end or not
pub shows_setup : (run : ChainRun) (sink : Change) (r : Result Unit ReplayError) → ShowsSetup run sink r → Shows run sink r
shows_setup run sink (Ok u) s = s
shows_setup run sink (Err error.Read) s = absurd s.writes
shows_setup run sink (Err error.Write) s = s
shows_setup run sink (Err (error.Limit which.Manifests)) s = absurd s.writes
shows_setup run sink (Err (error.Limit which.Lines)) s = s
shows_setup run sink (Err (error.Limit which.LineBytes)) s = s
shows_setup run sink (Err (error.Limit which.Names)) s = s
shows_setup run sink (Err (error.Limit which.Chain)) s = s
shows_setup run sink (Err (error.Limit which.Events)) s = s
shows_setup run sink (Err (error.Limit which.Devices)) s = s
shows_setup run sink (Err error.NoMemory) s = inr s
shows_setup run sink (Err (error.Trace line fault)) s = s
