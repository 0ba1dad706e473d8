-- The names of the commands rise, so that a binary search finds each.
use Rattle.std.proofs.Common.{◌≡◌, ◌≢◌, ◌-◌, ◌<◌, ◌≤◌, inl, inr, ℕ, zero, suc, true, Option, Some, None, List, [], ◌∷◌, map, length, refl, sym, ap, ◌∙◌, arith, IfSome, IfNone, Ordering, Less, Equal, Greater, get_or, slice_get}
use Rattle.std.specs.Cmp.Lexicographic.{slice_cmp}
use Rattle.std.specs.Ordering.{is_eq, is_lt, nat_cmp, ordering_index}
use Rattle.std.specs.List.{HoldsAt}
use Rattle.std.specs.List.Sorted.{IsNonDecreasingBy, IsPartitionPoint}
use Rattle.std.specs.Str.{bytes_eq}
use Rattle.std.proofs.lemmas.Bool.{and_parts, cases_lt}
use Rattle.std.proofs.lemmas.Cmp.{alike_right, nat_list_cmp_total, tied_itself}
use Rattle.std.proofs.lemmas.Map.Text.{is_eq-slice_cmp}
use Rattle.std.proofs.lemmas.Option.{get_or_from_slice_get}
use Rattle.std.proofs.lemmas.Slice.Eq.{bytes_eq-Decides}
use Rattle.command_tables.specs.declared.types.CommandId.{CommandId}
use Rattle.command_tables.specs.declared.types.CommandId.TheVariants as cmd
use Rattle.command_tables.specs.declared.lookup.TheConstants.{COMMANDS}
use Rattle.command_tables.specs.Facts.{comes_before, rise}
use Rattle.command_tables.specs.Numbers.{number_of}
use Rattle.command_tables.specs.Table.{row_of}

-- how a command's name compares with a name
abbrev pub against : List ℕ → CommandId → Ordering
against name c = slice_cmp nat_cmp (row_of c).name name

-- what the comparison of texts says
less : (o : Ordering) → is_lt o ≡ true → o ≡ Less
less Less h = refl
less Equal h = cc
less Greater h = cc

-- texts that compare as equal are one
same_text : (x y : List ℕ) → slice_cmp nat_cmp x y ≡ Equal → x ≡ y
same_text x y h =
    let t : bytes_eq x y ≡ true = sym (is_eq-slice_cmp x y) ∙ ap is_eq h in
    (bytes_eq-Decides x y).0 t

-- no answer of a comparison is above `Greater`
index_small : (o : Ordering) → ordering_index o ≤ 2
index_small Less = omega arith
index_small Equal = omega arith
index_small Greater = omega arith

-- a text that comes before another stands no later against any text
index_rises : (x y z : List ℕ) → slice_cmp nat_cmp x y ≡ Less → ordering_index (slice_cmp nat_cmp x z) ≤ ordering_index (slice_cmp nat_cmp y z)
index_rises x y z h = go (slice_cmp nat_cmp y z) refl
  where
    go : (o : Ordering) → slice_cmp nat_cmp y z ≡ o → ordering_index (slice_cmp nat_cmp x z) ≤ ordering_index o
    go Less e = let t : slice_cmp nat_cmp x z ≡ Less = nat_list_cmp_total.trans x y z h e in rw t (omega arith)
    go Equal e = let t : slice_cmp nat_cmp x z ≡ Less = sym (alike_right nat_list_cmp_total y z x e) ∙ h in rw t (omega arith)
    go Greater e = index_small (slice_cmp nat_cmp x z)

-- where names rise, the first stands no later than any
first_least : (name : List ℕ) (c : CommandId) (cs : List CommandId) → rise (map (λ x. (row_of x).name) (c ∷ cs)) ≡ true → (j : ℕ) (d : CommandId) → j < length (c ∷ cs)
    → ordering_index (against name c) ≤ ordering_index (against name (get_or (c ∷ cs) j d))
first_least name c cs h zero d l = omega arith
first_least name c [] h (suc j) d l = absurd (omega arith)
first_least name c (e ∷ es) h (suc j) d l =
    let parts = and_parts (comes_before (row_of c).name (row_of e).name) (rise (map (λ x. (row_of x).name) (e ∷ es))) h in
    let before = index_rises (row_of c).name (row_of e).name name (less (slice_cmp nat_cmp (row_of c).name (row_of e).name) parts.0) in
    let m : j < length (e ∷ es) = omega arith in
    omega (arith, before, first_least name e es parts.1 j d m)

-- where names rise, those behind the first do
rest_rises : (c : CommandId) (cs : List CommandId) → rise (map (λ x. (row_of x).name) (c ∷ cs)) ≡ true → rise (map (λ x. (row_of x).name) cs) ≡ true
rest_rises c [] h = refl
rest_rises c (e ∷ es) h = (and_parts (comes_before (row_of c).name (row_of e).name) (rise (map (λ x. (row_of x).name) (e ∷ es))) h).1

-- where names rise, the comparison with a name does not fall
nondecreasing : (name : List ℕ) (cs : List CommandId) → rise (map (λ x. (row_of x).name) cs) ≡ true → (i j : ℕ) (d : CommandId) → i ≤ j → j < length cs
    → ordering_index (against name (get_or cs i d)) ≤ ordering_index (against name (get_or cs j d))
nondecreasing name [] h i j d le l = absurd (omega arith)
nondecreasing name (c ∷ cs) h zero j d le l = first_least name c cs h j d l
nondecreasing name (c ∷ cs) h (suc i) zero d le l = absurd (omega arith)
nondecreasing name (c ∷ cs) h (suc i) (suc j) d le l =
    let a : i ≤ j = omega arith in
    let b : j < length cs = omega arith in
    nondecreasing name cs (rest_rises c cs h) i j d a b

-- the names of the table rise
rising : rise (map (λ x. (row_of x).name) COMMANDS) ≡ true
unfolding row_of
rising = refl

-- so the comparison with a name does not fall along the table
pub commands_rise : (name : List ℕ) → IsNonDecreasingBy (λ c. ordering_index (against name c)) COMMANDS
commands_rise name i j d le l = nondecreasing name COMMANDS rising i j d le l

-- what stands where the search says has the name
pub found_at : (name : List ℕ) (cs : List CommandId) (k : ℕ) → HoldsAt (λ c. against name c ≡ Equal) cs k → IfSome (slice_get cs k) (λ c. (row_of c).name ≡ name)
found_at name cs k h = go (slice_get cs k) refl
  where
    go : (o : Option CommandId) → slice_get cs k ≡ o → IfSome o (λ c. (row_of c).name ≡ name)
    go None e = tt
    go (Some c) e =
        let at : get_or cs k c ≡ c = get_or_from_slice_get cs k c c e in
        let eq : against name c ≡ Equal = rw at at (h c) in
        same_text (row_of c).name name eq

-- and it is there
pub there_at : (Q : Type 0) (cs : List CommandId) (k : ℕ) → k < length cs → IfNone (slice_get cs k) Q
there_at Q [] k l = absurd (omega arith)
there_at Q (c ∷ cs) zero l = tt
there_at Q (c ∷ cs) (suc k) l = let m : k < length cs = omega arith in there_at Q cs k m

-- each command stands at its number
commands_at : (c : CommandId) → slice_get COMMANDS (number_of c - 1) ≡ Some c
commands_at cmd.AcquireNextImageKHR = refl
commands_at _ = refl

-- what is there stands within the list
within : (cs : List CommandId) (k : ℕ) (c : CommandId) → slice_get cs k ≡ Some c → k < length cs
within [] k c h = cc
within (x ∷ cs) zero c h = omega arith
within (x ∷ cs) (suc k) c h = let m = within cs k c h in omega arith

-- where the search finds no place, no command has the name
pub none_named : (name : List ℕ) (i : ℕ) → IsPartitionPoint (λ c. against name c ≡ Less) (λ c. against name c ≡ Greater) COMMANDS i → (d : CommandId) → (row_of d).name ≢ name
none_named name i split d same =
    let at : get_or COMMANDS (number_of d - 1) d ≡ d = get_or_from_slice_get COMMANDS (number_of d - 1) d d (commands_at d) in
    let eq : against name d ≡ Equal = ap (λ n. slice_cmp nat_cmp n name) same ∙ tied_itself nat_list_cmp_total name in
    let l : number_of d - 1 < length COMMANDS = within COMMANDS (number_of d - 1) d (commands_at d) in
    elim (cases_lt (number_of d - 1) i) [
      | inl lt ↦ let h : against name d ≡ Less = rw at at (split.0 (number_of d - 1) d (omega arith) lt) in cc
      | inr ge ↦ let h : against name d ≡ Greater = rw at at (split.1 (number_of d - 1) d ge l) in cc
    ]
