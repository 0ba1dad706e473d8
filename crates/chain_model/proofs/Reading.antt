-- A call in handles is read as the call with its objects renamed to their tokens.
use Rattle.std.proofs.Common.{◌≡◌, ◌==◌, ℕ, suc, ◌+◌, Bool, true, false, cond, Option, List, [], ◌∷◌, map, refl, sym, ◌∙◌, ap, arith}
use Rattle.std.proofs.lemmas.Bool.{ne_eqb}
use Rattle.std.specs.Prelude.{unwrap_or}
use Rattle.std.specs.List.{filter_map, AllByRecursion}
use Rattle.command_tables.specs.declared.types.ObjectType.{ObjectType}
use Rattle.object_model.specs.declared.Object.{Object}
use Rattle.object_model.specs.declared.Argument.{Argument}
use Rattle.object_model.specs.declared.Argument.TheVariants.{Null, Unborn, The}
use Rattle.command_tables.specs.Calls.{CallContent}
use Rattle.command_tables.specs.Table.{ParamSpec, row_of}
use Rattle.object_model.specs.Objects.{object_of}
use Rattle.object_model.specs.History.{Birth, born_in}
use Rattle.object_model.specs.Renaming.{renamed_argument, renamed_args, AreKnown, KnowsArgs}
use Rattle.replay_model.specs.Past.{Retrieval}
use Rattle.layer_model.specs.Ids.{is_wrapped, is_bare, IdMap}
use Rattle.handle_map.specs.Pairs.{MapEntry, values_of}
use Rattle.chain_model.specs.Tokens.{issued_with, births_before, number_in, token_in}
use Rattle.chain_model.specs.Mirrored.{Mirrors, entries_from}
use Rattle.layer_model.specs.Reading.{read_handle, read_handles, read_params}
use Rattle.layer_model.specs.Parts.{below_params, unique_enter}
use Rattle.layer_model.specs.Walks.{PartState, has_unique}
use Rattle.chain_model.specs.Chained.{handle_by, is_unborn, form_by, handle_above}
use Rattle.chain_model.proofs.Passing.{HasType, AreTyped}
use Rattle.chain_model.proofs.Positions.{entry_found, entry_absent}

pub not_zero : (n : ℕ) → (suc n == 0) ≡ false
not_zero n = ne_eqb (suc n) 0 (λ e. omega (arith, e))

-- one argument
read_one : (bs : List Birth) (t : ObjectType) (a : Argument) → HasType t a → read_handle t (handle_by (number_in bs) a) (is_unborn a) ≡ renamed_argument (token_in bs) a
read_one bs t Null typed = refl
read_one bs t Unborn typed = refl
read_one bs t (The o) typed = rw (not_zero (births_before (issued_with o.ty) bs o)) (ap (λ u. The (record { ty = u; number = number_in bs o })) (sym typed))

-- the arguments of one parameter
read_list : (bs : List Birth) (t : ObjectType) (args : List Argument) → AllByRecursion (HasType t) args
    → read_handles t (map (handle_by (number_in bs)) args) (map is_unborn args) ≡ map (renamed_argument (token_in bs)) args
read_list bs t [] typed = refl
read_list bs t (a ∷ args) typed = ap (λ x. x ∷ read_handles t (map (handle_by (number_in bs)) args) (map is_unborn args)) (read_one bs t a typed.0) ∙ ap (λ xs. renamed_argument (token_in bs) a ∷ xs) (read_list bs t args typed.1)

-- all arguments
pub read_form : (bs : List Birth) (ps : List ParamSpec) (args : List (List Argument)) → AreTyped ps args
    → read_params ps (map (map (handle_by (number_in bs))) args) (map (map is_unborn) args) ≡ renamed_args (token_in bs) args
read_form bs [] [] typed = refl
read_form bs [] (a ∷ args) typed = absurd typed
read_form bs (p ∷ ps) [] typed = absurd typed
read_form bs (p ∷ ps) (a ∷ args) typed =
    ap (λ x. x ∷ read_params ps (map (map (handle_by (number_in bs))) args) (map (map is_unborn) args)) (read_list bs p.ty a typed.0) ∙ ap (λ xs. map (renamed_argument (token_in bs)) a ∷ xs) (read_form bs ps args typed.1)

-- ---- a unique part

-- the number of a wrapped object
wrapped_number : (bs : List Birth) (o : Object) → is_wrapped o.ty ≡ true → number_in bs o ≡ 1 + births_before is_wrapped bs o
wrapped_number bs o is = let e : number_in bs o ≡ suc (births_before is_wrapped bs o) = ap (λ u. suc (births_before (cond u is_wrapped is_bare) bs o)) is in omega (arith, e)

-- the handle below a wrapped argument
below_one : (g : Object → ℕ) (bs : List Birth) (rs : List Retrieval) (m : IdMap ℕ) (t : ObjectType) (a : Argument) → is_wrapped t ≡ true → Mirrors ℕ is_wrapped g bs rs m → HasType t a → AreKnown (born_in bs) (filter_map object_of (a ∷ []))
    → unwrap_or (values_of m.entries t (handle_by (number_in bs) a)) 0 ≡ handle_by g a
below_one g bs rs m t Null is s typed ks = ap (λ (es : List (MapEntry ℕ)). unwrap_or (values_of es t 0) 0) s.entries ∙ ap (λ (x : Option ℕ). unwrap_or x 0) (entry_absent is_wrapped g t 0 1 (omega arith) bs)
below_one g bs rs m t Unborn is s typed ks = ap (λ (es : List (MapEntry ℕ)). unwrap_or (values_of es t 0) 0) s.entries ∙ ap (λ (x : Option ℕ). unwrap_or x 0) (entry_absent is_wrapped g t 0 1 (omega arith) bs)
below_one g bs rs m t (The o) is s typed ks =
    let w : is_wrapped o.ty ≡ true = ap is_wrapped typed ∙ is in
    ap (λ (es : List (MapEntry ℕ)). unwrap_or (values_of es t (number_in bs o)) 0) s.entries
    ∙ (ap (λ u. unwrap_or (values_of (entries_from is_wrapped g 1 bs) u (number_in bs o)) 0) (sym typed)
    ∙ ap (λ (x : Option ℕ). unwrap_or x 0) (entry_found is_wrapped g o w bs ks.0 1 (number_in bs o) (wrapped_number bs o w)))

head_known : (known : Object → Bool) (a : Argument) (args : List Argument) → AreKnown known (filter_map object_of (a ∷ args)) → AreKnown known (filter_map object_of (a ∷ [])) × AreKnown known (filter_map object_of args)
head_known known Null args ks = (tt, ks)
head_known known Unborn args ks = (tt, ks)
head_known known (The o) args ks = ((ks.0, tt), ks.1)

below_list : (g : Object → ℕ) (bs : List Birth) (rs : List Retrieval) (m : IdMap ℕ) (t : ObjectType) → is_wrapped t ≡ true → Mirrors ℕ is_wrapped g bs rs m → (args : List Argument) → AllByRecursion (HasType t) args → AreKnown (born_in bs) (filter_map object_of args)
    → map (λ h. unwrap_or (values_of m.entries t h) 0) (map (handle_by (number_in bs)) args) ≡ map (handle_by g) args
below_list g bs rs m t is s [] typed ks = refl
below_list g bs rs m t is s (a ∷ args) typed ks =
    let k = head_known (born_in bs) a args ks in
    ap (λ x. x ∷ map (λ h. unwrap_or (values_of m.entries t h) 0) (map (handle_by (number_in bs)) args)) (below_one g bs rs m t a is s typed.0 k.0)
    ∙ ap (λ xs. handle_by g a ∷ xs) (below_list g bs rs m t is s args typed.1 k.1)

-- handles of bare arguments are numbers everywhere
bare_list : (states : List PartState) (f : Object → ℕ) (bs : List Birth) (t : ObjectType) → is_wrapped t ≡ false → (args : List Argument) → AllByRecursion (HasType t) args
    → map (handle_by (number_in bs)) args ≡ map (handle_by (handle_above states bs f)) args
bare_list states f bs t is [] typed = refl
bare_list states f bs t is (a ∷ args) typed = ap (λ x. x ∷ map (handle_by (number_in bs)) args) (one a typed.0) ∙ ap (λ xs. handle_by (handle_above states bs f) a ∷ xs) (bare_list states f bs t is args typed.1)
  where
    bare : (o : Object) → is_wrapped o.ty ≡ false → (u : Bool) → number_in bs o ≡ cond u (number_in bs o) (cond (is_wrapped o.ty) (f o) (number_in bs o))
    bare o e true = refl
    bare o e false = rw e refl

    one : (x : Argument) → HasType t x → handle_by (number_in bs) x ≡ handle_by (handle_above states bs f) x
    one Null h = refl
    one Unborn h = refl
    one (The o) h = bare o (ap is_wrapped h ∙ is) (has_unique states)

-- the handles below a unique part
below_form : (states : List PartState) (f : Object → ℕ) (bs : List Birth) (rs : List Retrieval) (m : IdMap ℕ) → Mirrors ℕ is_wrapped (handle_above states bs f) bs rs m → (ps : List ParamSpec) (args : List (List Argument)) → AreTyped ps args → KnowsArgs (born_in bs) args
    → below_params m ps (map (map (handle_by (number_in bs))) args) ≡ map (map (handle_by (handle_above states bs f))) args
below_form states f bs rs m s [] [] typed ks = refl
below_form states f bs rs m s [] (a ∷ args) typed ks = absurd typed
below_form states f bs rs m s (p ∷ ps) [] typed ks = absurd typed
below_form states f bs rs m s (p ∷ ps) (a ∷ args) typed ks =
    ap (λ x. x ∷ below_params m ps (map (map (handle_by (number_in bs))) args)) (one (is_wrapped p.ty) refl) ∙ ap (λ xs. map (handle_by (handle_above states bs f)) a ∷ xs) (below_form states f bs rs m s ps args typed.1 ks.1)
  where
    one : (u : Bool) → is_wrapped p.ty ≡ u → cond u (map (λ h. unwrap_or (values_of m.entries p.ty h) 0) (map (handle_by (number_in bs)) a)) (map (handle_by (number_in bs)) a) ≡ map (handle_by (handle_above states bs f)) a
    one true e = below_list (handle_above states bs f) bs rs m p.ty e s a typed.0 ks.0
    one false e = bare_list states f bs p.ty e a typed.0

-- the call that goes on
pub unique_form : (states : List PartState) (f : Object → ℕ) (bs : List Birth) (rs : List Retrieval) (m : IdMap ℕ) (c : CallContent) (args : List (List Argument)) → Mirrors ℕ is_wrapped (handle_above states bs f) bs rs m → AreTyped (row_of c.cmd).params args → KnowsArgs (born_in bs) args
    → unique_enter m (form_by (number_in bs) c args) ≡ form_by (handle_above states bs f) c args
unique_form states f bs rs m c args s typed ks = ap (λ xs. record c { args = xs; unborn = map (map is_unborn) args }) (below_form states f bs rs m s (row_of c.cmd).params args typed ks)
