-- A begin that no rule of a stream file's line refuses gives names where their owners are, and in a stream is on one device.
use Rattle.std.proofs.Common.{◌≡◌, ◌∙◌, ◌==◌, ◌<◌, ◌≤◌, ℕ, Bool, true, false, not, cond, ◌&&◌, ◌||◌, Option, Some, None, List, [], ◌∷◌, refl, sym, ap, arith, lit<}
use Rattle.std.specs.Prelude.{is_some, option_and_then}
use Rattle.std.specs.List.{AllByRecursion, list_any}
use Rattle.std.specs.Option.{is_none, option_map_or}
use Rattle.std.proofs.lemmas.Bool.{eq-eqb, eqb-true, not-false, not-true}
use Rattle.command_tables.specs.declared.types.CommandId.TheVariants as cmd
use Rattle.command_tables.specs.declared.types.Effect.{Effect}
use Rattle.command_tables.specs.declared.types.Effect.TheVariants as eff
use Rattle.command_tables.specs.declared.types.ObjectType.{ObjectType}
use Rattle.command_tables.specs.declared.types.ObjectType.TheVariants as ty
use Rattle.command_tables.specs.declared.types.OwnerOf.{OwnerOf}
use Rattle.command_tables.specs.declared.types.OwnerOf.TheVariants as of
use Rattle.command_tables.specs.Effects.{type_made}
use Rattle.command_tables.specs.Table.{row_of}
use Rattle.command_tables.specs.Tests.{same_command, same_type}
use Rattle.trace_format.specs.declared.event.Name.{Name}
use Rattle.trace_format.specs.declared.limits.TheConstants.{MAX_THREADS}
use Rattle.trace_format.specs.Accepting.{is_known, same_name, type_given}
use Rattle.trace_format.specs.Content.{BeginEvent, TraceEvent, Begin}
use Rattle.trace_format.specs.Grammar.{IsBegin, IsName}
use Rattle.object_model.specs.Rules.{ends_parent}
use Rattle.chain_model.specs.Gaps.{is_given, may_all_come, may_come}
use Rattle.stream_model.specs.declared.refusal.Refusal.TheVariants as refusal
use Rattle.stream_model.specs.Devices.{has_result, makes_devices, name_at, owner_among, owner_written, written_device}
use Rattle.stream_model.specs.Order.{any_name, call_refusal, device_named, first_refusal, is_kept_out, is_of_another_device, is_of_another_stream, is_on_no_device, same_device}
use Rattle.stream_model.proofs.Comings.{coming, given_more, given_now, typed_given}
use Rattle.stream_model.proofs.OnDevices.{no_instance, on_a_device, written_after}
use Rattle.device_facts.proofs.Beside.{NamesAre}
use Rattle.device_facts.proofs.Looks.{all_to, name_is}
use Rattle.device_facts.proofs.Opening.{Gives, NameBy, NameGiven, OfName, OnDevice}
use Rattle.device_facts.proofs.Written.{Asked, both_true, effect_fits, ends_none, first_is, fits, gives_owner, global_nowhere, is_global, name_in, names_both, names_not, names_used_all, owner_fits, physical_global, plain_there, typed_first}

-- an object's number, which tells names apart, has room for so many threads
threads_fit : MAX_THREADS < 2048
threads_fit = lit< tt

-- a begin that may come behind events, and what tells the devices of names as they are written behind it
pub record Lined (device_of : Name → Option Name) (before : List TraceEvent) (b : BeginEvent) : Type 0 where
  pub each : may_all_come before ≡ true
  pub comes : may_come before (Begin b) ≡ true
  pub grammar : IsBegin b
  pub agrees : (n : Name) → is_given (Begin b ∷ before) n ≡ true → device_of n ≡ written_device (Begin b ∷ before) n

-- each of these names is one of them
all_members : (P : Name → Type 0) (ns : List Name) → ((n : Name) → list_any (λ r. same_name r n) ns ≡ true → P n) → AllByRecursion P ns
all_members P [] f = tt
all_members P (n ∷ ns) f = (f n (ap (λ u. u || list_any (λ r. same_name r n) ns) (itself n)), all_members P ns (λ m is. f m (more (same_name n m) (list_any (λ r. same_name r m) ns) is)))
  where
    itself : (m : Name) → same_name m m ≡ true
    itself m = ap (λ u. u && (m.number == m.number)) (eq-eqb m.thread m.thread refl) ∙ eq-eqb m.number m.number refl

    more : (u v : Bool) → v ≡ true → (u || v) ≡ true
    more true v e = refl
    more false v e = e

module _ (device_of : Name → Option Name) (before : List TraceEvent) (b : BeginEvent) (l : Lined device_of before b) where
  agrees_before : (n : Name) → is_given before n ≡ true → device_of n ≡ written_device before n
  agrees_before n given = l.agrees n (given_more before (Begin b) n given) ∙ written_after before (Begin b) n l.comes given

  -- the names of the arguments were given
  names_known : NamesAre (λ n. is_given before n ≡ true) b.args
  names_known =
      names_both (Asked (is_known before)) (Asked (is_known before)) (λ n. is_given before n ≡ true) (λ n p q. known n (type_given n before) refl p.1) b.args asked asked
    where
      asked : NamesAre (Asked (is_known before)) b.args
      asked = names_used_all (is_known before) (row_of b.cmd).params b.args l.grammar.args (coming before b l.comes).known

      known : (n : Name) (t : Option ObjectType) → type_given n before ≡ t → is_some (type_given n before) ≡ true → is_given before n ≡ true
      known n None e is = let bad : false ≡ true = ap is_some (sym e) ∙ is in cc bad
      known n (Some t) e is = typed_given before n t e

  at_before : (p : ℕ) (m : Name) → name_at b.args p ≡ Some m → device_of m ≡ written_device before m
  at_before p m is = agrees_before m (name_in (λ n. is_given before n ≡ true) b.args p m names_known is)

  -- ---- what it gives

  by_owner : (t : ObjectType) (owner : OwnerOf) (n : Name) → owner_fits t owner (row_of b.cmd).params ≡ true
      → device_of n ≡ cond (same_type t ty.Device) (Some n) (option_and_then (written_device before) (owner_among b.args owner)) → NameBy device_of b.args owner (device_of n)
  by_owner t of.Nobody n fit is = tt
  by_owner t (of.Param p) n fit is = go (name_at b.args p) refl
    where
      no_device : same_type t ty.Device ≡ false
      no_device = not-true (same_type t ty.Device) (both_true (not (same_type t ty.Device)) (not (is_global t) || (p == 0 && first_is ty.Instance (row_of b.cmd).params)) fit).0

      go : (o : Option Name) → name_at b.args p ≡ o → OfName device_of o (device_of n)
      go None e = tt
      go (Some m) e =
          at_before p m e ∙ sym (is ∙ (ap (λ u. cond u (Some n) (option_and_then (written_device before) (name_at b.args p))) no_device ∙ ap (option_and_then (written_device before)) e))
  by_owner t (of.OwnerOfParam p) n fit is = go (name_at b.args p) refl
    where
      placed : (p == 0 && first_is ty.PhysicalDevice (row_of b.cmd).params) ≡ true
      placed = (both_true (not (is_global t)) (p == 0 && first_is ty.PhysicalDevice (row_of b.cmd).params) fit).1

      go : (o : Option Name) → name_at b.args p ≡ o → OfName device_of o None
      go None e = tt
      go (Some m) e =
          let parts = both_true (p == 0) (first_is ty.PhysicalDevice (row_of b.cmd).params) placed in
          let first : name_at b.args 0 ≡ Some m = ap (name_at b.args) (sym (eqb-true p 0 parts.0)) ∙ e in
          at_before p m e ∙ global_nowhere before l.each m ty.PhysicalDevice physical_global (typed_first before ty.PhysicalDevice (row_of b.cmd).params b.args m parts.1 (coming before b l.comes).typed first)

  given_by : (e : Effect) (n : Name) → (effect_fits e (row_of b.cmd).params && not (gives_owner e)) ≡ true
      → device_of n ≡ cond (option_map_or (λ k. same_type k ty.Device) (type_made e) false) (Some n) (option_and_then (written_device before) (owner_written b.args e)) → NameGiven device_of b.args e (device_of n)
  given_by (eff.Create t owner many) n fit is = by_owner t owner n (both_true (owner_fits t owner (row_of b.cmd).params) true fit).0 is
  given_by (eff.Retrieve t of.Nobody many) n fit is = tt
  given_by (eff.Retrieve t (of.Param p) many) n fit is = by_owner t (of.Param p) n (both_true (owner_fits t (of.Param p) (row_of b.cmd).params) true fit).0 is
  given_by (eff.Retrieve t (of.OwnerOfParam p) many) n fit is = cc (both_true (owner_fits t (of.OwnerOfParam p) (row_of b.cmd).params) false fit).1
  given_by eff.None n fit is = tt
  given_by (eff.Destroy p) n fit is = tt
  given_by (eff.Free p) n fit is = tt
  given_by (eff.Reset p) n fit is = tt

  pub begin_gives : Gives device_of b
  begin_gives = record {
    threads = all_to IsName (λ (n : Name). n.thread < 2048) (λ n is. let most : n.thread ≤ MAX_THREADS = is.0.1 in omega (arith, most, threads_fit)) b.results l.grammar.names;
    given = all_members (λ n. NameGiven device_of b.args (row_of b.cmd).effect (device_of n)) b.results (λ n is. given_by (row_of b.cmd).effect n (fits b.cmd) (written n is));
  }
    where
      written : (n : Name) → has_result b n ≡ true
          → device_of n ≡ cond (option_map_or (λ k. same_type k ty.Device) (type_made (row_of b.cmd).effect) false) (Some n) (option_and_then (written_device before) (owner_written b.args (row_of b.cmd).effect))
      written n is =
          l.agrees n (given_now before (Begin b) n is)
          ∙ ap (λ u. cond (u && makes_devices b.cmd) (Some n) (option_and_then (written_device before) (cond u (owner_written b.args (row_of b.cmd).effect) (Some n)))) is

  -- ---- in a stream

  named_there : (n : Name) (d : Name) → is_given before n ≡ true → same_device (written_device before n) (Some d) ≡ true → device_of n ≡ Some d
  named_there n d given is = agrees_before n given ∙ go (written_device before n) is
    where
      go : (o : Option Name) → same_device o (Some d) ≡ true → o ≡ Some d
      go None e = cc e
      go (Some m) e = ap Some (name_is m d e)

  on_device : (d : Name) → device_named (written_device before) b.cmd b.args ≡ Some d → is_on_no_device (row_of b.cmd).params ≡ false → is_kept_out b.cmd ≡ false
      → any_name (is_of_another_device (written_device before) (device_named (written_device before) b.cmd b.args)) b.args ≡ false → OnDevice device_of d b
  on_device d is on kept devices = record {
    device = ap (λ u. cond u None (option_and_then device_of (name_at b.args 0))) on ∙ first (name_at b.args 0) refl
        (sym (ap (λ u. cond u None (option_and_then (written_device before) (name_at b.args 0))) on) ∙ is);
    names = there;
    ends = ends;
    plain = plain_there (row_of b.cmd).effect (row_of b.cmd).params (both_true (effect_fits (row_of b.cmd).effect (row_of b.cmd).params) (not (gives_owner (row_of b.cmd).effect)) (fits b.cmd)).0 on;
    instance = no_instance b on;
  }
    where
      there : NamesAre (λ n. device_of n ≡ Some d) b.args
      there =
          names_both (λ n. is_given before n ≡ true) (λ n. is_of_another_device (written_device before) (device_named (written_device before) b.cmd b.args) n ≡ false) (λ n. device_of n ≡ Some d)
          (λ n given not_other. named_there n d given (ap (same_device (written_device before n)) (sym is) ∙ not-false (same_device (written_device before n) (device_named (written_device before) b.cmd b.args)) not_other)) b.args names_known
          (names_not (is_of_another_device (written_device before) (device_named (written_device before) b.cmd b.args)) b.args devices)

      first : (o : Option Name) → name_at b.args 0 ≡ o → option_and_then (written_device before) o ≡ Some d → option_and_then device_of o ≡ Some d
      first None e k = cc k
      first (Some m) e k = name_in (λ n. device_of n ≡ Some d) b.args 0 m there e

      ends : ends_parent b.cmd ≡ false
      ends = neither_ends (same_command b.cmd cmd.DestroyDevice) (same_command b.cmd cmd.DestroyInstance) (is_on_no_device (row_of b.cmd).params) (same_command b.cmd cmd.CreateSwapchainKHR) kept on (ends_none b.cmd)
        where
          neither_ends : (u v o w : Bool) → (u || w) ≡ false → o ≡ false → (not v || o) ≡ true → (u || v) ≡ false
          neither_ends true v o w e f g = cc e
          neither_ends false true o w e f g = sym g ∙ f
          neither_ends false false o w e f g = refl

no_refusal : (a k s d : Bool) → first_refusal ((a, refusal.NoDevice) ∷ (k || s, refusal.NotInStream) ∷ (d, refusal.CrossDevice) ∷ []) ≡ None → (a ≡ false) × (k ≡ false) × (d ≡ false)
no_refusal false false false false is = (refl, refl, refl)
no_refusal true k s d is = cc is
no_refusal false true s d is = cc is
no_refusal false false true d is = cc is
no_refusal false false false true is = cc is

pub begin_on : (device_of : Name → Option Name) (before : List TraceEvent) (stream_of : Name → Option ℕ) (t : ℕ) (b : BeginEvent) → Lined device_of before b → call_refusal (written_device before) stream_of b.cmd b.args t ≡ None
    → (d : Name) × OnDevice device_of d b
begin_on device_of before stream_of t b l called = go (device_named (written_device before) b.cmd b.args) refl
  where
    facts : (is_none (device_named (written_device before) b.cmd b.args) ≡ false) × (is_kept_out b.cmd ≡ false) × (any_name (is_of_another_device (written_device before) (device_named (written_device before) b.cmd b.args)) b.args ≡ false)
    facts =
        no_refusal (is_none (device_named (written_device before) b.cmd b.args)) (is_kept_out b.cmd) (any_name (is_of_another_stream stream_of t) b.args)
        (any_name (is_of_another_device (written_device before) (device_named (written_device before) b.cmd b.args)) b.args) called

    go : (o : Option Name) → device_named (written_device before) b.cmd b.args ≡ o → (d : Name) × OnDevice device_of d b
    go None e = let bad : true ≡ false = ap is_none (sym e) ∙ facts.0 in cc bad
    go (Some d) e = (d, on_device device_of before b l d e (on_a_device (written_device before) b.cmd b.args facts.0) facts.1 facts.2)
