-- Two pasts still say the same of a device behind one event more: behind one there, that stands in both, and behind one elsewhere, that stands in the first alone.
use Rattle.std.proofs.Common.{◌≡◌, ◌∙◌, ℕ, Bool, true, false, not, cond, ◌&&◌, ◌||◌, Option, Some, None, List, [], ◌∷◌, ◌++◌, map, refl, sym, ap, append-nil}
use Rattle.std.specs.Prelude.{⊤, filter, find}
use Rattle.std.specs.List.{AllByRecursion}
use Rattle.std.specs.Option.{option_map}
use Rattle.std.proofs.lemmas.List.Elements.{filter-append}
use Rattle.command_tables.specs.declared.types.CommandId.TheVariants as cmd
use Rattle.command_tables.specs.declared.types.Effect.{Effect}
use Rattle.command_tables.specs.declared.types.Effect.TheVariants as eff
use Rattle.command_tables.specs.Effects.{succeeds}
use Rattle.command_tables.specs.Table.{row_of}
use Rattle.command_tables.specs.Tests.{same_command}
use Rattle.trace_format.specs.declared.event.Name.{Name}
use Rattle.trace_format.specs.Accepting.{same_name}
use Rattle.trace_format.specs.Content.{BeginEvent}
use Rattle.object_model.specs.declared.Object.{Object}
use Rattle.object_model.specs.declared.Argument.{Argument}
use Rattle.object_model.specs.declared.Routed.{Routed}
use Rattle.object_model.specs.declared.PartKind.{PartKind}
use Rattle.object_model.specs.Findings.{Report}
use Rattle.object_model.specs.Objects.{are_same, is_in, objects_in, same}
use Rattle.object_model.specs.History.{Birth, alive, births, births_given, births_of, born_in, created_in, ends_by, ends_with, owners_given, owners_in}
use Rattle.object_model.specs.Routes.{is_routed}
use Rattle.replay_model.specs.declared.Born.{Born}
use Rattle.replay_model.specs.declared.Named.{Named}
use Rattle.replay_model.specs.ChainPlaces.{parts_in_force}
use Rattle.replay_model.specs.Setup.{Setup, parts_of}
use Rattle.replay_model.specs.Past.{Began, Opened, Past, Retrieval, Returned, history, is_new, is_skipped, named, named_of, object_in, objects_of, owner_by, retrieval, retrievals, retrieved_by, retrieves, routed, routed_by, routed_of}
use Rattle.replay_model.proofs.Alike.{numbered}
use Rattle.layer_model.proofs.Same.{same_is}
use Rattle.device_facts.proofs.Beside.{ArgsAt, Beside, born_alike, births_at, objects_at, retrieved_from, routes_at}
use Rattle.device_facts.proofs.Homes.{Held, Homes, OfOwner, Owned, Within, owners_within}
use Rattle.device_facts.proofs.Looks.{all_mapped, all_of, all_part, all_to, any_none, find_joined, name_is, none_found, none_left, or_nothing, or_other}
use Rattle.device_facts.proofs.Making.{On, births_alike, by_at, ends_alike, retrieved_alike, routed_alike}

-- ---- names one behind the other

or_mapped : {X : Type 0} {Y : Type 0} (f : X → Y) (a b : Option X) → option_map f (or_other a b) ≡ or_other (option_map f a) (option_map f b)
or_mapped f None b = refl
or_mapped f (Some x) b = refl

object_joined : (xs ys : List Named) (n : Name) → object_in (xs ++ ys) n ≡ or_other (object_in xs n) (object_in ys n)
object_joined xs ys n =
    let p : Named → Bool = λ (m : Named). same_name m.name n in
    ap (option_map (λ (m : Named). m.object)) (find_joined p xs ys) ∙ or_mapped (λ (m : Named). m.object) (find p xs) (find p ys)

-- ---- what is left of what is joined

pub part_joined : {X : Type 0} (p : X → Bool) (xs ys us vs : List X) → filter p xs ≡ filter p us → ys ≡ vs → filter p (xs ++ ys) ≡ filter p (us ++ vs)
part_joined p xs ys us vs first second = filter-append p xs ys ∙ (ap (λ zs. zs ++ filter p ys) first ∙ (ap (λ zs. filter p us ++ filter p zs) second ∙ sym (filter-append p us vs)))

pub part_alone : {X : Type 0} (p : X → Bool) (xs us vs : List X) → filter p xs ≡ filter p us → filter p vs ≡ [] → filter p xs ≡ filter p (us ++ vs)
part_alone p xs us vs first none = first ∙ sym (filter-append p us vs ∙ (ap (λ zs. filter p us ++ zs) none ∙ append-nil (filter p us)))

module _ (h : Homes) (s : Setup) (device : Name) where
  -- ---- on the device

  pub begun_here : (past alone : Past) (e : BeginEvent) (o : Opened) (n : ℕ) (r q : List Report) → Beside h s device past alone → ArgsAt h device o.args → Beside h s device (Began e o r ∷ past) (Began e (numbered n o) q ∷ alone)
  begun_here past alone e o n r q w args = record {
    names = w.names;
    born = w.born;
    living = λ x at.
        ap (λ u. u && (is_skipped o || not (ends_by (births (history alone)) o.args (row_of o.cmd).effect x))) (w.living x at)
        ∙ ap (λ u. alive (history past) x && (is_skipped o || not u)) (ends_alike h device (births (history alone)) (births (history past)) w.born o.args (row_of o.cmd).effect x args at);
    kept = w.kept;
    routes = w.routes;
    parts = w.parts;
  }

  no_instance : (o : Opened) (ps qs : List PartKind) → same_command o.cmd cmd.CreateInstance ≡ false → cond (same_command o.cmd cmd.CreateInstance && (not (is_skipped o) && succeeds o.cmd o.code)) ps qs ≡ qs
  no_instance o ps qs is = ap (λ u. cond (u && (not (is_skipped o) && succeeds o.cmd o.code)) ps qs) is

  pub returned_here : (past alone : Past) (o : Opened) (n : ℕ) (made : List Born) → Beside h s device past alone → On h device o → AllByRecursion (λ (b : Born). h.object b.object ≡ Some device) made
      → Beside h s device (Returned o made ∷ past) (Returned (numbered n o) made ∷ alone)
  returned_here past alone o n made w on at = record {
    names = λ m k.
        object_joined (named alone) (map named_of made) m ∙ (ap (λ x. or_other x (object_in (map named_of made) m)) (w.names m k) ∙ sym (object_joined (named past) (map named_of made) m));
    born = births_more;
    living = λ x k.
        ap (λ u. u || (not (born_in bs x) && born_in (bs ++ births_given bs o.args (row_of o.cmd).effect (objects_of made)) x)) (w.living x k)
        ∙ (ap (λ u. alive (history past) x || (not u && born_in (bs ++ births_given bs o.args (row_of o.cmd).effect (objects_of made)) x)) (born_alike x bs cs (w.born x k))
        ∙ ap (λ u. alive (history past) x || (not (born_in cs x) && u)) (born_alike x (bs ++ births_given bs o.args (row_of o.cmd).effect (objects_of made)) (cs ++ births_given cs o.args (row_of o.cmd).effect (objects_of made)) (births_more x k)));
    kept = λ x k.
        part_joined (λ (r : Retrieval). are_same r.owner (Some x)) (retrievals alone) (retrieved_by bs o made) (retrievals past) (retrieved_by cs o made) (w.kept x k) (retrieved_alike h device bs cs w.born o made on.args at);
    routes = λ x k. part_joined (λ (r : Routed). same r.object x) (routed alone) (routed_by bs o made) (routed past) (routed_by cs o made) (w.routes x k) (routed_alike h device bs cs w.born o made at);
    parts = no_instance o (parts_of (s.outcome o.payload)) (parts_in_force s alone) on.instance ∙ (w.parts ∙ sym (no_instance o (parts_of (s.outcome o.payload)) (parts_in_force s past) on.instance));
  }
    where
      bs : List Birth
      bs = births (history alone)

      cs : List Birth
      cs = births (history past)

      births_more : (x : Object) → h.object x ≡ Some device
          → births_at x (bs ++ births_given bs o.args (row_of o.cmd).effect (objects_of made)) ≡ births_at x (cs ++ births_given cs o.args (row_of o.cmd).effect (objects_of made))
      births_more x k =
          part_joined (λ (b : Birth). same b.object x) bs (births_given bs o.args (row_of o.cmd).effect (objects_of made)) cs (births_given cs o.args (row_of o.cmd).effect (objects_of made)) (w.born x k)
          (births_alike h device bs cs w.born o.args (row_of o.cmd).effect made on.args at)

  -- ---- on another device

  module _ (other : Name) (apart : other ≡ device → ⊥) where
    pub others_apart : (y x : Object) → h.object y ≡ Some other → h.object x ≡ Some device → same y x ≡ false
    others_apart y x there at = go (same y x) refl
      where
        go : (u : Bool) → same y x ≡ u → u ≡ false
        go false e = refl
        go true e =
            let one : Some other ≡ Some device = sym there ∙ (ap h.object (same_is y x e) ∙ at) in
            let names : other ≡ device = cc in absurd (apart names)

    module _ (bs : List Birth) (all : AllByRecursion (Owned h) bs) (x : Object) (at : h.object x ≡ Some device) where
      no_owner : (named : Object) → h.object named ≡ Some other → is_in (owners_in bs x) named ≡ false
      no_owner named there =
          any_none (λ (y : Object). same y named) (owners_in bs x)
          (all_to (λ y. Within (h.object y) (h.object x)) (λ y. same y named ≡ false) (λ y w. go y w (same y named) refl) (owners_in bs x) (owners_within h bs x all))
        where
          go : (y : Object) → Within (h.object y) (h.object x) → (u : Bool) → same y named ≡ u → u ≡ false
          go y w false e = refl
          go y w true e =
              let where_y : h.object y ≡ Some other = ap h.object (same_is y named e) ∙ there in
              let one : Some device ≡ Some other = sym at ∙ w other where_y in
              let names : other ≡ device = cc in absurd (apart names)

      not_with : (named : Object) → h.object named ≡ Some other → ends_with bs x named ≡ false
      not_with named there =
          ap (λ u. created_in bs named && (u || is_in (owners_in bs x) named)) (sames (same x named) refl)
          ∙ (ap (λ u. created_in bs named && u) (no_owner named there) ∙ neither (created_in bs named))
        where
          neither : (u : Bool) → (u && false) ≡ false
          neither true = refl
          neither false = refl

          sames : (u : Bool) → same x named ≡ u → u ≡ false
          sames false e = refl
          sames true e =
              let one : Some device ≡ Some other = sym at ∙ (ap h.object (same_is x named e) ∙ there) in
              let names : other ≡ device = cc in absurd (apart names)

      not_ended : (args : List (List Argument)) (e : Effect) → ArgsAt h other args → ends_by bs args e x ≡ false
      not_ended args (eff.Destroy p) there =
          any_none (ends_with bs x) (objects_in args p) (all_to (λ y. h.object y ≡ Some other) (λ y. ends_with bs x y ≡ false) not_with (objects_in args p) (objects_at h other args p there))
      not_ended args (eff.Free p) there =
          any_none (ends_with bs x) (objects_in args p) (all_to (λ y. h.object y ≡ Some other) (λ y. ends_with bs x y ≡ false) not_with (objects_in args p) (objects_at h other args p there))
      not_ended args (eff.Reset p) there =
          any_none (is_in (owners_in bs x)) (objects_in args p) (all_to (λ y. h.object y ≡ Some other) (λ y. is_in (owners_in bs x) y ≡ false) no_owner (objects_in args p) (objects_at h other args p there))
      not_ended args eff.None there = refl
      not_ended args (eff.Create t owner many) there = refl
      not_ended args (eff.Retrieve t owner many) there = refl

    still_alive : (a u v : Bool) → v ≡ false → a ≡ (a && (u || not v))
    still_alive true true v e = refl
    still_alive true false v e = ap not (sym e)
    still_alive false u v e = refl

    pub begun_elsewhere : (past alone : Past) (e : BeginEvent) (o : Opened) (r : List Report) → Held h past → Beside h s device past alone → ArgsAt h other o.args → Beside h s device (Began e o r ∷ past) alone
    begun_elsewhere past alone e o r held w args = record {
      names = w.names;
      born = w.born;
      living = λ x at.
          w.living x at
          ∙ still_alive (alive (history past) x) (is_skipped o) (ends_by (births (history past)) o.args (row_of o.cmd).effect x) (not_ended (births (history past)) held.born x at o.args (row_of o.cmd).effect args);
      kept = w.kept;
      routes = w.routes;
      parts = w.parts;
    }

    -- ---- a return there

    abbrev Elsewhere : Born → Type 0
    Elsewhere b = (h.object b.object ≡ Some other) × (h.name b.name ≡ Some other)

    new_elsewhere : (bs : List Birth) (created : Bool) (owners : List Object) (made : List Born) (x : Object) → h.object x ≡ Some device → AllByRecursion Elsewhere made → births_at x (births_of bs created owners (objects_of made)) ≡ []
    new_elsewhere bs created owners made x at there =
        none_left (λ (b : Birth). same b.object x) (births_of bs created owners (objects_of made))
        (all_mapped (λ o. same o x ≡ false) (λ (b : Birth). same b.object x ≡ false) (λ o. record { object = o; created = created; owners = owners }) (λ o e. e) (filter (λ o. not (born_in bs o)) (objects_of made))
        (all_part (λ o. same o x ≡ false) (λ o. not (born_in bs o)) (objects_of made) (all_mapped Elsewhere (λ o. same o x ≡ false) (λ b. b.object) (λ b e. others_apart b.object x e.0 at) made there)))

    no_births : (bs : List Birth) (args : List (List Argument)) (e : Effect) (made : List Born) (x : Object) → h.object x ≡ Some device → AllByRecursion Elsewhere made → births_at x (births_given bs args e (objects_of made)) ≡ []
    no_births bs args (eff.Create t owner many) made x at there = new_elsewhere bs true (owners_given bs args owner) made x at there
    no_births bs args (eff.Retrieve t owner many) made x at there = new_elsewhere bs false (owners_given bs args owner) made x at there
    no_births bs args eff.None made x at there = refl
    no_births bs args (eff.Destroy p) made x at there = refl
    no_births bs args (eff.Free p) made x at there = refl
    no_births bs args (eff.Reset p) made x at there = refl

    none_kept : (bs : List Birth) (o : Opened) (made : List Born) (x : Object) → h.object x ≡ Some device → On h other o → retrieved_from x (retrieved_by bs o made) ≡ []
    none_kept bs o made x at on = none_left (λ (r : Retrieval). are_same r.owner (Some x)) (retrieved_by bs o made) (go (retrieves (row_of o.cmd).effect))
      where
        by : Option Object
        by = owner_by bs o.args (row_of o.cmd).effect

        differ : (y : Option Object) → OfOwner h y (Some other) → are_same y (Some x) ≡ false
        differ None k = refl
        differ (Some y) k = others_apart y x k at

        go : (u : Bool) → AllByRecursion (λ (r : Retrieval). are_same r.owner (Some x) ≡ false) (cond u (map (retrieval o by) (filter (is_new bs) made)) [])
        go false = tt
        go true =
            all_mapped (λ (b : Born). ⊤) (λ (r : Retrieval). are_same r.owner (Some x) ≡ false) (retrieval o by) (λ b k. differ by (by_at h other bs o.args (row_of o.cmd).effect on.plain on.args)) (filter (is_new bs) made)
            (all_of (λ (b : Born). ⊤) (λ b. tt) (filter (is_new bs) made))

    none_routed : (bs : List Birth) (o : Opened) (made : List Born) (x : Object) → h.object x ≡ Some device → AllByRecursion Elsewhere made → routes_at x (routed_by bs o made) ≡ []
    none_routed bs o made x at there =
        none_left (λ (r : Routed). same r.object x) (routed_by bs o made)
        (all_mapped Elsewhere (λ (r : Routed). same r.object x ≡ false) (routed_of o) (λ b e. others_apart b.object x e.0 at) (filter (λ (b : Born). is_routed b.object.ty && is_new bs b) made)
        (all_part Elsewhere (λ (b : Born). is_routed b.object.ty && is_new bs b) made there))

    no_names : (made : List Born) (m : Name) → h.name m ≡ Some device → AllByRecursion Elsewhere made → object_in (map named_of made) m ≡ None
    no_names made m at there =
        ap (option_map (λ (n : Named). n.object)) (none_found (λ (n : Named). same_name n.name m) (map named_of made)
        (all_mapped Elsewhere (λ (n : Named). same_name n.name m ≡ false) named_of (λ b e. differ b.name e.1 (same_name b.name m) refl) made there))
      where
        differ : (n : Name) → h.name n ≡ Some other → (u : Bool) → same_name n m ≡ u → u ≡ false
        differ n e false k = refl
        differ n e true k =
            let one : Some other ≡ Some device = sym e ∙ (ap h.name (name_is n m k) ∙ at) in
            let names : other ≡ device = cc in absurd (apart names)

    same_alive : (a b : Bool) → a ≡ (a || (not b && b))
    same_alive true b = refl
    same_alive false true = refl
    same_alive false false = refl

    pub returned_elsewhere : (past alone : Past) (o : Opened) (made : List Born) → Beside h s device past alone → On h other o → AllByRecursion (λ (b : Born). (h.object b.object ≡ Some other) × (h.name b.name ≡ Some other)) made
        → Beside h s device (Returned o made ∷ past) alone
    returned_elsewhere past alone o made w on there = record {
      names = λ m k. w.names m k ∙ sym (object_joined (named past) (map named_of made) m ∙ (ap (or_other (object_in (named past) m)) (no_names made m k there) ∙ or_nothing (object_in (named past) m)));
      born = births_more;
      living = λ x k.
          w.living x k ∙ (same_alive (alive (history past) x) (born_in cs x)
          ∙ ap (λ u. alive (history past) x || (not (born_in cs x) && u)) (sym (born_alike x (births (history alone)) cs (w.born x k)) ∙ born_alike x (births (history alone)) (cs ++ births_given cs o.args (row_of o.cmd).effect (objects_of made)) (births_more x k)));
      kept = λ x k. part_alone (λ (r : Retrieval). are_same r.owner (Some x)) (retrievals alone) (retrievals past) (retrieved_by cs o made) (w.kept x k) (none_kept cs o made x k on);
      routes = λ x k. part_alone (λ (r : Routed). same r.object x) (routed alone) (routed past) (routed_by cs o made) (w.routes x k) (none_routed cs o made x k there);
      parts = w.parts ∙ sym (no_instance o (parts_of (s.outcome o.payload)) (parts_in_force s past) on.instance);
    }
      where
        cs : List Birth
        cs = births (history past)

        births_more : (x : Object) → h.object x ≡ Some device → births_at x (births (history alone)) ≡ births_at x (cs ++ births_given cs o.args (row_of o.cmd).effect (objects_of made))
        births_more x k =
            part_alone (λ (b : Birth). same b.object x) (births (history alone)) cs (births_given cs o.args (row_of o.cmd).effect (objects_of made)) (w.born x k) (no_births cs o.args (row_of o.cmd).effect made x k there)
