-- A script that is walked with no fault, and whose load and weight are within their limits, makes a sound program. The
-- promise of the check that whatever it accepts is sound stands on `sound`. The proof goes from a block's list up to
-- its client, and then by induction on the items, where the objects known so far are a front of all that are declared.
use Rattle.std.proofs.Common.{◌≡◌, suc, ◌+◌, ◌<◌, ◌≤◌, Bool, true, false, ◌||◌, ◌==◌, List, [], ◌∷◌, ◌++◌, length, map, slice_index_or, refl, ap, sym, ◌∙◌, subst, arith, append_assoc, append-nil, length-append, Ok, Err, pos}
use Rattle.std.proofs.Math.ListN.{get_or-append}
use Rattle.std.proofs.lemmas.List.{length-map}
use Rattle.std.specs.Cmp.Lexicographic.{same_text}
use Rattle.std.specs.List.{AllByRecursion, IsDistinct}
use Rattle.std.proofs.lemmas.Bool.{or_right}
use Rattle.qs_objects.specs.declared.object.Kind.{Kind}
use Rattle.qs_objects.specs.declared.object.Kind.TheVariants.{Account}
use Rattle.qs_script.specs.declared.tree.tree.Block.{Block}
use Rattle.qs_script.specs.declared.tree.tree.ClientItem.{ClientItem}
use Rattle.qs_script.specs.declared.tree.tree.TemplateItem.{TemplateItem}
use Rattle.qs_script.specs.declared.tree.tree.Item.{Item}
use Rattle.qs_script.specs.declared.tree.tree.Item.TheVariants.{Object, Client, Template, Started}
use Rattle.qs_program.specs.declared.program.Declared.{Declared}
use Rattle.qs_program.specs.audit.Numbering.{Name, same_name, is_among, found_at}
use Rattle.qs_check.specs.audit.fault_places.Places.{Scope, ScopeOrFault, separate, listed, scope_or_fault, places, listed_places, block_places, blocks_places, item_places, script_places, start, scope_of_block, with_listed, with_client, kind_of}
use Rattle.qs_check.specs.fault_places.Places.{over, without_variables}
use Rattle.qs_program.specs.audit.Program.{whole_load, whole_weight}
use Rattle.qs_check.specs.audit.fault_places.Variables.{variables_of}
use Rattle.qs_check.specs.audit.resolution.Resolve.{block_shape, client_shape, clients_of, objects_of, names_of, kinds_of, started_of, template_called, templates_in, program_of_items}
use Rattle.qs_check.specs.resolution.Resolve.{AreFaultless, variable_lists}
use Rattle.qs_check.specs.WellFormed.{client_names}
use Rattle.qs_program.specs.audit.Sound.{is_in}
use Rattle.qs_program.specs.Sound.{IsSoundBlock, IsSoundClient, IsFormedProgram, IsSound}
use Rattle.qs_program.proofs.Found.{apart, same, false_not_true, is_among-append, is_among-last, found_within, found_append, found_apart}
use Rattle.qs_program.specs.audit.Limits.{most_objects, most_requests, most_steps, most_variables}
use Rattle.qs_check.proofs.fault_places.Inner.{parted}
use Rattle.qs_check.proofs.fault_places.ScopesInBlocks.{InLimits, none_yet, limits_met, block_stays, blocks_stay}
use Rattle.qs_check.proofs.Scripts.{object_stays, client_stays, few_variables, scripted, started_stays, template_stays}
use Rattle.qs_check.proofs.SoundStatements.{Known, Here, sound_body}
use Rattle.qs_check.proofs.resolution.Scopes.{names, kinds}
use Rattle.qs_check.proofs.fault_places.Steps.{split, ok_same}

abbrev pub with_list : Scope → List Name → Scope
with_list s r = record s { reserved = r }

pub list_kept : (ns : List Name) (s t : Scope) → scope_or_fault s (listed_places ns) ≡ Ok t → t ≡ with_list s (s.reserved ++ ns)
list_kept [] s t h = ok_same s t h ∙ ap (with_list s) (sym (append-nil s.reserved))
list_kept (n ∷ ns) s t h =
    list_kept ns (with_listed s n) t (split s t (listed n) (listed_places ns) h).1 ∙ ap (with_list s) (append_assoc s.reserved (n ∷ []) ns)

either : (b first later rest : Bool) → (b ≡ true → first ≡ true) → (later ≡ true → rest ≡ true) → (b || later) ≡ true → (first || rest) ≡ true
either true first later rest f g h = ap (λ x. x || rest) (f refl)
either false first later rest f g h = or_right first rest (g h)

module _ (D : List Declared) where
  known_within : (ks : List Kind) (os : List Name) → Known D os ks → (n : Name) → is_among os n ≡ true → found_at (names D) n < length D
  known_within ks os known n h = let w = found_within (names D) n (known n h).0 in omega (arith, w, length-map D (λ (o : Declared). o.name))

  list_within : (ns : List Name) (s t : Scope) → Known D s.objects s.kinds → scope_or_fault s (listed_places ns) ≡ Ok t → AllByRecursion (λ h. h < length D) (map (found_at (names D)) ns)
  list_within [] s t known h = tt
  list_within (n ∷ ns) s t known h =
      let w = split s t (listed n) (listed_places ns) h in
      (known_within s.kinds s.objects known n w.0.0, list_within ns (with_listed s n) t known w.1)

  list_apart : (x : Name) (ns : List Name) (s t : Scope) → Known D s.objects s.kinds → is_among s.reserved x ≡ true → is_among (names D) x ≡ true → scope_or_fault s (listed_places ns) ≡ Ok t → AllByRecursion (λ y. (found_at (names D) x == y) ≡ false) (map (found_at (names D)) ns)
  list_apart x [] s t known old among h = tt
  list_apart x (n ∷ ns) s t known old among h =
      let w = split s t (listed n) (listed_places ns) h in
      let other : found_at (names D) x ≡ found_at (names D) n → ⊥ = λ e.
      let P : Name → Type 0 = λ y. is_among s.reserved y ≡ true in
      false_not_true (is_among s.reserved n) (subst P (found_apart (names D) x n among (known n w.0.0).0 e) old) w.0.1 in
      (apart (found_at (names D) x) (found_at (names D) n) other, list_apart x ns (with_listed s n) t known (is_among-append s.reserved (n ∷ []) x old) among w.1)

  list_distinct : (ns : List Name) (s t : Scope) → Known D s.objects s.kinds → scope_or_fault s (listed_places ns) ≡ Ok t → IsDistinct ◌==◌ (map (found_at (names D)) ns)
  unfolding IsDistinct
  list_distinct [] s t known h = tt
  list_distinct (n ∷ ns) s t known h =
      let w = split s t (listed n) (listed_places ns) h in
      (list_apart n ns (with_listed s n) t known (is_among-last s.reserved n) (known n w.0.0).0 w.1, list_distinct ns (with_listed s n) t known w.1)

  reserving : (ns : List Name) (o : Name) → is_among ns o ≡ true → is_in (map (found_at (names D)) ns) (found_at (names D) o) ≡ true
  reserving [] o h = cc
  reserving (n ∷ ns) o h =
      let number = found_at (names D) in
      either (same_name o n) (number n == number o) (is_among ns o) (is_in (map number ns) (number o))
      (λ e. ap (λ y. number n == number y) (same_text o n (sym e)) ∙ same (number n))
      (reserving ns o) h

  sound_block : (V : List Name) → length V ≤ most_variables → (b : Block) (s t : Scope) → Known D s.objects s.kinds → scope_or_fault s (block_places b) ≡ Ok t → IsSoundBlock D (block_shape (names D) (kinds D) V b)
  sound_block V few b s t known h =
      let s1 = scope_of_block s in
      let v = parted s1 t (listed_places b.reserved) (places false b.body) (split s t separate (listed_places b.reserved ++ places false b.body) h).1 in
      let R = map (found_at (names D)) b.reserved in
      let P : Scope → Type 0 = λ u. Here D R V few u in
      let here : P v.0 = subst P (sym (list_kept b.reserved s1 v.0 v.1)) (known, reserving b.reserved) in
      record {
        reserved = list_within b.reserved s1 v.0 known v.1;
        distinct = list_distinct b.reserved s1 v.0 known v.1;
        body = sound_body D R V few b.body false v.0 t here v.2;
      }

  pub sound_blocks : (V : List Name) → length V ≤ most_variables → (bs : List Block) (s t : Scope) → Known D s.objects s.kinds → scope_or_fault s (blocks_places bs) ≡ Ok t → AllByRecursion (IsSoundBlock D) (map (block_shape (names D) (kinds D) V) bs)
  sound_blocks V few [] s t known h = tt
  sound_blocks V few (b ∷ bs) s t known h =
      let w = parted s t (block_places b) (blocks_places bs) h in
      let P : Scope → Type 0 = λ u. Known D u.objects u.kinds in
      (sound_block V few b s w.0 known w.1, sound_blocks V few bs w.0 t (subst P (sym (block_stays s w.0 b w.1)) known) w.2)

  sound_client : (c : ClientItem) (s t : Scope) → InLimits s → Known D s.objects s.kinds → scope_or_fault s (item_places (Client c)) ≡ Ok t → IsSoundClient D (client_shape (names D) (kinds D) c)
  sound_client c s t l known h =
      let w = client_stays s t c h in
      let few = few_variables s t c l h in
      let blocks : t.blocks ≡ 0 + length c.blocks = ap (λ u. u.blocks) (blocks_stay (with_client s c.name) t c.blocks w) in
      record {
        variables = few;
        blocks = rw (length-map c.blocks (block_shape (names D) (kinds D) (variables_of c))) (omega (arith, blocks, (limits_met s t (item_places (Client c)) h l).blocks));
        each = sound_blocks (variables_of c) few c.blocks (with_client s c.name) t known w;
        start = tt;
      }

  -- the objects that are known, and those of the items that are left, are all objects
  abbrev Before : Scope → List Item → Type 0
  Before s items = (names D ≡ s.objects ++ names_of items) × (kinds D ≡ s.kinds ++ kinds_of items) × (length s.kinds ≡ length s.objects)

  known_of : (s : Scope) (items : List Item) → Before s items → Known D s.objects s.kinds
  known_of s items (e, f, same_length) = λ o h.
      let P : List Name → Type 0 = λ ns. is_among ns o ≡ true in (
        subst P (sym e) (is_among-append s.objects (names_of items) o h),
        ap (λ K. slice_index_or K (found_at (names D) o) (Account (pos 0))) f
            ∙ ap (λ ns. slice_index_or (s.kinds ++ kinds_of items) (found_at ns o) (Account (pos 0))) e
            ∙ ap (λ i. slice_index_or (s.kinds ++ kinds_of items) i (Account (pos 0))) (found_append s.objects (names_of items) o h)
            ∙ get_or-append s.kinds (kinds_of items) (Account (pos 0)) (found_at s.objects o) (omega (arith, found_within s.objects o h, same_length)),
      )

  -- the clients of templates are sound
  abbrev pub AreStartsSound : List TemplateItem → List Item → Type 0
  AreStartsSound T [] = Unit {0}
  AreStartsSound T (Object o ∷ rest) = AreStartsSound T rest
  AreStartsSound T (Client c ∷ rest) = AreStartsSound T rest
  AreStartsSound T (Template c ∷ rest) = AreStartsSound T rest
  AreStartsSound T (Started c ∷ rest) = IsSoundClient D (started_of (names D) (template_called T c.template) c) × AreStartsSound T rest

  sound_items : (T : List TemplateItem) (items : List Item) (s t : Scope) → InLimits s → Before s items → AreStartsSound T items → scope_or_fault s (script_places items) ≡ Ok t → AllByRecursion (IsSoundClient D) (clients_of T (names D) (kinds D) items)
  sound_items T [] s t l b starts h = tt
  sound_items T (Object o ∷ rest) s t l b starts h =
      let w = parted s t (item_places (Object o)) (script_places rest) h in
      let P : Scope → Type 0 = λ u. Before u rest in
      let k = kind_of o.kind in
      sound_items T rest w.0 t (limits_met s w.0 (item_places (Object o)) w.1 l)
      (subst P (sym (object_stays s w.0 o w.1)) (
        b.0 ∙ sym (append_assoc s.objects (o.name ∷ []) (names_of rest)),
        b.1 ∙ sym (append_assoc s.kinds (k ∷ []) (kinds_of rest)),
        omega (arith, b.2, length-append s.kinds (k ∷ []), length-append s.objects (o.name ∷ [])),
      ))
      starts w.2
  sound_items T (Client c ∷ rest) s t l b starts h =
      let w = parted s t (item_places (Client c)) (script_places rest) h in
      let P : Scope → Type 0 = λ u. Before u rest in
      let one = blocks_stay (with_client s c.name) w.0 c.blocks (client_stays s w.0 c w.1) in (
        sound_client c s w.0 l (known_of s (Client c ∷ rest) b) w.1,
        sound_items T rest w.0 t (limits_met s w.0 (item_places (Client c)) w.1 l) (subst P (sym one) b) starts w.2,
      )
  sound_items T (Template c ∷ rest) s t l b starts h =
      let w = parted s t (item_places (Template c)) (script_places rest) h in
      let P : Scope → Type 0 = λ u. Before u rest in
      sound_items T rest w.0 t (limits_met s w.0 (item_places (Template c)) w.1 l) (subst P (sym (template_stays s w.0 c w.1).2) b) starts w.2
  sound_items T (Started c ∷ rest) s t l b (one, starts) h =
      let w = parted s t (item_places (Started c)) (script_places rest) h in
      let P : Scope → Type 0 = λ u. Before u rest in
      (one, sound_items T rest w.0 t (limits_met s w.0 (item_places (Started c)) w.1 l) (subst P (sym (started_stays s w.0 c w.1).3) b) starts w.2)

length-clients : (T : List TemplateItem) (os : List Name) (ks : List Kind) (items : List Item) → length (clients_of T os ks items) ≡ length (client_names items)
length-clients T os ks [] = refl
length-clients T os ks (Object o ∷ rest) = length-clients T os ks rest
length-clients T os ks (Client c ∷ rest) = ap suc (length-clients T os ks rest)
length-clients T os ks (Template c ∷ rest) = length-clients T os ks rest
length-clients T os ks (Started c ∷ rest) = ap suc (length-clients T os ks rest)

-- the end of a walk over a whole script, but for the variables of the clients that are over
pub record Walked (items : List Item) (s : Scope) : Type 0 where
  pub last : Scope
  pub met_all : scope_or_fault start (script_places items) ≡ Ok last
  pub objects : s.objects ≡ names_of items
  pub kinds : s.kinds ≡ kinds_of items
  pub few_objects : length s.objects ≤ most_objects
  pub few_variables : AllByRecursion (λ v. length v ≤ most_variables) (variable_lists items)
  pub faultless : AreFaultless (templates_in items)

over_ok : (m : ScopeOrFault) (s : Scope) → over m ≡ Ok (without_variables s) → (t : Scope) × (m ≡ Ok t) × (without_variables s ≡ without_variables t)
over_ok (Ok t) s h = (t, refl, ok_same (without_variables t) (without_variables s) h)
over_ok (Err e) s h = cc

pub walked : (items : List Item) (s : Scope) → over (scope_or_fault start (script_places items)) ≡ Ok (without_variables s) → Walked items s
walked items s h =
    let w = over_ok (scope_or_fault start (script_places items)) s h in
    let all = scripted items start w.0 none_yet w.1 in
    let objects : s.objects ≡ w.0.objects = ap (λ u. u.objects) w.2 in
    record {
      last = w.0;
      met_all = w.1;
      objects = objects ∙ ap (λ u. u.objects) all.known;
      kinds = ap (λ u. u.kinds) (w.2 ∙ ap without_variables all.known);
      few_objects = rw (ap length objects) (limits_met start w.0 (script_places items) w.1 none_yet).objects;
      few_variables = all.few_variables;
      faultless = all.faultless;
    }

-- a script with no fault in its text, whose load and weight are in their limits
pub sound : (items : List Item) (t : Scope) → scope_or_fault start (script_places items) ≡ Ok t → whole_load (program_of_items items) ≤ most_requests → whole_weight (program_of_items items) ≤ most_steps → AreStartsSound (objects_of items) (templates_in items) items → IsFormedProgram (program_of_items items) → IsSound (program_of_items items)
sound items t h load weight starts form =
    let all = scripted items start t none_yet h in
    let limits = limits_met start t (script_places items) h none_yet in
    record {
      objects = omega (arith, limits.objects, ap (λ u. length u.objects) all.known, length-map (objects_of items) (λ (o : Declared). o.name));
      clients = omega (arith, limits.clients, ap (λ u. length u.clients) all.known, length-clients (templates_in items) (names_of items) (kinds_of items) items);
      kinds = all.starting;
      each = sound_items (objects_of items) (templates_in items) items start t none_yet (refl, refl, refl) starts h;
      load = load;
      weight = weight;
      form = form;
    }
