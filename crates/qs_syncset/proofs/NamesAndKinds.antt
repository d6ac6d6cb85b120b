-- In a checked program two names of a block that stand for one object have one kind, so a call of the one may be a call
-- of the other for all that the graph says. Coalescing by names is sound by it (see Removals). Where the client is of
-- no template, two names are two objects. It goes by cases on whether the client is of one.
use Rattle.std.proofs.Common.{◌≡◌, ℕ, ◌<◌, ◌||◌, ◌&&◌, ◌==◌, Bool, true, false, List, [], ◌∷◌, length, map, Option, Some, None, slice_index_or, refl, sym, ap, ◌∙◌, subst, arith}
use Rattle.std.specs.List.{AllByRecursion, list_any}
use Rattle.std.proofs.lemmas.Bool.{eq-eqb, or_right}
use Rattle.std.proofs.lemmas.List.{get_or_default}
use Rattle.qs_objects.specs.declared.object.Kind.{Kind}
use Rattle.qs_objects.specs.declared.object.Kind.TheVariants.{Account, Buffer, Grid}
use Rattle.qs_program.specs.audit.Binding.{bound}
use Rattle.qs_program.specs.audit.Kinds.{same_kind}
use Rattle.qs_program.specs.audit.Program.{BlockShape, ProgramShape, StartShape, binding_in, binding_of, client_at, declarations_in, is_started, no_client, no_object, own_block}
use Rattle.qs_program.specs.audit.Sound.{is_in}
use Rattle.qs_program.specs.Sound.{IsSound, IsSoundClient, IsSoundStart, IsStartSound}
use Rattle.qs_program.specs.declared.program.Declared.{Declared}
use Rattle.qs_graph.specs.declared.node.Named.{Named}
use Rattle.qs_graph.specs.audit.Names.{are_of_one_kind, graph_of}
use Rattle.qs_graph.specs.audit.Nodes.{ControlGraph, GraphNode, exit, place_at}
use Rattle.qs_graph.specs.SoundNodes.{AreSoundNodes, IsSoundNode}
use Rattle.qs_graph.proofs.Ranges.{all_at, blocks_have_graphs, is_in-all, sound_own}
use Rattle.qs_syncset.proofs.Removals.{AreNamesKnown}

same_back : (x y z : Kind) → same_kind x z ≡ true → same_kind y z ≡ true → same_kind x y ≡ true
same_back (Account x) (Account y) (Account z) e f = refl
same_back (Account x) y (Buffer z) e f = cc
same_back (Account x) y (Grid z z2) e f = cc
same_back (Buffer x) y (Account z) e f = cc
same_back (Buffer x) (Buffer y) (Buffer z) e f = refl
same_back (Buffer x) y (Grid z z2) e f = cc
same_back (Grid x x2) y (Account z) e f = cc
same_back (Grid x x2) y (Buffer z) e f = cc
same_back (Grid x x2) (Grid y y2) (Grid z z2) e f = refl
same_back _ _ _ e f = f

-- what is so of a name of the list is so of an element of the named list
member_any : (P : Named → Bool) (f : ℕ → Named) (xs : List ℕ) (x : ℕ) → is_in xs x ≡ true → P (f x) ≡ true → list_any P (map f xs) ≡ true
member_any P f [] x member holds = cc
member_any P f (y ∷ ys) x member holds = by_test (y == x) (λ e. e) member (member_any P f ys x)
  where
    by_test : (b : Bool) → (b ≡ true → (y == x) ≡ true) → (b || is_in ys x) ≡ true → (is_in ys x ≡ true → P (f x) ≡ true → list_any P (map f ys) ≡ true)
        → (P (f y) || list_any P (map f ys)) ≡ true
    by_test true same m later =
        let e : y ≡ x = grind (arith, same refl) in
        let here : P (f y) ≡ true = ap (λ z. P (f z)) e ∙ holds in
        rw here refl
    by_test false same m later = or_right (P (f y)) (list_any P (map f ys)) (later m holds)

-- ---- a client of a template

module _ (objects : List Declared) (blocks : List BlockShape) (s : StartShape) (sound : IsSoundStart objects blocks s) where
  abbrev kind_of : ℕ → Kind
  kind_of name = (slice_index_or s.formals name no_object).kind

  abbrev kind_at : ℕ → Kind
  kind_at h = (slice_index_or objects h no_object).kind

  bound_kind : (name : ℕ) → name < length s.formals → same_kind (kind_of name) (kind_at (bound s.binding name)) ≡ true
  bound_kind name inside =
      let within : name < length s.binding = omega (arith, inside, sound.each) in
      let same : slice_index_or s.binding name 0 ≡ bound s.binding name = get_or_default s.binding name 0 name within in
      subst (λ h. same_kind (kind_of name) (kind_at h) ≡ true) same (sound.kinds name inside)

  one_kind : (x y : ℕ) → x < length s.formals → y < length s.formals → bound s.binding x ≡ bound s.binding y → same_kind (kind_of x) (kind_of y) ≡ true
  one_kind x y here there same =
      same_back (kind_of x) (kind_of y) (kind_at (bound s.binding x)) (bound_kind x here)
      (subst (λ h. same_kind (kind_of y) (kind_at h) ≡ true) (sym same) (bound_kind y there))

module _ (objects : List Declared) (blocks : List BlockShape) (reserved : List ℕ) (nodes : List GraphNode) where
  abbrev over : Option StartShape → ControlGraph
  over start = record {
    nodes = nodes;
    names = map (λ name. record { name = name; kind = (slice_index_or (declarations_in objects start) name no_object).kind }) reserved;
    aliases = is_started start;
  }

  known_by : (start : Option StartShape) → IsStartSound objects blocks start
      → AllByRecursion (λ h. h < length (declarations_in objects start)) reserved → AreSoundNodes (declarations_in objects start) reserved nodes
      → AreNamesKnown (binding_in start) (over start)
  known_by None sound known each m n c h is_call is_sync same = eq-eqb c.object h same
  known_by (Some s) sound known each m n c h is_call is_sync same =
      let P : GraphNode → Type 0 = λ p. IsSoundNode s.formals reserved p.node in
      let at : (i : ℕ) → P (place_at nodes i) = λ i. all_at P P nodes i exit each (λ p w. w) tt in
      let calls : is_in reserved c.object ≡ true = (subst (IsSoundNode s.formals reserved) is_call (at m)).reserves in
      let syncs : is_in reserved h ≡ true = subst (IsSoundNode s.formals reserved) is_sync (at n) in
      let here : c.object < length s.formals = is_in-all (λ o. o < length s.formals) reserved c.object calls known in
      let there : h < length s.formals = is_in-all (λ o. o < length s.formals) reserved h syncs known in
      let named : ℕ → Named = λ name. record { name = name; kind = (slice_index_or s.formals name no_object).kind } in
      let names = map named reserved in
      let inner : list_any (λ (k : Named). (k.name == h) && same_kind (named c.object).kind k.kind) names ≡ true =
      member_any (λ (k : Named). (k.name == h) && same_kind (named c.object).kind k.kind) named reserved h syncs
      (let e : (h == h) ≡ true = eq-eqb h h refl in rw (e, one_kind objects blocks s sound c.object h here there same) refl) in
      let all : are_of_one_kind names c.object h ≡ true =
      member_any (λ (k : Named). (k.name == c.object) && list_any (λ (q : Named). (q.name == h) && same_kind k.kind q.kind) names) named reserved c.object calls
      (let e : (c.object == c.object) ≡ true = eq-eqb c.object c.object refl in rw (e, inner) refl) in
      or_right (c.object == h) (are_of_one_kind names c.object h) all

-- two names of one object in a checked program's block
pub names_known : (p : ProgramShape) (c k : ℕ) → IsSound p → AreNamesKnown (binding_of p c) (graph_of p c k)
names_known p c k sound =
    known_by p.objects (client_at p c).blocks (own_block p c k).reserved (graph_of p c k).nodes (client_at p c).start
    (all_at (IsSoundClient p.objects) (λ d. IsStartSound p.objects d.blocks d.start) p.clients c no_client sound.each (λ d w. w.start) tt)
    (sound_own p c k sound).text.known (blocks_have_graphs p c k sound).own_sound
