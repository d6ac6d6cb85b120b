-- A journal that goes on along an order of tickets is, ticket by ticket, what each block did, and a ticket has entries
-- only where all before it are through with the object. The isolation of every machine and of the threads stands on it.
-- The main lemma, `ticket_by_ticket`, goes by induction on the order, with cases on whether the first ticket is through
-- or the object is still busy with it.
use Rattle.std.proofs.Common.{◌≡◌, ◌≢◌, ℕ, Bool, true, false, true≢false, List, [], ◌∷◌, ◌++◌, map, flat_map, refl, sym, ap, ap₂, ◌∙◌, subst, ◌⊎◌, inl, inr, append-nil}
use Rattle.qs_meaning.proofs.Common.{after, AllByRecursion, command_event, entries_of, Entry, Event, filter-append, HasEntry, is_query, IsHonest, never_answers, not_same, part, replay, Request, same, same_self, stamp, State, Ticket, without_tickets}
use Rattle.qs_meaning.specs.BlockRecords.{BlockRecord, IsDone}
use Rattle.qs_meaning.specs.audit.Interaction.{Interaction}
use Rattle.qs_meaning.proofs.Each.{each_map, each_join, flat_map_same, flat_map_none}

abbrev pub parts_of : (Ticket → BlockRecord) → ℕ → Ticket → List Event
parts_of block_record h t = part h (block_record t).trace

abbrev pub done_of : (Ticket → BlockRecord) → Ticket → Type 0
done_of block_record t = IsDone (block_record t).rest

abbrev pub Among : Ticket → List Ticket → Type 0
Among t [] = ⊥
Among t (u ∷ us) = (t ≡ u) ⊎ Among t us

-- no ticket twice
abbrev pub Apart : List Ticket → Type 0
Apart [] = Unit {0}
Apart (t ∷ ts) = AllByRecursion (λ u. t ≢ u) ts × Apart ts

abbrev pub NoQuery : Request → Type 0
NoQuery r = is_query r.op ≡ false

-- commands alone, of which none was run
abbrev pub OnlyCommands : List Event → List Request → Type 0
OnlyCommands es ws = (es ≡ map command_event ws) × AllByRecursion NoQuery ws

-- one ticket's part on an object: what was run, and commands that wait
pub record Piece (s : State) (t : Ticket) (es : List Event) (ws : List Request) (journal : List Entry) : Type 0 where
  pub ran : List Event
  pub later : List Entry
  pub journal_is : journal ≡ map (stamp t) ran ++ later
  pub part_is : es ≡ ran ++ map command_event ws
  pub honest : IsHonest s ran
  pub commands : AllByRecursion NoQuery ws

-- An object seen along the order: which tickets reserve it, their parts, which are over, what waits; whether the order
-- isn't through there, and its state.
pub record ObjectCourse : Type 1 where
  pub may : Ticket → Bool
  pub parts : Ticket → List Event
  pub done : Ticket → Type 0
  pub waits : Ticket → List Request
  pub busy : Type 0
  pub present : State

-- from state s the rest of a journal is made up by these tickets, in order, up to the present state
abbrev pub Flow : ObjectCourse → State → List Entry → List Ticket → Type 0
Flow x s j [] = (j ≡ []) × (s ≡ x.present)
Flow x s j (t ∷ ts) =
    (p : Piece s t (x.parts t) (x.waits t) j)
    × (((x.may t ≡ true → x.done t) × (x.waits t ≡ []) × Flow x (replay s p.ran) p.later ts)
    ⊎ (x.busy × (p.later ≡ []) × AllByRecursion (λ u. OnlyCommands (x.parts u) (x.waits u)) ts))

pub unstamp_all : (t : Ticket) (es : List Event) → without_tickets (map (stamp t) es) ≡ es
unstamp_all t [] = refl
unstamp_all t (e ∷ es) = ap (λ es. e ∷ es) (unstamp_all t es)

pub commands_honest : (s : State) (rs : List Request) → AllByRecursion NoQuery rs → IsHonest s (map command_event rs)
commands_honest s [] h = tt
commands_honest s (r ∷ rs) h = (sym (never_answers r.op h.0 s r.args), commands_honest (after s r) rs h.1)

-- none of these entries is of the ticket
abbrev pub ClearOf : Ticket → List Entry → Type 0
ClearOf u j = AllByRecursion (λ (x : Entry). same u x.ticket ≡ false) j

pub clear_stamped : (u t : Ticket) (es : List Event) → same u t ≡ false → ClearOf u (map (stamp t) es)
clear_stamped u t [] e = tt
clear_stamped u t (x ∷ es) e = (e, clear_stamped u t es e)

not_among : (t : Ticket) (ts : List Ticket) → AllByRecursion (λ u. t ≢ u) ts → Among t ts → ⊥
not_among t [] n a = a
not_among t (u ∷ us) n a = elim a [ inl is ↦ n.0 is | inr i ↦ not_among t us n.1 i ]

among_stamped : (t : Ticket) (es : List Event) (ts : List Ticket) → Among t ts → AllByRecursion (λ (x : Entry). Among x.ticket ts) (map (stamp t) es)
among_stamped t [] ts a = tt
among_stamped t (e ∷ es) ts a = (a, among_stamped t es ts a)

-- the entries of a journal that goes on along these tickets are theirs
pub flow_names : (x : ObjectCourse) (s : State) (j : List Entry) (ts : List Ticket) → Flow x s j ts → AllByRecursion (λ (x : Entry). Among x.ticket ts) j
flow_names x s j [] f = subst (AllByRecursion (λ (x : Entry). Among x.ticket [])) (sym f.0) tt
flow_names x s j (t ∷ ts) f =
    let p = f.0 in
    subst (AllByRecursion (λ (x : Entry). Among x.ticket (t ∷ ts))) (sym p.journal_is)
    (each_join (λ (x : Entry). Among x.ticket (t ∷ ts)) (map (stamp t) p.ran) p.later (among_stamped t p.ran (t ∷ ts) (inl refl))
    (elim f.1 [
      | inl g ↦ each_map (λ (x : Entry) (a : Among x.ticket ts). inr a) p.later (flow_names x (replay s p.ran) p.later ts g.2)
      | inr g ↦ subst (AllByRecursion (λ (x : Entry). Among x.ticket (t ∷ ts))) (sym g.1) tt
    ]))

-- what comes later has no entry of a ticket that is none of these
pub clear_later : (x : ObjectCourse) (s : State) (t : Ticket) (ts : List Ticket) (j : List Entry) (p : Piece s t (x.parts t) (x.waits t) j)
    → (((x.may t ≡ true → x.done t) × (x.waits t ≡ []) × Flow x (replay s p.ran) p.later ts) ⊎ (x.busy × (p.later ≡ []) × AllByRecursion (λ u. OnlyCommands (x.parts u) (x.waits u)) ts))
    → (u : Ticket) → AllByRecursion (λ v. u ≢ v) ts → ClearOf u p.later
clear_later x s t ts j p (inl g) u apart =
    each_map (λ (e : Entry) (a : Among e.ticket ts). not_same u e.ticket (λ is. not_among u ts apart (subst (λ v. Among v ts) (sym is) a)))
    p.later (flow_names x (replay s p.ran) p.later ts g.2)
clear_later x s t ts j p (inr g) u apart = subst (ClearOf u) (sym g.1) tt

pub entries_clear : (u : Ticket) (j : List Entry) → ClearOf u j → entries_of u j ≡ []
entries_clear u [] c = refl
entries_clear u (x ∷ j) c = rw c.0 (entries_clear u j c.1)

pub entries_own : (t : Ticket) (es : List Event) → entries_of t (map (stamp t) es) ≡ map (stamp t) es
entries_own t [] = refl
entries_own t (e ∷ es) = rw (same_self t) (ap (λ xs. stamp t e ∷ xs) (entries_own t es))

-- of the ticket in front
pub entries_first : (t : Ticket) (ran : List Event) (later : List Entry) → ClearOf t later → entries_of t (map (stamp t) ran ++ later) ≡ map (stamp t) ran
entries_first t ran later c =
    filter-append (λ (x : Entry). same t x.ticket) (map (stamp t) ran) later
    ∙ (ap₂ (λ a b. a ++ b) (entries_own t ran) (entries_clear t later c) ∙ append-nil (map (stamp t) ran))

-- of another
pub entries_other : (t u : Ticket) (ran : List Event) (later : List Entry) → same u t ≡ false → entries_of u (map (stamp t) ran ++ later) ≡ entries_of u later
entries_other t u ran later e =
    filter-append (λ (x : Entry). same u x.ticket) (map (stamp t) ran) later
    ∙ ap (λ a. a ++ entries_of u later) (entries_clear u (map (stamp t) ran) (clear_stamped u t ran e))

pub has_clear : (t : Ticket) (k : List Entry) → ClearOf t k → HasEntry t k → ⊥
has_clear t [] c h = h
has_clear t (x ∷ k) c h = elim h [ inl is ↦ true≢false (sym (subst (λ u. same t u ≡ true) is (same_self t)) ∙ c.0) | inr i ↦ has_clear t k c.1 i ]

pub has_append : (t : Ticket) (k j : List Entry) → HasEntry t (k ++ j) → HasEntry t k ⊎ HasEntry t j
has_append t [] j h = inr h
has_append t (x ∷ k) j h = elim h [ inl is ↦ inl (inl is) | inr i ↦ elim (has_append t k j i) [ inl a ↦ inl (inr a) | inr b ↦ inr b ] ]

-- each ticket's part is its entries, and then what waits
abbrev pub PartIs : ObjectCourse → List Entry → Ticket → Type 0
PartIs x j t = x.parts t ≡ without_tickets (entries_of t j) ++ map command_event (x.waits t)

-- a ticket is through with the object
abbrev pub Through : ObjectCourse → Ticket → Type 0
Through x t = (x.may t ≡ true → x.done t) × (x.waits t ≡ [])

-- where one has an entry, all before it are through
abbrev pub InTurn : ObjectCourse → List Entry → List Ticket → Type 0
InTurn x j [] = Unit {0}
InTurn x j (t ∷ ts) = ((u : Ticket) → Among u ts → HasEntry u j → Through x t) × InTurn x j ts

-- the journal, ticket by ticket
pub record IsTicketByTicket (x : ObjectCourse) (j : List Entry) (ts : List Ticket) : Type 0 where
  pub order : j ≡ flat_map (λ t. entries_of t j) ts
  pub parts : AllByRecursion (PartIs x j) ts
  pub turns : InTurn x j ts

module _ (x : ObjectCourse) (s : State) (t : Ticket) (ts : List Ticket) (j : List Entry) (p : Piece s t (x.parts t) (x.waits t) j) (apart : AllByRecursion (λ u. t ≢ u) ts) where
  -- of later tickets the piece in front says nothing
  later_same : AllByRecursion (λ u. entries_of u p.later ≡ entries_of u j) ts
  later_same = each_map (λ u (n : t ≢ u). sym (ap (entries_of u) p.journal_is ∙ entries_other t u p.ran p.later (not_same u t (λ is. n (sym is))))) ts apart

  front_is : ClearOf t p.later → entries_of t j ≡ map (stamp t) p.ran
  front_is c = ap (entries_of t) p.journal_is ∙ entries_first t p.ran p.later c

  first_part : ClearOf t p.later → PartIs x j t
  first_part c = p.part_is ∙ ap (λ es. es ++ map command_event (x.waits t)) (sym (ap without_tickets (front_is c) ∙ unstamp_all t p.ran))

  joined_is : ClearOf t p.later → p.later ≡ flat_map (λ u. entries_of u j) ts → j ≡ entries_of t j ++ flat_map (λ u. entries_of u j) ts
  joined_is c e = p.journal_is ∙ ap₂ (λ a b. a ++ b) (sym (front_is c)) e

  -- an entry of a later ticket stands in what comes later
  has_later : (u : Ticket) → t ≢ u → HasEntry u j → HasEntry u p.later
  has_later u n i = elim (has_append u (map (stamp t) p.ran) p.later (subst (HasEntry u) p.journal_is i)) [
    | inl a ↦ absurd (has_clear u (map (stamp t) p.ran) (clear_stamped u t p.ran (not_same u t (λ is. n (sym is)))) a)
    | inr b ↦ b
  ]

pub among_apart : (t u : Ticket) (ts : List Ticket) → AllByRecursion (λ v. t ≢ v) ts → Among u ts → t ≢ u
among_apart t u [] n a = absurd a
among_apart t u (v ∷ vs) n a = elim a [ inl is ↦ subst (λ w. t ≢ w) (sym is) n.0 | inr b ↦ among_apart t u vs n.1 b ]

-- turns seen in a longer journal that has no other entries of these tickets
turns_more : (x : ObjectCourse) (j k : List Entry) (ts : List Ticket) → ((u : Ticket) → Among u ts → HasEntry u j → HasEntry u k) → InTurn x k ts → InTurn x j ts
turns_more x j k [] f i = tt
turns_more x j k (t ∷ ts) f i = ((λ u a h. i.0 u a (f u (inr a) h)), turns_more x j k ts (λ u a h. f u (inr a) h) i.1)

-- where no entry is
no_turns : (x : ObjectCourse) (j : List Entry) (ts : List Ticket) → ((u : Ticket) → Among u ts → HasEntry u j → ⊥) → InTurn x j ts
no_turns x j [] f = tt
no_turns x j (t ∷ ts) f = ((λ u a h. absurd (f u (inr a) h)), no_turns x j ts (λ u a h. f u (inr a) h))

pub ticket_by_ticket : (x : ObjectCourse) (s : State) (j : List Entry) (ts : List Ticket) → Apart ts → Flow x s j ts → IsTicketByTicket x j ts
ticket_by_ticket x s j [] apart f = record { order = f.0; parts = tt; turns = tt }
ticket_by_ticket x s j (t ∷ ts) apart (p, inl g) =
    let ih = ticket_by_ticket x (replay s p.ran) p.later ts apart.1 g.2 in
    let clear = clear_later x s t ts j p (inl g) t apart.0 in
    let same_entries = later_same x s t ts j p apart.0 in
    record {
      order = joined_is x s t ts j p apart.0 clear (ih.order ∙ flat_map_same _ _ ts same_entries);
      parts = (first_part x s t ts j p apart.0 clear, each_both_parts same_entries ih.parts);
      turns = ((λ u a h. (g.0, g.1)), turns_more x j p.later ts (λ u a h. has_later x s t ts j p apart.0 u (among_apart t u ts apart.0 a) h) ih.turns);
    }
  where
    each_both_parts : AllByRecursion (λ u. entries_of u p.later ≡ entries_of u j) ts → AllByRecursion (PartIs x p.later) ts → AllByRecursion (PartIs x j) ts
    each_both_parts e k = go ts e k
      where
        go : (us : List Ticket) → AllByRecursion (λ u. entries_of u p.later ≡ entries_of u j) us → AllByRecursion (PartIs x p.later) us → AllByRecursion (PartIs x j) us
        go [] e k = tt
        go (u ∷ us) e k = (k.0 ∙ ap (λ (xs : List Entry). without_tickets xs ++ map command_event (x.waits u)) e.0, go us e.1 k.1)
ticket_by_ticket x s j (t ∷ ts) apart (p, inr g) =
    let clear = clear_later x s t ts j p (inr g) t apart.0 in
    let same_entries = later_same x s t ts j p apart.0 in
    let none : AllByRecursion (λ u. entries_of u j ≡ []) ts = each_map (λ u (e : entries_of u p.later ≡ entries_of u j). sym e ∙ ap (entries_of u) g.1) ts same_entries in
    record {
      order = joined_is x s t ts j p apart.0 clear (g.1 ∙ sym (flat_map_none _ ts none));
      parts = (first_part x s t ts j p apart.0 clear, waiting_parts ts none g.2);
      turns = (
        (λ u a h. absurd (no_later u a h)),
        no_turns x j ts no_later,
      );
    }
  where
    no_later : (u : Ticket) → Among u ts → HasEntry u j → ⊥
    no_later u a h = subst (HasEntry u) g.1 (has_later x s t ts j p apart.0 u (among_apart t u ts apart.0 a) h)

    waiting_parts : (us : List Ticket) → AllByRecursion (λ u. entries_of u j ≡ []) us → AllByRecursion (λ u. OnlyCommands (x.parts u) (x.waits u)) us → AllByRecursion (PartIs x j) us
    waiting_parts [] e k = tt
    waiting_parts (u ∷ us) e k = (k.0.0 ∙ ap (λ (xs : List Entry). without_tickets xs ++ map command_event (x.waits u)) (sym e.0), waiting_parts us e.1 k.1)

-- a block record with one event more, and what is left then
abbrev pub advance : BlockRecord → Event → Interaction → BlockRecord
advance pg e next = record { entry = pg.entry; trace = pg.trace ++ e ∷ []; rest = next }
