-- What is told of whole blocks that run one after another: further actors are told behind those before, and in the end
-- the lines of all are those of the order. The loops over the turns of a block and over the blocks stand on this.
use Rattle.std.proofs.Common.{◌≡◌, ◌∙◌, ◌+◌, ◌++◌, ◌∷◌, [], ℕ, false, List, length, refl, sym, ap, subst, cond, append_assoc, append-nil, arith}
use Rattle.qs_steps.proofs.Names.{Actor, AreCodes, AreTold, ClientCode, CoreGoes, CoreKept, CoreState, GoesOn, HasGoneOn, IsCoreQuiet, IsFit, IsFreshCore, IsOrderTold}
use Rattle.qs_steps.proofs.Names.{IsOrderToldIn, IsQuiet, LeadTo, Mode, PlayOrderIn, Played, ProgramShape, RulesState, View, Wanted, WasReached}
use Rattle.qs_steps.proofs.Names.{begin, codes_of, configuration_after, core_begin, core_of, core_order_steps, core_played, core_plays, core_step, core_told, core_view}
use Rattle.qs_steps.proofs.Names.{length-append, lines_by, named_append, order_of, plain_of, plain_order_steps, plain_told, played_of, plays, rules_view}
use Rattle.qs_steps.proofs.Names.{step, turn_of}
use Rattle.qs_program.specs.Sound.{IsSound}
use Rattle.qs_plain.proofs.Blocks as rules
use Rattle.qs_core_laws.proofs.CoreSteps.{HasInvariant, run_kept}
use Rattle.qs_core.proofs.CoreBlocks as optimised
use Rattle.qs_steps.specs.declared.orders.Lines.{Lines}
use Rattle.qs_steps.specs.CoreQueues as core
use Rattle.qs_steps.specs.PlainQueues as plain
use Rattle.qs_steps.proofs.TellingRuns.{more_told, none_lead}

module _ {M : Type 0} (v : View M) (p : ProgramShape) where
  -- before the first
  pub gone_none : (l : Lines) (s : M) → HasGoneOn v p l s l s
  gone_none l s = (
    [],
    record {
      form = refl;
      named = refl;
      actors = sym (append-nil l.actors.items);
      told = record { lead = none_lead v s; text = sym (append-nil l.text.items) };
    },
  )

  -- further actors
  pub gone_on : (ys : List Actor) (old : Lines) (s : M) (mid : Lines) (m : M) (new : Lines) (t : M) → HasGoneOn v p old s mid m → GoesOn v p ys mid m new t → HasGoneOn v p old s new t
  gone_on ys old s mid m new t (xs, first) next =
      let number : 1 + length mid.actors.items ≡ (1 + length old.actors.items) + length xs = omega (arith, ap length first.actors, length-append old.actors.items xs) in (
        xs ++ ys,
        record {
          form = next.form ∙ first.form;
          named = named_append p xs ys first.named next.named;
          actors = next.actors ∙ ap (λ l. l ++ ys) first.actors ∙ append_assoc old.actors.items xs ys;
          told = more_told v old.form p false (1 + length old.actors.items) (1 + length mid.actors.items) xs ys _ _ _ _ _ _ first.told
              (subst (λ f. AreTold v f p false (1 + length mid.actors.items) ys mid.text.items m new.text.items t) first.form next.told) number;
        },
      )

  pub gone_join : (old : Lines) (s : M) (mid : Lines) (m : M) (new : Lines) (t : M) → HasGoneOn v p old s mid m → HasGoneOn v p mid m new t → HasGoneOn v p old s new t
  gone_join old s mid m new t first (ys, next) = gone_on ys old s mid m new t first next

-- actors that lead the optimised machine on, as its own definitions say it
pub goes_by_lead : (actors : List Actor) (s t : CoreState) → LeadTo core_view actors s t → CoreGoes s actors t
goes_by_lead actors s t lead = record {
  program = ap (λ (k : CoreKept). k.program) lead.kept;
  size = ap (λ (k : CoreKept). k.size) lead.kept;
  codes = ap (λ (k : CoreKept). k.code) lead.kept;
  played = lead.state;
}

-- what holds of each state of the optimised machine that was reached
pub fit_of_reached : (p : ProgramShape) (s : CoreState) → IsSound p → WasReached p s → IsFit s
fit_of_reached p s sound (mode, size, actors, on) =
    let whole : IsSound s.program = subst IsSound (sym on.program) sound in
    let codes : AreCodes s.program mode (codes_of s) = subst (λ q. AreCodes q mode (codes_of s)) (sym on.program) on.codes in
    record {
      sound = whole;
      mode = mode;
      codes = codes;
      kept = subst (HasInvariant s.program whole mode (codes_of s) codes s.size)
          ((λ k. core_plays (codes_of s) (on.size k) actors (core_begin (on.program k))) ∙ sym on.played)
          (run_kept s.program whole mode (codes_of s) codes s.size actors);
    }

-- a turn that was told
pub turn_goes : (p : ProgramShape) (s t : CoreState) (c : ℕ) (turn : List Actor) (old new : Lines) → s.program ≡ p → turn ≡ turn_of p c → GoesOn core_view p turn old s new t
    → CoreGoes s (turn_of s.program c) t
turn_goes p s t c turn old new own is on =
    subst (λ xs. CoreGoes s xs t) (is ∙ ap (λ q. turn_of q c) (sym own)) (goes_by_lead turn s t on.told.lead)

-- the program stays the same
pub same_program : (p : ProgramShape) (s t : CoreState) (old new : Lines) → s.program ≡ p → HasGoneOn core_view p old s new t → t.program ≡ p
same_program p s t old new own gone = ap (λ (k : CoreKept). k.program) gone.1.told.lead.kept ∙ own

-- a turn that was told under the plain rules
pub rules_turned : (p q : ProgramShape) (s n : RulesState) (turn actors : List Actor) (old new : Lines) → s.program ≡ q → turn ≡ actors → GoesOn rules_view p turn old s new n
    → plain_of n ≡ plays q actors (plain_of s)
rules_turned p q s n turn actors old new own is on = on.told.lead.state ∙ (λ k. plays (own k) (is k) (plain_of s))

-- all blocks of the order were played in the optimised machine, from a fresh one
module _ (p : ProgramShape) (mode : Mode) (size : ℕ) (clients : List ℕ) (wanted : Wanted) (first s : CoreState) (none lines : Lines) (fresh : IsFreshCore p mode size first)
    (form : none.form ≡ wanted.form) (empty : none.actors.items ≡ []) (blank : none.text.items ≡ []) (gone : HasGoneOn core_view p none first lines s)
    (now : optimised.ArePlayed p mode size clients [] s) where
  abbrev code : ℕ → ClientCode
  code = codes_of first

  abbrev asked : List Actor
  asked = gone.0

  pub core_there : core_of s ≡ core_plays code size asked (core_begin p)
  core_there = gone.1.told.lead.state ∙ (λ k. core_plays code (fresh.size k) asked (fresh.begins k))

  same_order : order_of clients ≡ s.order
  same_order = now.whole ∙ append-nil s.order

  pub core_order_text : lines.text.items ≡ core_order_steps p code size wanted.form asked
  core_order_text =
      gone.1.told.text
      ∙ (λ k. blank k ++ lines_by (core_step code (fresh.size k)) (form k) p (core_told (form k) (fresh.program k) code (fresh.size k)) false (1 + length (empty k)) asked (fresh.begins k))

  pub core_order_in : PlayOrderIn p code size (order_of clients) asked
  core_order_in = record {
    named = gone.1.named;
    quiet = subst (λ x. IsCoreQuiet (order_of clients) (configuration_after p (order_of clients)).begun x) core_there
        (subst (λ o. IsCoreQuiet o (configuration_after p o).begun (core_of s)) (sym same_order) now.quiet);
  }

  pub core_order_told : (steps queues : List ℕ) (played : Played) → steps ≡ cond wanted.steps lines.text.items []
      → queues ≡ cond wanted.queues (core.queues_in wanted.form s.program (codes_of s) s.size (core_of s)) [] → played ≡ core_played s.program (core_of s)
      → IsOrderToldIn p mode size (order_of clients) wanted steps queues played
  core_order_told steps queues played is lie shown =
      let kept = gone.1.told.lead.kept in
      let program : s.program ≡ p = ap (λ (k : CoreKept). k.program) kept ∙ fresh.program in
      let own : codes_of s ≡ code = ap (λ (k : CoreKept). k.code) kept in
      let long : s.size ≡ size = ap (λ (k : CoreKept). k.size) kept ∙ fresh.size in
      record {
        code = code;
        codes = fresh.codes;
        actors = asked;
        play = core_order_in;
        are = is ∙ ap (λ l. cond wanted.steps l []) core_order_text;
        lie = lie ∙ (λ k. cond wanted.queues (core.queues_in wanted.form (program k) (own k) (long k) (core_there k)) []);
        shown = shown ∙ (λ k. core_played (program k) (core_there k));
      }

-- and under the plain rules
module _ (p : ProgramShape) (clients : List ℕ) (wanted : Wanted) (first s : RulesState) (none lines : Lines) (program : first.program ≡ p) (begins : plain_of first ≡ begin p)
    (form : none.form ≡ wanted.form) (empty : none.actors.items ≡ []) (blank : none.text.items ≡ []) (gone : HasGoneOn rules_view p none first lines s)
    (now : rules.ArePlayed p clients [] s) where
  abbrev turns : List Actor
  turns = gone.0

  pub rules_there : plain_of s ≡ plays p turns (begin p)
  rules_there = gone.1.told.lead.state ∙ (λ k. plays (program k) turns (begins k))

  the_order : order_of clients ≡ s.order
  the_order = now.whole ∙ append-nil s.order

  pub rules_order_text : lines.text.items ≡ plain_order_steps wanted.form p turns
  rules_order_text =
      gone.1.told.text
      ∙ (λ k. blank k ++ lines_by (step (program k)) (form k) p (plain_told (form k) (program k)) false (1 + length (empty k)) turns (begins k))

  pub rules_order_told : (steps queues : List ℕ) (played : Played) → steps ≡ cond wanted.steps lines.text.items []
      → queues ≡ cond wanted.queues (plain.queues_in wanted.form s.program (plain_of s)) [] → played ≡ played_of s.program (plain_of s)
      → IsOrderTold p (order_of clients) wanted steps queues played
  rules_order_told steps queues played is lie shown =
      let own : s.program ≡ p = gone.1.told.lead.kept ∙ program in
      record {
        actors = turns;
        play = record {
          named = gone.1.named;
          quiet = subst (λ x. IsQuiet p (order_of clients) (configuration_after p (order_of clients)).begun x) rules_there
              (subst (λ o. IsQuiet p o (configuration_after p o).begun (plain_of s)) (sym the_order) now.quiet);
        };
        are = is ∙ ap (λ l. cond wanted.steps l []) rules_order_text;
        lie = lie ∙ (λ k. cond wanted.queues (plain.queues_in wanted.form (own k) (rules_there k)) []);
        shown = shown ∙ (λ k. played_of (own k) (rules_there k));
      }
