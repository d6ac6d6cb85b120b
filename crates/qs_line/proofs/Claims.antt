-- A line's claim is that of a text which was read as a condition, whichever words stand beside it: what a word asks for
-- is found test by test, and each request with a claim comes of one place.
use Rattle.std.proofs.Common.{arith, ◌≡◌, ◌∙◌, Bool, true, false, ℕ, List, [], ◌∷◌, codes, Option, Some, None, Result, Ok, Err, if◌then◌else◌, ◌&&◌, ◌⊎◌, not, inl, inr, refl, sym, ap, subst}
use Rattle.std.specs.Prelude.{◌+◌, ◌==◌, ◌++◌, option_and_then, option_map, unwrap_or}
use Rattle.std.specs.List.{AllByRecursion, slice_split}
use Rattle.std.specs.Option.{option_map_or}
use Rattle.std.specs.Str.{bytes_eq}
use Rattle.std.proofs.lemmas.Bool.{false_from_ne_true}
use Rattle.std.proofs.lemmas.Slice.Eq.{bytes_eq-Decides}
use Rattle.clap.specs.Faults.{fault_of}
use Rattle.clap.specs.Kinds.{Kinds}
use Rattle.clap.specs.Words.{Row, Text, all_of, first_of, subcommand_of}
use Rattle.clap.specs.declared.error.kind.ErrorKind.{ErrorKind}
use Rattle.qs_conditions.specs.Conditions.{Tree, steps_of}
use Rattle.qs_conditions.specs.Reading.{tree_of}
use Rattle.qs_conditions.specs.Reads.{condition_in, sum_in, steps_by_signs, steps_by_tree}
use Rattle.qs_conditions.specs.Signs.{signs_of}
use Rattle.qs_conditions.specs.declared.condition.Summand.{Summand}
use Rattle.qs_line.specs.declared.line.Asking.{Asking}
use Rattle.qs_line.specs.declared.line.Asking.TheVariants as asking
use Rattle.qs_line.specs.declared.question.Question.{Question}
use Rattle.qs_line.specs.declared.question.Question.TheVariants as question
use Rattle.qs_conditions.specs.declared.claim.Quantifier.{Quantifier}
use Rattle.qs_conditions.specs.declared.claim.Quantifier.TheVariants as quantifier
use Rattle.qs_conditions.specs.declared.condition.Step.{Step}
use Rattle.qs_conditions.specs.declared.fault.ConditionFault.{ConditionFault}
use Rattle.qs_conditions.specs.declared.signs.Placed.{Placed}
use Rattle.qs_line.proofs.Answering.{other_line}
use Rattle.qs_line.specs.Claims.{ClaimsHaveConditions, HaveConditions, IsOfCondition, ScriptClaimsHaveConditions}
use Rattle.qs_line.specs.ScriptClaims.{claim_on, claim_parts, claim_said, claims_from, claims_in, claims_on, quantifier_in}
use Rattle.qs_line.specs.audit.Apart.{flag_at, has_apart}
use Rattle.qs_line.specs.audit.Parts.{each_in}
use Rattle.qs_line.specs.audit.RunLines.{run_by, run_in, run_of_word, runs_at, style_of}
use Rattle.qs_line.specs.RunLines.{LinesOfRunsAreThese, RunsAreLines}
use Rattle.qs_line.specs.declared.line.ReportStyle.{ReportStyle}
use Rattle.qs_line.specs.audit.Command.{qs_app}
use Rattle.qs_line.specs.audit.Line.{Request, alike, ask, asks, asks_language, check, chunk_at, estimate, fronts, graph, has_times, help, mode_at, outcomes, plan_at, play, play_at, rules, rules_at, run, single_run_at, style_at, styled_plan_at, syncs, tally}
use Rattle.qs_line.specs.Line.{alike_at, ask_at, blocks_at, check_at, estimate_at, format_at, front_at, fronts_at, graph_at, graph_format_at, leads_at, limit_at, line_by, line_in, line_met, line_of_kind, list_at, outcomes_at, outcomes_format_at, question_in, questions_at, questions_by, request_at, request_met, request_of_word, setting_name, syncs_at, tally_at, threads_at, threads_beside, times_at}

by_tree : (t : Result Tree ℕ) (steps : List Step) → steps_by_tree t ≡ Some steps → (c : Tree) × (steps ≡ steps_of c)
by_tree (Ok c) steps e = (c, (let h : steps_of c ≡ steps = cc e in sym h))
by_tree (Err left) steps e = absurd (cc e)

by_signs : (ts : Result (List Placed) ConditionFault) (steps : List Step) → steps_by_signs ts ≡ Some steps → (c : Tree) × (steps ≡ steps_of c)
by_signs (Ok ts) steps e = by_tree (tree_of ts) steps e
by_signs (Err f) steps e = absurd (cc e)

of_steps : (line : ℕ) (q : Quantifier) (o : Option (List Step)) (claim : Question) → ((steps : List Step) → o ≡ Some steps → (c : Tree) × (steps ≡ steps_of c))
    → option_map (λ steps. question.Claim (record { line = line; quantifier = q; condition = steps })) o ≡ Some claim → IsOfCondition claim
of_steps line q None claim are e = absurd (cc e)
of_steps line q (Some steps) claim are e = let h : question.Claim (record { line = line; quantifier = q; condition = steps }) ≡ claim = cc e in subst IsOfCondition h (are steps refl)

of_sum : (o : Option (List Summand)) (claim : Question) → option_map question.Values o ≡ Some claim → IsOfCondition claim
of_sum None claim e = absurd (cc e)
of_sum (Some sum) claim e = let h : question.Values sum ≡ claim = cc e in subst IsOfCondition h tt

in_text : (how : Asking) (text : Text) (claim : Question) → question_in how text ≡ Some claim → IsOfCondition claim
in_text (asking.Claims q) text claim e = of_steps 0 q (condition_in text) claim (by_signs (signs_of text)) e
in_text asking.Values text claim e = of_sum (sum_in text) claim e

-- the claims of texts, where each is a condition
each_of : (one : Text → Option Question) → ((text : Text) (claim : Question) → one text ≡ Some claim → IsOfCondition claim)
    → (texts : List Text) (claims : List Question) → each_in one texts ≡ Some claims → AllByRecursion IsOfCondition claims
each_of one are [] claims e = let h : [] ≡ claims = cc e in subst (AllByRecursion IsOfCondition) h tt
each_of one are (text ∷ texts) claims e = by (one text) (each_in one texts) (are text) (each_of one are texts) e
  where
    by : (o : Option Question) (os : Option (List Question)) → ((claim : Question) → o ≡ Some claim → IsOfCondition claim)
        → ((rest : List Question) → os ≡ Some rest → AllByRecursion IsOfCondition rest)
        → option_and_then (λ first. option_map (λ rest. first ∷ rest) os) o ≡ Some claims → AllByRecursion IsOfCondition claims
    by None os its rests f = absurd (cc f)
    by (Some first) None its rests f = absurd (cc f)
    by (Some first) (Some rest) its rests f =
        let h : first ∷ rest ≡ claims = cc f in subst (AllByRecursion IsOfCondition) h (its first refl, rests rest refl)

joined : (xs ys : List Question) → AllByRecursion IsOfCondition xs → AllByRecursion IsOfCondition ys
    → AllByRecursion IsOfCondition (xs ++ ys)
joined [] ys a b = b
joined (x ∷ xs) ys a b = (a.0, joined xs ys a.1 b)

-- the claim that a word and a text on a line of a script make, and those of its lines
said : (line : ℕ) (word rest : List ℕ) (claim : Question) → claim_said line word rest ≡ Some claim → IsOfCondition claim
said line word rest claim e = by (quantifier_in word) e
  where
    by : (o : Option Quantifier) → option_and_then (λ q. claim_on line q rest) o ≡ Some claim → IsOfCondition claim
    by None f = absurd (cc f)
    by (Some q) f = of_steps line q (condition_in rest) claim (by_signs (signs_of rest)) f

on_line : (line : ℕ) (text : List ℕ) (claims : List Question) → claims_on line text ≡ Some claims → AllByRecursion IsOfCondition claims
on_line line text claims e = by (claim_parts text) e
  where
    by_claim : (o : Option Question) → ((claim : Question) → o ≡ Some claim → IsOfCondition claim) → option_map (λ claim. claim ∷ []) o ≡ Some claims
        → AllByRecursion IsOfCondition claims
    by_claim None are f = absurd (cc f)
    by_claim (Some claim) are f = let h : claim ∷ [] ≡ claims = cc f in subst (AllByRecursion IsOfCondition) h (are claim refl, tt)

    by : (o : Option (List ℕ × List ℕ)) → option_map_or (λ (parts : List ℕ × List ℕ). option_map (λ claim. claim ∷ []) (claim_said line parts.0 parts.1)) o (Some []) ≡ Some claims
        → AllByRecursion IsOfCondition claims
    by None f = let h : [] ≡ claims = cc f in subst (AllByRecursion IsOfCondition) h tt
    by (Some parts) f = by_claim (claim_said line parts.0 parts.1) (said line parts.0 parts.1) f

-- those of a line and of what follows it
after_line : (line : ℕ) (before : List Question) (texts : List (List ℕ)) (claims : List Question)
    → ((own : List Question) → AllByRecursion IsOfCondition own → claims_from (line + 1) (before ++ own) texts ≡ Some claims → AllByRecursion IsOfCondition claims)
    → (o : Option (List Question)) → ((own : List Question) → o ≡ Some own → AllByRecursion IsOfCondition own)
    → option_and_then (λ own. claims_from (line + 1) (before ++ own) texts) o ≡ Some claims → AllByRecursion IsOfCondition claims
after_line line before texts claims follow None its e = absurd (cc e)
after_line line before texts claims follow (Some own) its e = follow own (its own refl) e

from_lines : (line : ℕ) (before : List Question) (texts : List (List ℕ)) → AllByRecursion IsOfCondition before
    → (claims : List Question) → claims_from line before texts ≡ Some claims → AllByRecursion IsOfCondition claims
from_lines line before [] are claims e = let h : before ≡ claims = cc e in subst (AllByRecursion IsOfCondition) h are
from_lines line before (text ∷ texts) are claims e =
    after_line line before texts claims
    (λ own its is. from_lines (line + 1) (before ++ own) texts (joined before own are its) claims is)
    (claims_on line text) (on_line line text) e

pub script_claims_have_conditions : ScriptClaimsHaveConditions
script_claims_have_conditions text claims e = from_lines 1 [] (slice_split (λ byte. byte == 10) text) tt claims e

of_setting : (how : Asking) (rows : List Row) (before : Option (List Question))
    → ((claims : List Question) → before ≡ Some claims → AllByRecursion IsOfCondition claims)
    → (claims : List Question) → questions_by how rows before ≡ Some claims → AllByRecursion IsOfCondition claims
of_setting how rows None are claims e = absurd (cc e)
of_setting how rows (Some first) are claims e =
    by (each_in (question_in how) (unwrap_or (all_of (setting_name how) rows) []))
    (each_of (question_in how) (in_text how) (unwrap_or (all_of (setting_name how) rows) [])) e
  where
    by : (o : Option (List Question)) → ((own : List Question) → o ≡ Some own → AllByRecursion IsOfCondition own)
        → option_map (λ own. first ++ own) o ≡ Some claims → AllByRecursion IsOfCondition claims
    by None its f = absurd (cc f)
    by (Some own) its f =
        let h : first ++ own ≡ claims = cc f in
        subst (AllByRecursion IsOfCondition) h (joined first own (are first refl) (its own refl))

of_rows : (rows : List Row) (claims : List Question) → questions_at rows ≡ Some claims → AllByRecursion IsOfCondition claims
of_rows rows claims e =
    of_setting asking.Values rows _ (of_setting (asking.Claims quantifier.Never) rows _
    (of_setting (asking.Claims quantifier.Ever) rows _ (of_setting (asking.Claims quantifier.Throughout) rows _
    (of_setting (asking.Claims quantifier.Some) rows _ (of_setting (asking.Claims quantifier.Always) rows (Some [])
    (λ none is. let h : [] ≡ none = cc is in subst (AllByRecursion IsOfCondition) h tt)))))) claims e

-- a request that is of no run and has its condition, if it asks a claim
abbrev IsPlain : Request → Type 0
IsPlain q = HaveConditions q × (style_of q ≡ None)

-- what is asked for is such a request, where something is
module _ (Is : Request → Type 0) where
  abbrev Has : Option Request → Type 0
  Has r = (q : Request) → r ≡ Some q → Is q

  none : Has None
  none q e = absurd (cc e)

  test : (b : Bool) (x y : Option Request) → Has x → Has y → Has (if b then x else y)
  test true x y a b = a
  test false x y a b = b

  each : {A : Type 0} (f : A → Request) (o : Option A) → ((a : A) → Is (f a)) → Has (option_map f o)
  each f None all q e = absurd (cc e)
  each f (Some a) all q e = let h : f a ≡ q = cc e in subst Is h (all a)

  next : {A : Type 0} (f : A → Option Request) (o : Option A) → ((a : A) → o ≡ Some a → Has (f a)) → Has (option_and_then f o)
  next f None all q e = absurd (cc e)
  next f (Some a) all q e = all a refl q e

module _ (word : Text) (rows : List Row) where
  tallies : Has IsPlain (tally_at rows)
  tallies = next IsPlain _ (format_at rows) (λ how e. next IsPlain _ (mode_at rows) (λ mode f. next IsPlain _ (chunk_at rows) (λ chunk g. each IsPlain (tally how mode chunk) (times_at rows) (λ times. (tt, refl)))))

  answers : Has IsPlain (ask_at rows)
  answers = next IsPlain _ (questions_at rows) (λ claims is. next IsPlain _ (format_at rows) (λ how e. next IsPlain _ (limit_at rows) (λ limit f. next IsPlain _ (threads_at rows) (λ threads g. each IsPlain (ask claims how limit threads) (front_at rows) (λ front. (of_rows rows claims is, refl))))))

  lists : Has IsPlain (list_at rows)
  lists = next IsPlain _ (outcomes_format_at rows) (λ how e. next IsPlain _ (limit_at rows) (λ limit f. next IsPlain _ (threads_beside how rows) (λ threads g. each IsPlain (outcomes how limit threads) (front_at rows) (λ front. (tt, refl)))))

  those_fronts : Has IsPlain (fronts_at rows)
  those_fronts = next IsPlain _ (format_at rows) (λ how e. next IsPlain _ (blocks_at rows) (λ blocks f. next IsPlain _ (limit_at rows) (λ limit g. each IsPlain (fronts how blocks limit) (leads_at rows) (λ orders. (tt, refl)))))

  -- what is asked for is plain, or it is the run that is asked for
  abbrev Either : (r s : Option Request) → Type 0
  Either r s = (q : Request) → r ≡ Some q → IsPlain q ⊎ (s ≡ Some q)

  plain : (r s : Option Request) → Has IsPlain r → Either r s
  plain r s has q e = inl (has q e)

  same : (r : Option Request) → Either r r
  same r q e = inr e

  choose : (b : Bool) (r x y : Option Request) → Either x y → Either (if b then r else x) (if b then r else y)
  choose true r x y p = same r
  choose false r x y p = p

  past : (b : Bool) (r x s : Option Request) → Has IsPlain r → Either x s → Either (if b then r else x) s
  past true r x s p q = plain r s p
  past false r x s p q = q

  of_run : (named timed : Bool) (last : Option Request) → Has IsPlain last → Either (if named then (if timed then tally_at rows else single_run_at rows) else last)
      (if named && not timed then single_run_at rows else None)
  of_run true true last h = plain (tally_at rows) None tallies
  of_run true false last h = same (single_run_at rows)
  of_run false timed last h = plain last None h

  of_word_alone : Either (request_of_word word rows) (run_of_word word rows)
  of_word_alone =
      past (bytes_eq word (codes "check")) (check_at rows) _ (run_of_word word rows) (each IsPlain check (format_at rows) (λ how. (tt, refl)))
      (past (bytes_eq word (codes "graph")) (graph_at rows) _ (run_of_word word rows) (each IsPlain graph (graph_format_at rows) (λ how. (tt, refl)))
      (choose (bytes_eq word (codes "rules")) (rules_at rows) _ _
      (choose (bytes_eq word (codes "play")) (play_at rows) _ _
      (of_run (bytes_eq word (codes "run")) (has_times rows) _
      (test IsPlain (bytes_eq word (codes "syncs")) (syncs_at rows) _ (next IsPlain _ (format_at rows) (λ how e. each IsPlain (syncs how) (plan_at rows) (λ plan. (tt, refl))))
      (test IsPlain (bytes_eq word (codes "outcomes")) (outcomes_at rows) _
      (test IsPlain (flag_at (codes "alike") rows) (alike_at rows) (list_at rows) (next IsPlain _ (format_at rows) (λ how e. each IsPlain (alike how) (limit_at rows) (λ limit. (tt, refl)))) lists)
      (test IsPlain (bytes_eq word (codes "ask")) (ask_at rows) _ answers
      (test IsPlain (bytes_eq word (codes "fronts")) (fronts_at rows) _ those_fronts
      (test IsPlain (bytes_eq word (codes "estimate")) (estimate_at rows) None
      (next IsPlain _ (format_at rows) (λ how e. each IsPlain (estimate how) (front_at rows) (λ front. (tt, refl)))) (none IsPlain))))))))))

  of_word : Either (request_at word rows) (runs_at word rows)
  of_word = choose (has_apart rows) None (request_of_word word rows) (run_of_word word rows) of_word_alone

  -- a run has a style
  abbrev IsStyled : Request → Type 0
  IsStyled q = (style : ReportStyle) × (style_of q ≡ Some style)

  runs_styled : Has IsStyled (runs_at word rows)
  runs_styled =
      test IsStyled (has_apart rows) None (run_of_word word rows) (none IsStyled)
      (test IsStyled (bytes_eq word (codes "rules")) (rules_at rows) _
      (next IsStyled _ (style_at rows) (λ style e. each IsStyled (rules style) (styled_plan_at style rows) (λ plan. (style, refl))))
      (test IsStyled (bytes_eq word (codes "play")) (play_at rows) _
      (next IsStyled _ (style_at rows) (λ style e. next IsStyled _ (mode_at rows) (λ mode f. next IsStyled _ (chunk_at rows) (λ chunk g. each IsStyled (play style mode chunk) (styled_plan_at style rows) (λ plan. (style, refl))))))
      (test IsStyled (bytes_eq word (codes "run") && not (has_times rows)) (single_run_at rows) None
      (next IsStyled _ (style_at rows) (λ style e. next IsStyled _ (mode_at rows) (λ mode f. each IsStyled (run style mode) (chunk_at rows) (λ chunk. (style, refl))))) (none IsStyled))))

-- a run that is asked for is what the word asks for
is_word : (word : Text) (bytes : List ℕ) → bytes_eq word bytes ≡ true → word ≡ bytes
is_word word bytes e = (bytes_eq-Decides word bytes).0 e

not_timed : (timed : Bool) (rows : List Row) (q : Request) → (if not timed then single_run_at rows else None) ≡ Some q
    → (if timed then tally_at rows else single_run_at rows) ≡ Some q
not_timed true rows q e = absurd (cc e)
not_timed false rows q e = e

abbrev Leads : List Row → Request → Text → Type 0
Leads rows q word = run_of_word word rows ≡ Some q → request_of_word word rows ≡ Some q

of_runs_alone : (word : Text) (rows : List Row) (q : Request) → Leads rows q word
of_runs_alone word rows q = by (bytes_eq word (codes "rules")) refl (bytes_eq word (codes "play")) refl (bytes_eq word (codes "run")) refl
  where
    by : (a : Bool) → bytes_eq word (codes "rules") ≡ a → (b : Bool) → bytes_eq word (codes "play") ≡ b → (c : Bool) → bytes_eq word (codes "run") ≡ c → Leads rows q word
    by true x b y c z = subst (Leads rows q) (sym (is_word word (codes "rules") x)) (λ e. e)
    by false x true y c z = subst (Leads rows q) (sym (is_word word (codes "play") y)) (λ e. e)
    by false x false y true z = subst (Leads rows q) (sym (is_word word (codes "run") z)) (not_timed (has_times rows) rows q)
    by false x false y false z = λ e. absurd (let none : run_of_word word rows ≡ None = rw (x, y, z) refl in let h : None ≡ Some q = sym none ∙ e in cc h)

of_runs : (word : Text) (rows : List Row) (q : Request) → runs_at word rows ≡ Some q → request_at word rows ≡ Some q
of_runs word rows q = by (has_apart rows)
  where
    by : (b : Bool) → (if b then None else run_of_word word rows) ≡ Some q → (if b then None else request_of_word word rows) ≡ Some q
    by true e = absurd (cc e)
    by false e = of_runs_alone word rows q e

-- a run's request has no claim
runs_have_none : (q : Request) (style : ReportStyle) → style_of q ≡ Some style → HaveConditions q
runs_have_none (ask claims how limit threads list) style e = absurd (cc e)
runs_have_none _ style e = tt

of_request : (r : Option Request) (request : Request) → line_met r ≡ asks request → r ≡ Some request
of_request None request e = absurd (cc e)
of_request (Some q) request e = let h : q ≡ request = cc e in ap Some h

no_kind : (kind : ErrorKind) (request : Request) → line_of_kind kind ≡ asks request → ⊥
no_kind kind request e = grind arith

of_kinds : (kinds : Kinds) (r : Option Request) (request : Request) → line_by kinds r ≡ asks request → (kinds ≡ []) × (r ≡ Some request)
of_kinds [] r request e = (refl, of_request r request e)
of_kinds (kind ∷ kinds) r request e = absurd (no_kind kind request e)

of_met : (entry : Option (Text × List Row)) (request : Request) → request_met entry ≡ Some request → HaveConditions request × ((style : ReportStyle) → style_of request ≡ Some style → run_by [] entry ≡ Some request)
of_met None request e = absurd (cc e)
of_met (Some entry) request e = by_case (of_word entry.0 entry.1 request e)
  where
    by_case : IsPlain request ⊎ (runs_at entry.0 entry.1 ≡ Some request) → HaveConditions request × ((style : ReportStyle) → style_of request ≡ Some style → runs_at entry.0 entry.1 ≡ Some request)
    by_case (inl plain) = (plain.0, λ style own. absurd (let h : None ≡ Some style = sym plain.1 ∙ own in cc h))
    by_case (inr is) = let own = runs_styled entry.0 entry.1 request is in (runs_have_none request own.0 own.1, λ style own. is)

the_page : (words : List Text) → asks_language words ≡ true → line_in words ≡ help
the_page words asked = rw asked refl

-- what a line that asks for something asks for is what the word that clap meets does
module _ (words : List Text) (request : Request) (e : line_in words ≡ asks request) where
  other : asks_language words ≡ false
  other = false_from_ne_true (asks_language words) (λ asked. let h : help ≡ asks request = sym (the_page words asked) ∙ e in cc h)

  met : (fault_of qs_app words ≡ []) × (request_met (subcommand_of qs_app words) ≡ Some request)
  met = of_kinds (fault_of qs_app words) (request_met (subcommand_of qs_app words)) request (sym (other_line words other) ∙ e)

pub claims_have_conditions : ClaimsHaveConditions
claims_have_conditions words request e = (of_met (subcommand_of qs_app words) request (met words request e).1).0

pub lines_of_runs_are_these : LinesOfRunsAreThese
lines_of_runs_are_these words request style e own =
    rw (other words request e, (met words request e).0) ((of_met (subcommand_of qs_app words) request (met words request e).1).1 style own)

run_of : (kinds : Kinds) (entry : Option (Text × List Row)) (request : Request) → run_by kinds entry ≡ Some request → line_by kinds (request_met entry) ≡ asks request
run_of [] None request e = absurd (cc e)
run_of [] (Some entry) request e = ap line_met (of_runs entry.0 entry.1 request e)
run_of (kind ∷ kinds) entry request e = absurd (cc e)

pub runs_are_lines : RunsAreLines
runs_are_lines words request e = by_case (asks_language words) refl
  where
    by_case : (b : Bool) → asks_language words ≡ b → line_in words ≡ asks request
    by_case true language = absurd (let none : run_in words ≡ None = rw language refl in let h : None ≡ Some request = sym none ∙ e in cc h)
    by_case false language =
        let is : run_in words ≡ run_by (fault_of qs_app words) (subcommand_of qs_app words) = rw language refl in
        other_line words language ∙ run_of (fault_of qs_app words) (subcommand_of qs_app words) request (sym is ∙ e)
