-- Each end of a chart has a number in a list of all outcomes after its front: the order that leads to the end is
-- complete, so its outcome is in the list, and says the same. The law on them, `EndsHaveNumbers`, is proved here.
use Rattle.qs_dot.proofs.Common.{◌≡◌, ℕ, suc, Bool, true, false, if◌then◌else◌, List, [], ◌∷◌, ◌++◌, length, codes, refl, sym, ap, ◌∙◌, subst, inl, inr, true≢false, IsComplete, IsListedAfter}
use Rattle.qs_dot.proofs.Common.{outcome_at, ProgramShape, client_at, object_at, has_map, HasOne, IsStanding, StandingShape, texts_up_to, end_text, holds_text, number_in, same_text, EndsHaveNumbers}
use Rattle.qs_dot.proofs.Common.{HasNumber}
use Rattle.std.specs.Cmp.Lexicographic.{bytes_decides}
use Rattle.qs_meaning.specs.Configurations.{OrderOutcome, outcome_of}
use Rattle.qs_outcomes.proofs.Explored.{listed_end}
use Rattle.qs_dot.proofs.Charting.{each_got}
use Rattle.qs_dot.proofs.Ends.{ends_are_outcomes}
use Rattle.qs_text.specs.Variables.{variables_text}

-- what an end says is said of its outcome
same_end : (p : ProgramShape) (t s : StandingShape) → outcome_at t ≡ outcome_at s → end_text p t ≡ end_text p s
same_end p t s e =
    ap (λ (o : OrderOutcome). texts_up_to (length p.objects) (λ h. holds_text (object_at p h).name (o.states h))
    ++ texts_up_to (length p.clients) (λ c. codes "\\n" ++ (client_at p c).name ++ variables_text (client_at p c).variables (o.locals c))) e

numbered : (p : ProgramShape) (text : List ℕ) (found : List StandingShape) → HasOne (λ t. end_text p t ≡ text) found → HasNumber p found text
numbered p text [] h = absurd h
numbered p text (t ∷ ts) h = by_case (same_text (end_text p t) text) refl h (numbered p text ts)
  where
    number : (b : Bool) → same_text (end_text p t) text ≡ b → number_in p text (t ∷ ts) ≡ (if b then 1 else suc (number_in p text ts))
    number b e = ap (λ (b : Bool). if b then 1 else suc (number_in p text ts)) e

    later_on : HasNumber p ts text → same_text (end_text p t) text ≡ false → HasNumber p (t ∷ ts) text
    later_on n e = (suc n.0, n.1, number false e ∙ ap suc n.2, n.3, n.4)

    by_case : (b : Bool) → same_text (end_text p t) text ≡ b → HasOne (λ t. end_text p t ≡ text) (t ∷ ts)
        → (HasOne (λ t. end_text p t ≡ text) ts → HasNumber p ts text) → HasNumber p (t ∷ ts) text
    by_case true e h later = (0, t, number true e, refl, (bytes_decides (end_text p t) text).0 e)
    by_case false e (inl same) later = absurd (true≢false (sym ((bytes_decides (end_text p t) text).1 same) ∙ e))
    by_case false e (inr more) later = later_on (later more) e

pub ends_have_numbers : EndsHaveNumbers
ends_have_numbers p front places leads all are led outcomes i s here none =
    let standing : IsStanding p front s = each_got (IsStanding p front) places i s here are.reached in
    let listed : IsListedAfter p front s = listed_end p front s standing ((ends_are_outcomes p places leads led i s here).0 none) in
    let whole : s.order ≡ front ++ listed.reduced.rest = listed.reduced.whole in
    let one = outcomes.complete listed.reduced.rest (subst (IsComplete p) whole listed.complete) in
    numbered p (end_text p s) all.found
    (has_map (λ t e. same_end p t s (e ∙ (ap (outcome_of p) (sym whole) ∙ sym listed.outcome))) all.found one)
