-- The text of an end tells its objects and the variables that texts name, hence the outcome: it is cut line by line, each
-- of which ends in a line's end.
use Rattle.std.proofs.Common.{◌≡◌, ◌<◌, ◌++◌, ℕ, List, [], ◌∷◌, codes, length, get_or, ap, arith, inl}
use Rattle.qs_objects.specs.declared.held.Ticket.{Ticket}
use Rattle.qs_program.specs.audit.Program.{ProgramShape, client_at, object_at}
use Rattle.qs_program.specs.Sound.{IsSound}
use Rattle.qs_meaning.specs.audit.Serial.{zeros}
use Rattle.qs_outcomes.specs.Outcomes.{IsListedAfter}
use Rattle.qs_standings.specs.Standings.{StandingShape}
use Rattle.qs_text.specs.TellApart.{AreSame, IsEndOfWords}
use Rattle.qs_text.specs.audit.Texts.{texts_up_to}
use Rattle.qs_text.specs.Variables.{variables_text}
use Rattle.qs_text.specs.audit.Words.{no_state, state_text}
use Rattle.qs_text.proofs.SameEnds.{in_range, same_outcome}
use Rattle.qs_text.proofs.TellApart.{cancel, regroup, state_tells, texts_tell, variables_tell}
use Rattle.qs_report.specs.EndsText.{EndsTellApart}
use Rattle.qs_report.specs.OutcomesText.{client_line, object_line}

tail : {x y : ℕ} {xs ys : List ℕ} → ◌≡◌ {A = List ℕ} (x ∷ xs) (y ∷ ys) → xs ≡ ys
tail e = cc

module _ (p : ProgramShape) (sound : IsSound p) (front other : List Ticket) (s t : StandingShape) (a : IsListedAfter p front s)
    (b : IsListedAfter p other t) (v : IsEndOfWords p s) (w : IsEndOfWords p t) where
  abbrev SameObject : ℕ → Type 0
  SameObject h = get_or s.states h no_state ≡ get_or t.states h no_state

  abbrev SameClient : ℕ → Type 0
  SameClient c = AreSame (length (client_at p c).variables) (get_or s.locals c zeros) (get_or t.locals c zeros)

  object_tells : (h : ℕ) → h < length p.objects → (us vs : List ℕ) → object_line p s h ++ us ≡ object_line p t h ++ vs → SameObject h × (us ≡ vs)
  object_tells h less us vs e =
      let name = (object_at p h).name in let own = get_or s.states h no_state in let its = get_or t.states h no_state in
      let both = state_tells name own its (10 ∷ us) (10 ∷ vs) (in_range p sound front s a h) (in_range p sound other t b h) (v.objects h less) (w.objects h less)
      (inl (omega arith)) (inl (omega arith)) (regroup (state_text name own) (codes "\n") (state_text name its) (codes "\n") us vs e) in
      (both.0, tail both.1)

  client_tells : (c : ℕ) → c < length p.clients → (us vs : List ℕ) → client_line p s c ++ us ≡ client_line p t c ++ vs → SameClient c × (us ≡ vs)
  client_tells c less us vs e =
      let name = (client_at p c).name in let names = (client_at p c).variables in
      let own = get_or s.locals c zeros in let its = get_or t.locals c zeros in
      let both = variables_tell names own its (v.clients c less) (w.clients c less) (10 ∷ us) (10 ∷ vs) (inl (omega arith)) (inl (omega arith))
      (cancel name (variables_text names own ++ 10 ∷ us) (variables_text names its ++ 10 ∷ vs)
      (regroup name (variables_text names own) name (variables_text names its) (10 ∷ us) (10 ∷ vs)
      (regroup (name ++ variables_text names own) (codes "\n") (name ++ variables_text names its) (codes "\n") us vs e))) in
      (both.0, tail both.1)

  abbrev objects : StandingShape → List ℕ
  objects x = texts_up_to (length p.objects) (object_line p x)

  abbrev clients : StandingShape → List ℕ
  clients x = texts_up_to (length p.clients) (client_line p x)

  pub end_tells : codes "end\n" ++ objects s ++ clients s ≡ codes "end\n" ++ objects t ++ clients t
      → ((h : ℕ) → h < length p.objects → SameObject h) × ((c : ℕ) → c < length p.clients → SameClient c)
  end_tells e =
      let first = texts_tell (object_line p s) (object_line p t) SameObject (λ us. Unit {0}) (λ i us. (tt, tt)) (length p.objects)
      (λ h less us vs x y e. object_tells h less us vs e) (length p.objects) (omega arith) (clients s) (clients t) tt tt
      (cancel (codes "end\n") (objects s ++ clients s) (objects t ++ clients t)
      (regroup (codes "end\n") (objects s) (codes "end\n") (objects t) (clients s) (clients t) e)) in
      let second = texts_tell (client_line p s) (client_line p t) SameClient (λ us. Unit {0}) (λ i us. (tt, tt)) (length p.clients)
      (λ c less us vs x y e. client_tells c less us vs e) (length p.clients) (omega arith) [] [] tt tt (ap (λ l. l ++ []) first.1) in
      (first.0, second.0)

pub ends_tell_apart : EndsTellApart
ends_tell_apart p sound front other s t a b v w e =
    let same = end_tells p sound front other s t a b v w e in same_outcome p sound front other s t a b same.0 same.1
