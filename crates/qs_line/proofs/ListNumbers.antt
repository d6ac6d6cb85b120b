-- A text of one letter, `c` or `h`, and one digit has no `@` at its front, so it is read as its actor, once; a list of
-- such texts is read as these actors, and names them. It goes by cases of the letter, and by induction on the list.
use Rattle.std.proofs.Common.{◌≡◌, ◌≤◌, ◌+◌, ◌==◌, ℕ, suc, false, List, [], ◌∷◌, length, map, Option, Some, None, Ok, Result, refl, ap, ap₂, ◌∙◌, arith, nat_le, if◌then◌else◌, option_map, option_and_then, unwrap_or}
use Rattle.std.specs.List.{fold, slice_split}
use Rattle.std.proofs.lemmas.List.{length-map}
use Rattle.std.proofs.lemmas.Bool.{le-leb}
use Rattle.std.proofs.lemmas.Bool.Decides.{nat_tests}
use Rattle.qs_played.specs.declared.schedule.actor.Actor.{Actor}
use Rattle.qs_played.specs.declared.schedule.actor.Actor.TheVariants.{Client}
use Rattle.qs_program.specs.audit.Program.{ProgramShape}
use Rattle.qs_line.specs.declared.parts.Part.{Part}
use Rattle.qs_line.specs.declared.fault.ListFault.{ListFault}
use Rattle.qs_line.specs.audit.Limits.{most_actors}
use Rattle.qs_line.specs.audit.Named.{actor_of, named_client, listed_from, repeated}
use Rattle.qs_line.specs.Numbers.{ClientNumbersStay, NumbersStay, numbers_of}
use Rattle.qs_line.specs.audit.Parts.{actor_in, has_handler, named_in, once, part_in, parts_of, within_limit, without_handlers}

by_letter : (l d : ℕ) (a : Actor) → actor_in (l ∷ d ∷ []) ≡ Some a → (l == 64) ≡ false
by_letter l d a e = grind (arith, nat_tests)

-- there is no `@` at the front
abbrev IsPlain : List ℕ → Type 0
IsPlain [] = ⊥
IsPlain (l ∷ rest) = (l == 64) ≡ false

plain : (text : List ℕ) (a : Actor) → actor_in text ≡ Some a → IsPlain text
plain [] a e = absurd (cc e)
plain (x ∷ []) a e = absurd (cc e)
plain (x ∷ y ∷ []) a e = by_letter x y a e
plain (x ∷ y ∷ z ∷ rest) a e = absurd (cc e)

part_by_plain : (text : List ℕ) (a : Actor) → IsPlain text → actor_in text ≡ Some a → part_in text ≡ Some (once a)
part_by_plain [] a plain e = absurd plain
part_by_plain (l ∷ rest) a plain e =
    ap (λ b. if b then named_in rest else option_map once (actor_in (l ∷ rest))) plain ∙ ap (option_map once) e

part_is : (text : List ℕ) (a : Actor) → actor_in text ≡ Some a → part_in text ≡ Some (once a)
part_is text a e = part_by_plain text a (plain text a e) e

one_more : (o : Option Actor) (os : Option (List Actor)) (part : Option Part) (parts : Option (List Part)) (actors : List Actor)
    → ((a : Actor) → o ≡ Some a → part ≡ Some (once a)) → ((later : List Actor) → os ≡ Some later → parts ≡ Some (map once later))
    → option_and_then (λ actor. option_map (λ more. actor ∷ more) os) o ≡ Some actors
    → option_and_then (λ first. option_map (λ more. first ∷ more) parts) part ≡ Some (map once actors)
one_more None os part parts actors first rest e = absurd (cc e)
one_more (Some a) None part parts actors first rest e = absurd (cc e)
one_more (Some a) (Some later) part parts actors first rest e =
    let same : (a ∷ later) ≡ actors = ap (λ o. unwrap_or o []) e in
    ap₂ (λ (x : Option Part) (xs : Option (List Part)). option_and_then (λ y. option_map (λ more. y ∷ more) xs) x) (first a refl) (rest later refl)
    ∙ ap (λ xs. Some (map once xs)) same

parts_are : (texts : List (List ℕ)) (actors : List Actor) → numbers_of texts ≡ Some actors → parts_of texts ≡ Some (map once actors)
parts_are [] actors e =
    let same : [] ≡ actors = ap (λ o. unwrap_or o []) e in
    ap (λ xs. Some (map once xs)) same
parts_are (text ∷ texts) actors e =
    one_more (actor_in text) (numbers_of texts) (part_in text) (parts_of texts) actors (λ a f. part_is text a f) (λ later f. parts_are texts later f) e

count_from : (k : ℕ) (actors : List Actor) → fold (λ n (part : Part). n + part.count) k (map once actors) ≡ k + length actors
count_from k [] = omega arith
count_from k (a ∷ later) = count_from (k + 1) later ∙ omega arith

short : (actors : List Actor) → length actors ≤ most_actors → within_limit (map once actors) ≡ Some (map once actors)
short actors h =
    ap (λ b. if b then Some (map once actors) else None)
    (ap (λ n. nat_le n most_actors) (count_from 0 actors) ∙ le-leb (0 + length actors) most_actors (omega (arith, h)))

named : (p : ProgramShape) (place : ℕ) (actors : List Actor) → listed_from (actor_of p) place (map once actors) ≡ Ok actors
named p place [] = refl
named p place (a ∷ later) = ap (λ (r : Result (List Actor) ListFault). repeated 1 (Ok a) place r) (named p (suc place) later)

pub numbers_stay_proof : NumbersStay
numbers_stay_proof p text actors e h = (
  ap (λ o. option_and_then within_limit o) (parts_are (slice_split (λ byte. byte == 44) text) actors e) ∙ short actors h,
  named p 0 actors,
)

clients_named : (p : ProgramShape) (place : ℕ) (clients : List ℕ) → listed_from (named_client p) place (map once (map Client clients)) ≡ Ok clients
clients_named p place [] = refl
clients_named p place (c ∷ later) = ap (λ (r : Result (List ℕ) ListFault). repeated 1 (Ok c) place r) (clients_named p (suc place) later)

no_handler : (clients : List ℕ) → has_handler (map once (map Client clients)) ≡ false
no_handler [] = refl
no_handler (c ∷ later) = no_handler later

pub client_numbers_stay_proof : ClientNumbersStay
client_numbers_stay_proof p text clients e h =
    let (read, actors) = numbers_stay_proof p text (map Client clients) e (omega (arith, length-map clients Client, h)) in
    let parts = map once (map Client clients) in
    (ap (option_and_then without_handlers) read ∙ ap (λ b. if b then None else Some parts) (no_handler clients), clients_named p 0 clients)
