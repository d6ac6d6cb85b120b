-- In a finished run each block has ended: each client stands between two blocks and has none to come, so it is past
-- each block of the order.
use Rattle.std.proofs.Common.{◌≡◌, ◌∙◌, ◌<◌, ◌≤◌, ◌||◌, ◌&&◌, ℕ, zero, suc, ◌+◌, arith, Bool, true, false, nat_eq, nat_lt, List, [], ◌∷◌, get_or, length, refl, sym, subst}
use Rattle.std.proofs.lemmas.Bool.Decides.{nat_tests}
use Rattle.std.proofs.lemmas.List.{get_or-map}
use Rattle.std.specs.List.{range_with_len}
use Rattle.qs_objects.specs.declared.held.Ticket.{Ticket}
use Rattle.qs_objects.proofs.Choices.{and_cases}
use Rattle.qs_program.specs.audit.Program.{ProgramShape, blocks_of}
use Rattle.qs_program.specs.Sound.{IsSound}
use Rattle.qs_meaning.specs.audit.Serial.{IsLegal, LegalFrom}
use Rattle.qs_meaning.specs.audit.Solo.{put}
use Rattle.qs_syncset.specs.declared.mode.Mode.{Mode}
use Rattle.qs_played.specs.audit.Isolation.{ended_of}
use Rattle.qs_played.specs.Outcomes.{IsOver}
use Rattle.qs_played.specs.audit.Played.{Played, ticket}
use Rattle.qs_played.specs.audit.Schedule.{schedule}
use Rattle.qs_played.specs.declared.schedule.actor.Actor.{Actor}
use Rattle.qs_played.proofs.JournalRooms.{no_block_beyond}
use Rattle.qs_plain_laws.specs.audit.Plain.{Client, Plain, begin, begun_blocks, client_at, no_client}
use Rattle.qs_plain_laws.specs.audit.PlainSchedule.{all_done, all_idle, ended_at, is_done, is_out, played_of, plays}
use Rattle.qs_plain_laws.proofs.PlainPreserved.{RunInvariant, run_kept}
use Rattle.qs_client.specs.audit.ClientModel.{has_ended, is_between}
use Rattle.qs_core_laws.specs.audit.Core.{Core, core_begin}
use Rattle.qs_core_laws.specs.audit.CoreSchedule.{all_of, core_played, core_plays, is_idle}
use Rattle.qs_core_laws.specs.audit.CoreSchedule as machine
use Rattle.qs_promises.specs.audit.Runs.{IsRun, Way, by_rules, on_machine, on_threads}
use Rattle.qs_promises.proofs.Calls.{over_on_threads}

-- if it is finished, each block has ended
abbrev pub EndsWhole : ProgramShape → Played → Type 0
EndsWhole p r = IsLegal p r.order → r.finished ≡ true → (i : ℕ) → i < length r.order → ended_of r i ≡ true

legal_within : (p : ProgramShape) (n : ℕ → ℕ) (ts : List Ticket) → LegalFrom p n ts → (i : ℕ) → i < length ts
    → (get_or ts i (ticket 0 0)).index < blocks_of p (get_or ts i (ticket 0 0)).client
legal_within p n [] legal i inside = absurd (omega (arith, inside))
legal_within p n (t ∷ ts) legal zero inside = legal.1
legal_within p n (t ∷ ts) legal (suc i) inside =
    legal_within p (put n t.client (suc t.index)) ts legal.2 i (omega (arith, inside))

-- a client that has begun all its blocks and stands between two of them is past each of them
past_all : (k begun many : ℕ) (between : Bool) → k < many → nat_eq begun many ≡ true → between ≡ true
    → (nat_lt (suc k) begun || (nat_eq (suc k) begun && between)) ≡ true
past_all k begun many between less all is = grind (arith, nat_tests)

done_at : (p : ProgramShape) (n : ℕ) (cs : List Client) (i : ℕ) → all_done p n cs ≡ true → i < length cs
    → is_done p (n + i) (get_or cs i no_client) ≡ true
done_at p n [] i all inside = absurd (omega (arith, inside))
done_at p n (c ∷ cs) zero all inside =
    let z : n ≡ n + 0 = omega arith in
    subst (λ m. is_done p m c ≡ true) z (and_cases (is_done p n c) (all_done p (suc n) cs) all).0
done_at p n (c ∷ cs) (suc i) all inside =
    let z : suc n + i ≡ n + suc i = omega arith in
    subst (λ m. is_done p m (get_or cs i no_client) ≡ true) z
    (done_at p (suc n) cs i (and_cases (is_done p n c) (all_done p (suc n) cs) all).1 (omega (arith, inside)))

rules_end : (p : ProgramShape) (sound : IsSound p) (s : Plain) → RunInvariant p sound s → EndsWhole p (played_of p s)
rules_end p sound s k legal finished i less =
    let t : Ticket = get_or s.order i (ticket 0 0) in
    let own : t.index < blocks_of p t.client = legal_within p (λ _. 0) s.order legal i less in
    let inside : t.client < length p.clients = no_block_beyond p t.client (omega (arith, own)) in
    let long = k.clients in
    let all = (and_cases (all_done p 0 s.clients) (all_idle s.handlers) finished).0 in
    let z : 0 + t.client ≡ t.client = omega arith in
    let done : is_done p t.client (client_at s t.client) ≡ true =
    subst (λ c. is_done p c (client_at s t.client) ≡ true) z
    (done_at p 0 s.clients t.client all (omega (arith, inside, long))) in
    let both =
    and_cases (is_out (client_at s t.client).stage)
    (nat_eq (begun_blocks (client_at s t.client)) (blocks_of p t.client)) done in
    get_or-map (ended_at s) s.order i (ticket 0 0) false less
    ∙ past_all t.index (begun_blocks (client_at s t.client)) (blocks_of p t.client)
    (is_out (client_at s t.client).stage) own both.1 both.0

-- what holds of all numbers of a range holds of each
all_of_at : (is : ℕ → Bool) (a n i : ℕ) → all_of is (range_with_len a n) ≡ true → a ≤ i → i < a + n → is i ≡ true
all_of_at is a zero i all low high = absurd (omega (arith, low, high))
all_of_at is a (suc n) i all low high =
    let both = and_cases (is a) (all_of is (range_with_len (a + 1) n)) all in
    by_first (nat_lt a i) refl both.0 (λ above. all_of_at is (a + 1) n i both.1 above (omega (arith, high)))
  where
    by_first : (b : Bool) → nat_lt a i ≡ b → is a ≡ true → (a + 1 ≤ i → is i ≡ true) → is i ≡ true
    by_first true e first rest = rest (let l : a < i = grind (arith, e) in omega (arith, l))
    by_first false e first rest =
        let same : a ≡ i = (let l : i ≤ a = grind (arith, e) in omega (arith, l, low)) in
        subst (λ n. is n ≡ true) same first

machine_ends : (p : ProgramShape) (s : Core) → EndsWhole p (core_played p s)
machine_ends p s legal finished i less =
    let t : Ticket = get_or s.order i (ticket 0 0) in
    let own : t.index < blocks_of p t.client = legal_within p (λ _. 0) s.order legal i less in
    let inside : t.client < length p.clients = no_block_beyond p t.client (omega (arith, own)) in
    let all =
    (and_cases (all_of (machine.is_done p s) (range_with_len 0 (length p.clients)))
    (all_of (is_idle p s) (range_with_len 0 (length p.objects))) finished).0 in
    let done =
    all_of_at (machine.is_done p s) 0 (length p.clients) t.client all (omega arith) (omega (arith, inside)) in
    let both =
    and_cases (is_between (s.client t.client).stage) (nat_eq (s.client t.client).begun (blocks_of p t.client)) done in
    get_or-map (λ (u : Ticket). has_ended (s.client u.client) u.index) s.order i (ticket 0 0) false less
    ∙ past_all t.index (s.client t.client).begun (blocks_of p t.client)
    (is_between (s.client t.client).stage) own both.1 both.0

rules_whole : (p : ProgramShape) → IsSound p → (picks : List Actor) (rounds : ℕ) (r : Played)
    → IsRun p (by_rules picks rounds) r → EndsWhole p r
rules_whole p sound picks rounds r (few, named, shows) =
    let s : Plain = plays p (schedule p picks rounds) (begin p) in
    subst (EndsWhole p) (sym shows) (rules_end p sound s (run_kept p sound (schedule p picks rounds)))

machine_whole : (p : ProgramShape) (mode : Mode) (size : ℕ) (picks : List Actor) (rounds : ℕ) (r : Played)
    → IsRun p (on_machine mode size picks rounds) r → EndsWhole p r
machine_whole p mode size picks rounds r (few, named, (code, are, shows)) =
    let s : Core = core_plays code size (schedule p picks rounds) (core_begin p) in
    subst (EndsWhole p) (sym shows) (machine_ends p s)

threads_whole : (p : ProgramShape) (r : Played) → IsOver r → EndsWhole p r
threads_whole p r over legal finished i less =
    subst (λ es. get_or es i false ≡ true) (sym over.ended)
    (get_or-map (λ (t : Ticket). true) r.order i (ticket 0 0) false less)

pub ends_whole : (p : ProgramShape) → IsSound p → (way : Way) (r : Played) → IsRun p way r → EndsWhole p r
ends_whole p sound (by_rules picks rounds) r run = rules_whole p sound picks rounds r run
ends_whole p sound (on_machine mode size picks rounds) r run = machine_whole p mode size picks rounds r run
ends_whole p sound (on_threads mode size) r run = threads_whole p r (over_on_threads p mode size r run)
