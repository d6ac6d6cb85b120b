-- Whether some block of a client reserves a handler (`ever_reserves`), against single blocks and against the numbers of
-- a program. Lanes are made by the first and asked for by the second, and no lane is made for a client or a handler
-- that the program does not have.
use Rattle.std.proofs.Common.{◌≡◌, ℕ, zero, suc, ◌<◌, ◌≤◌, ◌==◌, Bool, true, false, ◌||◌, List, [], ◌∷◌, length, get_or, refl, sym, ap, ◌∙◌, arith, rules}
use Rattle.qs_meaning.proofs.Groups.{or_right}
use Rattle.qs_run.proofs.Names.{AllByRecursion, Declared, IsSound, IsSoundBlock, IsSoundClient, Ticket, ever_reserves, false≢true, get_or_past, is_in, list_any, reserves}
use Rattle.qs_program.specs.audit.Program.{BlockShape, ClientShape, ProgramShape, client_at, no_block, no_client}

-- a test that some member passes, though what stands for no member does not
any_at : {X : Type 0} (f : X → Bool) (xs : List X) (i : ℕ) (d : X) → f d ≡ false → f (get_or xs i d) ≡ true → list_any f xs ≡ true
any_at f [] i d none is = absurd (false≢true (sym none ∙ is))
any_at f (x ∷ xs) zero d none is = ap (λ b. b || list_any f xs) is
any_at f (x ∷ xs) (suc i) d none is = or_right (f x) (list_any f xs) (any_at f xs i d none is)

within : {X : Type 0} (f : X → Bool) (xs : List X) (i : ℕ) (d : X) → f d ≡ false → f (get_or xs i d) ≡ true → i < length xs
within f [] i d none is = absurd (false≢true (sym none ∙ is))
within f (x ∷ xs) zero d none is = omega arith
within f (x ∷ xs) (suc i) d none is = let less : i < length xs = within f xs i d none is in omega arith

abbrev has : ℕ → BlockShape → Bool
has h b = is_in b.reserved h

-- a block that reserves a handler is among those of its client
pub ever : (p : ProgramShape) (t : Ticket) (h : ℕ) → reserves p t h ≡ true → ever_reserves p t.client h ≡ true
ever p t h is = any_at (has h) (client_at p t.client).blocks t.index no_block refl is

-- and its client is among those of the program
pub client_within : (p : ProgramShape) (t : Ticket) (h : ℕ) → reserves p t h ≡ true → t.client < length p.clients
client_within p t h is = within (λ (c : ClientShape). has h (get_or c.blocks t.index no_block)) p.clients t.client no_client refl is

-- there is no client past the last
pub past_clients : (p : ProgramShape) (c h : ℕ) → length p.clients ≤ c → ever_reserves p c h ≡ false
past_clients p c h past = ap (λ (x : ClientShape). list_any (has h) x.blocks) (get_or_past p.clients c no_client past)

not_in : (n h : ℕ) (xs : List ℕ) → AllByRecursion (λ x. x < n) xs → n ≤ h → is_in xs h ≡ false
not_in n h [] below past = refl
not_in n h (x ∷ xs) below past =
    let less : x < n = below.0 in
    let apart : (x == h) ≡ false = grind arith in
    ap (λ b. b || is_in xs h) apart ∙ not_in n h xs below.1 past

none_has : (objects : List Declared) (h : ℕ) (bs : List BlockShape) → AllByRecursion (IsSoundBlock objects) bs → length objects ≤ h → list_any (has h) bs ≡ false
none_has objects h [] sound past = refl
none_has objects h (b ∷ bs) sound past =
    ap (λ x. x || list_any (has h) bs) (not_in (length objects) h b.reserved sound.0.reserved past) ∙ none_has objects h bs sound.1 past

no_client_has : (objects : List Declared) (h c : ℕ) (cs : List ClientShape) → AllByRecursion (IsSoundClient objects) cs → length objects ≤ h
    → list_any (has h) (get_or cs c no_client).blocks ≡ false
no_client_has objects h c [] sound past = refl
no_client_has objects h zero (x ∷ cs) sound past = none_has objects h x.blocks sound.0.each past
no_client_has objects h (suc c) (x ∷ cs) sound past = no_client_has objects h c cs sound.1 past

-- nor a handler past the last that a block of a sound program reserves
pub past_handlers : (p : ProgramShape) → IsSound p → (c h : ℕ) → length p.objects ≤ h → ever_reserves p c h ≡ false
past_handlers p sound c h past = no_client_has p.objects h c p.clients sound.each past
