-- How many blocks each client has left after an order: it has begun as many as the order has of its tickets, so what is
-- left is a difference of two numbers. And a legal order goes on with no more blocks of a client than it has left.
use Rattle.std.proofs.Common.{◌≡◌, ◌==◌, ◌<◌, ◌≤◌, ◌+◌, ◌-◌, ℕ, zero, suc, if◌then◌else◌, List, [], ◌∷◌, ◌++◌, length, map, get_or, take, set, refl, sym, ap, ◌∙◌, subst, arith}
use Rattle.qs_outcomes.proofs.Common.{AllByRecursion, begun_within, blocks_of, ClientShape, Configuration, configuration_after, configuration_from, Counts, ext_get_or, first_configuration, get_or-take, IsLegal, IsSound, IsSoundClient, legal-front, legal-rest, length-take-le, nat_tests, no_client, one_block_on, order_from, order_of, ProgramShape, put, Ticket}
use Rattle.std.proofs.lemmas.Grind.{common_steps}
use Rattle.qs_program.specs.audit.Limits.{most_blocks}
use Rattle.qs_outcomes.specs.estimate.Estimates.{AreBlocksLeft, left, left_from}
use Rattle.qs_outcomes.proofs.estimate.Words.{AreFew, below_all, times, times-cons}

-- the clients of an order, as a word
abbrev pub word : List Ticket → List ℕ
word ts = map (λ t. t.client) ts

-- ---- how many a client has begun

one_more : (f : ℕ → ℕ) (a c n m : ℕ) → m ≡ (if a == c then suc n else n) → put f a (suc (f a)) c + n ≡ f c + m
one_more f a c n m e = grind (arith, nat_tests)

pub begun_more : (p : ProgramShape) (g : Configuration) (ts : List Ticket) (c : ℕ) → (configuration_from p g ts).begun c ≡ g.begun c + times c (word ts)
begun_more p g [] c = omega arith
begun_more p g (t ∷ ts) c =
    let rest : (configuration_from p (one_block_on p t.client g) ts).begun c ≡ put g.begun t.client (suc (g.begun t.client)) c + times c (word ts) = begun_more p (one_block_on p t.client g) ts c in
    let more = times-cons c t.client (word ts) in rest ∙ one_more g.begun t.client c (times c (word ts)) (times c (word (t ∷ ts))) more

pub word_named : (begun : Counts) (cs : List ℕ) → word (order_from begun cs) ≡ cs
word_named begun [] = refl
word_named begun (c ∷ cs) = ap (λ v. c ∷ v) (word_named (put begun c (suc (begun c))) cs)

pub begun_named : (p : ProgramShape) (cs : List ℕ) (c : ℕ) → (configuration_after p (order_of cs)).begun c ≡ times c cs
begun_named p cs c =
    let more : (configuration_after p (order_of cs)).begun c ≡ 0 + times c (word (order_of cs)) = begun_more p (first_configuration p) (order_of cs) c in
    more ∙ ap (λ v. 0 + times c v) (word_named (λ _. 0) cs) ∙ omega arith

-- ---- how many it has left

pub left-long : (begun : Counts) (c : ℕ) (xs : List ClientShape) → length (left_from begun c xs) ≡ length xs
left-long begun c [] = refl
left-long begun c (x ∷ xs) = ap suc (left-long begun (suc c) xs)

pub left_at : (begun : Counts) (c : ℕ) (xs : List ClientShape) (i : ℕ) → get_or (left_from begun c xs) i 0 ≡ length (get_or xs i no_client).blocks - begun (c + i)
left_at begun c [] i = omega arith
left_at begun c (x ∷ xs) zero = ap (λ d. length x.blocks - begun d) (let e : c ≡ c + 0 = omega arith in e)
left_at begun c (x ∷ xs) (suc i) =
    left_at begun (suc c) xs i ∙ ap (λ d. length (get_or xs i no_client).blocks - begun d) (let e : suc c + i ≡ c + suc i = omega arith in e)

pub left_of : (p : ProgramShape) (front : List Ticket) (c : ℕ) → get_or (left p front) c 0 ≡ blocks_of p c - (configuration_after p front).begun c
left_of p front c =
    let g = configuration_after p front in
    left_at g.begun 0 p.clients c ∙ ap (λ d. blocks_of p c - g.begun d) (let e : 0 + c ≡ c = omega arith in e)

-- one more place of a list is written
pub each_on : (f : ℕ → ℕ) (xs : List ℕ) (c at v : ℕ) → at ≡ c → c < length xs → v ≡ f c → ((i : ℕ) → i < c → get_or xs i 0 ≡ f i) → (i : ℕ) → i < c + 1 → get_or (set xs at v) i 0 ≡ f i
each_on f xs c at v here within is before i less = grind (arith, common_steps)

-- a list of eight that has at each client's place how many blocks it has besides these has what is left of each
pub all_left_is : (p : ProgramShape) (cs xs : List ℕ) → length p.clients ≤ 8 → length xs ≡ 8
    → ((i : ℕ) → i < length p.clients → get_or xs i 0 ≡ blocks_of p i - times i cs) → take (length p.clients) xs ≡ left p (order_of cs)
all_left_is p cs xs few long each =
    ext_get_or 0 (take (length p.clients) xs) (left p (order_of cs))
    (taken ∙ sym (left-long (configuration_after p (order_of cs)).begun 0 p.clients))
    (λ i less. (let within : i < length p.clients = omega (arith, less, taken) in
    get_or-take (length p.clients) xs i 0 within ∙ each i within ∙ ap (λ n. blocks_of p i - n) (sym (begun_named p cs i)) ∙ sym (left_of p (order_of cs) i)))
  where
    taken : length (take (length p.clients) xs) ≡ length p.clients
    taken = length-take-le (length p.clients) xs (omega (arith, few, long))

few_blocks : (p : ProgramShape) (xs : List ClientShape) (i : ℕ) → AllByRecursion (IsSoundClient p.objects) xs → length (get_or xs i no_client).blocks ≤ most_blocks
few_blocks p [] i each = omega arith
few_blocks p (x ∷ xs) zero each = each.0.blocks
few_blocks p (x ∷ xs) (suc i) each = few_blocks p xs i each.1

pub are_left : (p : ProgramShape) (front : List Ticket) → IsSound p → AreBlocksLeft (left p front)
are_left p front sound = record {
  clients = (let long = left-long (configuration_after p front).begun 0 p.clients in let few = sound.clients in omega (arith, long, few));
  blocks = λ i. (let at = left_of p front i in let few : blocks_of p i ≤ most_blocks = few_blocks p p.clients i sound.each in omega (arith, at, few));
}

-- ---- how an order goes on

-- no client has begun more blocks than it has
pub begun_few : (p : ProgramShape) (front : List Ticket) (c : ℕ) → IsLegal p front → (configuration_after p front).begun c ≤ blocks_of p c
begun_few p front c legal = begun_within p (first_configuration p) front c legal (omega arith)

few_from : (begun : Counts) (v : List ℕ) (c : ℕ) (xs : List ClientShape) → ((i : ℕ) → begun (c + i) + times (c + i) v ≤ length (get_or xs i no_client).blocks) → AreFew c (left_from begun c xs) v
few_from begun v c [] within = below_all c v (λ i. (let none = within i in omega (arith, none)))
few_from begun v c (x ∷ xs) within = (
  (let e : c + 0 ≡ c = omega arith in let few : begun c + times c v ≤ length x.blocks = subst (λ d. begun d + times d v ≤ length x.blocks) e (within 0) in omega (arith, few)),
  few_from begun v (suc c) xs (λ i. subst (λ d. begun d + times d v ≤ length (get_or xs i no_client).blocks) (let e : c + suc i ≡ suc c + i = omega arith in e) (within (suc i))),
)

pub word_few : (p : ProgramShape) (front rest : List Ticket) → IsLegal p (front ++ rest) → AreFew 0 (left p front) (word rest)
word_few p front rest legal =
    let g = configuration_after p front in
    few_from g.begun (word rest) 0 p.clients
    (λ i. subst (λ d. g.begun d + times d (word rest) ≤ blocks_of p i) (let e : i ≡ 0 + i = omega arith in e)
    (let first : g.begun i ≤ blocks_of p i = begun_few p front i (legal-front p (first_configuration p) front rest legal) in
    let last : (configuration_from p g rest).begun i ≤ blocks_of p i = begun_within p g rest i (legal-rest p (first_configuration p) front rest legal) first in
    let more = begun_more p g rest i in omega (arith, last, more)))
