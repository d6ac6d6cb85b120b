-- The texts of queues as the code writes them: one part after another, one number more of a range, and one parcel more
-- of a lane; and what the code answers of a client is what the definitions say of it.
use Rattle.std.proofs.Common.{◌≡◌, ◌<◌, ◌≤◌, ◌==◌, ℕ, suc, ◌+◌, ◌-◌, Bool, true, false, List, [], ◌∷◌, ◌++◌, cond, drop, length, map, get_or, take, Option, Some, None, refl, ap, sym, ◌∙◌, add-one, append-nil, append_assoc, zero-add, arith, codes, flat_map, nat_eq}
use Rattle.qs_steps.proofs.Names.{Client, Form, MatchOption, ProgramShape, StageOfClient, awaited_by, awaited_in, comma_at, flat_map-append, flat_map_more, length-take-le, listed, nat_tests}
use Rattle.qs_steps.proofs.Names.{Err, Ok, OnOk, Result, numbered, only_json, range_more, range_with_len, take_all, take_more}
use Rattle.std.proofs.lemmas.List.Folds.{flat_map-map}
use Rattle.qs_objects.specs.declared.held.Ticket.{Ticket}
use Rattle.qs_steps.specs.PlainQueues.{spaced, wait_in}
use Rattle.qs_steps.specs.declared.wanted.Form.TheVariants as form

-- what follows from a success
pub on_ok : {A B : Type 0} {P Q : Type 0} (o : Result A B) → OnOk o P → (P → Q) → OnOk o Q
on_ok (Ok x) holds then = then holds
on_ok (Err e) holds then = tt

-- one part after another
pub joined : (before mid after head tail : List ℕ) → mid ≡ before ++ head → after ≡ mid ++ tail → after ≡ before ++ (head ++ tail)
joined before mid after head tail first second = second ∙ ap (λ xs. xs ++ tail) first ∙ append_assoc before head tail

-- where nothing is told of a run
pub text_if_silent : (b : Bool) (lines text : List ℕ) → b ≡ true → text ≡ text ++ cond b [] lines
text_if_silent b lines text is = sym (ap (λ x. text ++ cond x [] lines) is ∙ append-nil text)

pub text_if_told : (b : Bool) (lines before after : List ℕ) → b ≡ false → after ≡ before ++ lines → after ≡ before ++ cond b [] lines
text_if_told b lines before after is one = one ∙ ap (λ x. before ++ cond x [] lines) (sym is)

pub empty_list : {A : Type 0} (xs : List A) (b : Bool) → b ≡ (length xs == 0) → b ≡ true → xs ≡ []
empty_list [] b is holds = refl
empty_list (x ∷ xs) b is holds = let other : (suc (length xs) == 0) ≡ false = grind arith in cc

pub filled_list : {A : Type 0} (xs : List A) (b : Bool) → b ≡ (length xs == 0) → b ≡ false → 0 < length xs
filled_list [] b is fails = cc
filled_list (x ∷ xs) b is fails = omega arith

-- the items of a private queue, in two lists
module _ {A : Type 0} (text : A → List ℕ) where
  pub spaced_both : (first rest xs : List A) → 0 < length first → first ++ rest ≡ xs → spaced text xs ≡ flat_map (λ y. codes " " ++ text y) first ++ flat_map (λ y. codes " " ++ text y) rest
  spaced_both [] rest xs some same = absurd (omega (arith, some))
  spaced_both (x ∷ first) rest xs some same = ap (spaced text) (sym same) ∙ flat_map-append (λ y. codes " " ++ text y) (x ∷ first) rest

-- one number more of a range
pub numbers_more : (f : ℕ → List ℕ) (before between after : List ℕ) (n : ℕ) → between ≡ before ++ flat_map f (range_with_len 0 n) → after ≡ between ++ f n
    → after ≡ before ++ flat_map f (range_with_len 0 (n + 1))
numbers_more f before between after n first second =
    second ∙ ap (λ xs. xs ++ f n) first ∙ flat_map_more f before (range_with_len 0 n) n
    ∙ ap (λ ns. before ++ flat_map f ns) (sym (ap (range_with_len 0) (add-one n) ∙ range_more 0 n ∙ ap (λ m. range_with_len 0 n ++ m ∷ []) (zero-add n)))

-- one element more of a list
pub elements_more : {A : Type 0} (f : A → List ℕ) (xs : List A) (before between after : List ℕ) (i : ℕ) (d : A) → i < length xs → between ≡ before ++ flat_map f (take i xs)
    → after ≡ between ++ f (get_or xs i d) → after ≡ before ++ flat_map f (take (i + 1) xs)
elements_more f xs before between after i d inside first second =
    second ∙ ap (λ ys. ys ++ f (get_or xs i d)) first ∙ flat_map_more f before (take i xs) (get_or xs i d) ∙ ap (λ ys. before ++ flat_map f ys) (sym (take_more xs i d inside))

-- the same where in JSON a comma stands before each but the first
comma_later : (n : ℕ) → comma_at (suc n) ≡ codes ","
comma_later n = let e : nat_eq (suc n) 0 ≡ false = grind (arith, nat_tests) in rw e refl

listed_last : (f : Form) {A : Type 0} (text : A → List ℕ) (xs : List A) (y : A) → listed f text (xs ++ y ∷ []) ≡ listed f text xs ++ (only_json f (comma_at (length xs)) ++ text y)
listed_last form.Text text xs y = sym (flat_map_more text [] xs y)
listed_last form.Json text [] y = append-nil (text y)
listed_last form.Json {A} text (x ∷ xs) y =
    let other = λ (z : A). codes "," ++ text z in
    sym (flat_map_more other (text x) xs y) ∙ ap (λ l. (text x ++ flat_map other xs) ++ (l ++ text y)) (sym (comma_later (length xs)))

pub listed_more : (f : Form) {A : Type 0} (text : A → List ℕ) (xs : List A) (before between after : List ℕ) (i : ℕ) (d : A) → i < length xs → between ≡ before ++ listed f text (take i xs)
    → after ≡ between ++ (only_json f (comma_at i) ++ text (get_or xs i d)) → after ≡ before ++ listed f text (take (i + 1) xs)
listed_more f text xs before between after i d inside first second =
    let y = get_or xs i d in
    let long : length (take i xs) ≡ i = length-take-le i xs (omega (arith, inside)) in
    second ∙ ap (λ l. l ++ (only_json f (comma_at i) ++ text y)) first ∙ append_assoc before (listed f text (take i xs)) (only_json f (comma_at i) ++ text y)
    ∙ ap (λ n. before ++ (listed f text (take i xs) ++ (only_json f (comma_at n) ++ text y))) (sym long)
    ∙ ap (λ l. before ++ l) (sym (listed_last f text (take i xs) y)) ∙ ap (λ ys. before ++ listed f text ys) (sym (take_more xs i d inside))

-- one number more, after its comma
pub numbered_more : (f : Form) (text : ℕ → List ℕ) (first before comma after : List ℕ) (n m : ℕ) → m ≡ n → before ≡ first ++ numbered f text n
    → comma ≡ before ++ only_json f (comma_at m) → after ≡ comma ++ text n → after ≡ first ++ numbered f text (n + 1)
numbered_more f text first before comma after n m same so_far one two =
    numbers_more (λ i. only_json f (comma_at i) ++ text i) first before after n so_far
    (joined before comma after (only_json f (comma_at n)) (text n) (one ∙ ap (λ k. before ++ only_json f (comma_at k)) same) two)

-- a list in two parts, as the elements of an array: the first element, those behind it, and the second part
module _ {A : Type 0} (text : A → List ℕ) where
  abbrev other : A → List ℕ
  other y = codes "," ++ text y

  pub elements_some : (first second : List A) (d : A) (out one two three : List ℕ) → 1 ≤ length first → one ≡ out ++ text (get_or first 0 d)
      → two ≡ one ++ flat_map other (take (length first - 1) (drop 1 first)) → three ≡ two ++ flat_map other second → three ≡ out ++ listed form.Json text (first ++ second)
  elements_some [] second d out one two three some a b c = absurd (omega (arith, some))
  elements_some (x ∷ xs) second d out one two three some a b c =
      let rest : take (suc (length xs) - 1) xs ≡ xs = take_all (suc (length xs) - 1) xs (let few : length xs ≤ suc (length xs) - 1 = omega arith in few) in
      joined out two three (text x ++ flat_map other xs) (flat_map other second) (joined out one two (text x) (flat_map other xs) a (b ∙ ap (λ ys. one ++ flat_map other ys) rest)) c
      ∙ ap (λ l. out ++ l) (append_assoc (text x) (flat_map other xs) (flat_map other second) ∙ ap (λ l. text x ++ l) (sym (flat_map-append other xs second)))

-- of what is made of the elements of another list
pub listed_map : (f : Form) {A B : Type 0} (text : B → List ℕ) (g : A → B) (xs : List A) → listed f (λ x. text (g x)) xs ≡ listed f text (map g xs)
listed_map form.Text text g xs = sym (flat_map-map text g xs)
listed_map form.Json text g [] = refl
listed_map form.Json text g (x ∷ xs) = ap (λ l. text (g x) ++ l) (sym (flat_map-map (λ y. codes "," ++ text y) g xs))

-- what a client waits for, by the code's answer
pub wait_is : (f : Form) (p : ProgramShape) (c : ℕ) (it : Client) (stage : StageOfClient) → awaited_in f (awaited_by p c it stage) ≡ wait_in f p c it stage
wait_is f p c it stage = grind arith

-- an optional ticket as a list
pub one_of : (o : Option Ticket) (xs ys : List Ticket) → MatchOption o (xs ≡ []) (λ t. xs ≡ t ∷ []) → MatchOption o (ys ≡ []) (λ t. ys ≡ t ∷ []) → ys ≡ xs
one_of None xs ys first second = second ∙ sym first
one_of (Some t) xs ys first second = second ∙ sym first
