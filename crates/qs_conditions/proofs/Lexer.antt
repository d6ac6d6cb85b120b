-- The signs of a text are the one at its front and those of the bytes after it. The loop that lists the signs stands on
-- it. The bytes of a sign are passed over by induction on their number.
use Rattle.std.proofs.Common.{◌≡◌, ℕ, zero, suc, ◌+◌, ◌-◌, ◌<◌, ◌≤◌, Bool, true, false, if◌then◌else◌, ◌||◌, nat_eq, nat_lt, List, [], ◌∷◌, ◌++◌, length, take, drop, get_or, min, refl, ap, sym, ◌∙◌, append_assoc, arith, Option, Result, Ok, Err, length-drop, lt-ltb, subst}
use Rattle.std.proofs.lemmas.List.{drop_more, drop-drop, take-take}
use Rattle.std.proofs.Math.Dec.{ltb}
use Rattle.qs_conditions.specs.SignResults.{IsFaultOf}
use Rattle.qs_script.proofs.tokens.Lexemes.{run_take}
use Rattle.qs_conditions.specs.declared.signs.Sign.TheVariants as s
use Rattle.qs_conditions.specs.declared.fault.ConditionFault.TheVariants as f
use Rattle.qs_script.specs.audit.tokens.Tokens.{is_letter, is_digit, is_space, is_name_byte, at, value_of}
use Rattle.qs_script.specs.tokens.Cutting.{run_of}
use Rattle.qs_conditions.specs.declared.signs.Sign.{Sign}
use Rattle.qs_conditions.specs.declared.signs.Placed.{Placed}
use Rattle.qs_conditions.specs.declared.fault.ConditionFault.{ConditionFault}
use Rattle.qs_conditions.specs.Signs.{pairs, singles, pair_of, name_sign, number_sign, byte_sign, sign_at, placed, before, with_sign, signs_from, signs_of}

-- signs before others
abbrev pub before_all : List Placed → Result (List Placed) ConditionFault → Result (List Placed) ConditionFault
before_all xs (Ok ys) = Ok (xs ++ ys)
before_all xs (Err e) = Err e

pub before_one : (xs : List Placed) (x : Placed) (r : Result (List Placed) ConditionFault) → before_all xs (before x r) ≡ before_all (xs ++ x ∷ []) r
before_one xs x (Ok ys) = rw append_assoc refl
before_one xs x (Err e) = refl

-- bytes of a sign are passed over
passed : (skip place : ℕ) (bs : List ℕ) → skip ≤ length bs → signs_from place skip bs ≡ signs_from (place + skip) 0 (drop skip bs)
passed zero place bs within = let e : place + 0 ≡ place = omega arith in rw e refl
passed (suc k) place [] within = absurd (omega arith)
passed (suc k) place (b ∷ bs) within =
    let e : place + suc k ≡ suc place + k = omega arith in rw e (passed k (suc place) bs (omega arith))

run_step : (passes : Bool) (n m : ℕ) → n ≤ m → (if passes then 1 + n else 0) ≤ suc m
run_step passes n m h = grind arith

run_within : (test : ℕ → Bool) (bs : List ℕ) → run_of test bs ≤ length bs
run_within test [] = omega arith
run_within test (b ∷ bs) = run_step (test b) (run_of test bs) (length bs) (run_within test bs)

run_some : (test : ℕ → Bool) (b : ℕ) (bs : List ℕ) → test b ≡ true → 0 < run_of test (b ∷ bs)
run_some test b bs e = rw e (omega arith)

or_left : (a b c : Bool) → a ≡ true → (a || b || c) ≡ true
or_left a b c e = rw e refl

-- a sign has bytes, and they are the text's
abbrev IsCounted : ℕ → Result (Sign × ℕ) ConditionFault → Type 0
IsCounted most (Ok x) = (0 < x.1) × (x.1 ≤ most)
IsCounted most (Err e) = Unit {0}

counted_if : (b : Bool) (most : ℕ) (x y : Result (Sign × ℕ) ConditionFault) → (b ≡ true → IsCounted most x) → (b ≡ false → IsCounted most y) → IsCounted most (if b then x else y)
counted_if true most x y h k = h refl
counted_if false most x y h k = k refl

byte_counted : (place : ℕ) (found : Option (ℕ × Sign)) (bs : List ℕ) (single : Option Sign) → IsCounted (suc (length bs)) (byte_sign place (pair_of found bs) single)
byte_counted place found bs single = grind arith

sign_counted : (place : ℕ) (text : List ℕ) → IsCounted (length text) (sign_at place text)
sign_counted place [] = tt
sign_counted place (b ∷ bs) =
    counted_if (is_letter b) (suc (length bs)) (name_sign place (b ∷ bs) (run_of is_name_byte (b ∷ bs))) _
    (λ e. counted_if (nat_lt 16 (run_of is_name_byte (b ∷ bs))) (suc (length bs)) (Err _) (Ok _) (λ _. tt)
    (λ _. (run_some is_name_byte b bs (or_left (is_letter b) (is_digit b) (nat_eq b 95) e), run_within is_name_byte (b ∷ bs))))
    (λ _. counted_if (is_digit b) (suc (length bs)) (number_sign place (b ∷ bs) (run_of is_digit (b ∷ bs))) _
    (λ e. counted_if (nat_lt 18 (run_of is_digit (b ∷ bs))) (suc (length bs)) (Err _) (Ok _) (λ _. tt)
    (λ _. (run_some is_digit b bs e, run_within is_digit (b ∷ bs))))
    (λ _. byte_counted place (at b pairs) bs (at b singles)))

counted_ok : (most : ℕ) (r : Result (Sign × ℕ) ConditionFault) (x : Sign × ℕ) → IsCounted most r → r ≡ Ok x → (0 < x.1) × (x.1 ≤ most)
counted_ok most r x h e = grind arith

pub sign_within : (place : ℕ) (text : List ℕ) (x : Sign × ℕ) → sign_at place text ≡ Ok x → (0 < x.1) × (x.1 ≤ length text)
sign_within place text x e = counted_ok (length text) (sign_at place text) x (sign_counted place text) e

sign_front : (place : ℕ) (b : ℕ) (bs : List ℕ) → is_space b ≡ false → signs_from place 0 (b ∷ bs) ≡ with_sign place (sign_at place (b ∷ bs)) (λ more. signs_from (suc place) more bs)
sign_front place b bs e = rw e refl

sign_front_at : (text : List ℕ) (place : ℕ) → place < length text → is_space (get_or text place 0) ≡ false → signs_from place 0 (drop place text) ≡ with_sign place (sign_at place (drop place text)) (λ more. signs_from (suc place) more (drop (place + 1) text))
sign_front_at text place less e =
    ap (signs_from place 0) (drop_more text place 0 less) ∙ sign_front place (get_or text place 0) (drop (place + 1) text) e
    ∙ ap (λ us. with_sign place (sign_at place us) (λ more. signs_from (suc place) more (drop (place + 1) text))) (sym (drop_more text place 0 less))

pub fault_step : (text : List ℕ) (place : ℕ) (fault : ConditionFault) → place < length text → is_space (get_or text place 0) ≡ false → sign_at place (drop place text) ≡ Err fault → signs_from place 0 (drop place text) ≡ Err fault
fault_step text place fault less e h = sign_front_at text place less e ∙ rw h refl

pub sign_step : (text : List ℕ) (place : ℕ) (x : Sign × ℕ) → place < length text → is_space (get_or text place 0) ≡ false → sign_at place (drop place text) ≡ Ok x → 0 < x.1 → place + x.1 ≤ length text → signs_from place 0 (drop place text) ≡ before (placed place x.0) (signs_from (place + x.1) 0 (drop (place + x.1) text))
sign_step text place x less e h some within =
    let one : suc place + (x.1 - 1) ≡ place + x.1 = omega (arith, some) in
    let two : place + 1 + (x.1 - 1) ≡ place + x.1 = omega (arith, some) in
    let rest : drop (x.1 - 1) (drop (place + 1) text) ≡ drop (place + x.1) text = drop-drop (x.1 - 1) (place + 1) text ∙ ap (λ n. drop n text) two in
    sign_front_at text place less e ∙ rw h (ap (before (placed place x.0)) (passed (x.1 - 1) (suc place) (drop (place + 1) text) (simp length-drop (omega (arith, within, some))) ∙ rw (one, rest) refl))

-- where the step ends is in the text
pub sign_bounds : (text us : List ℕ) (place : ℕ) (x : Sign × ℕ) → us ≡ drop place text → place ≤ length text → Ok x ≡ sign_at place us → (0 < x.1) × (place + x.1 ≤ length text)
sign_bounds text us place x e within is =
    let h = sign_within place us x (sym is) in
    let count : length us ≡ length text - place = ap length e ∙ length-drop place text in
    (h.0, omega (arith, h.1, count, within))

pub signs_step : (text us : List ℕ) (done new : List Placed) (place : ℕ) (x : Sign × ℕ) → us ≡ drop place text → place < length text → is_space (get_or text place 0) ≡ false → Ok x ≡ sign_at place us
    → signs_of text ≡ before_all done (signs_from place 0 (drop place text)) → new ≡ done ++ placed place x.0 ∷ []
    → signs_of text ≡ before_all new (signs_from (place + x.1) 0 (drop (place + x.1) text))
signs_step text us done new place x e less no_space is so_far added =
    let b = sign_bounds text us place x e (omega (arith, less)) is in
    let cut : sign_at place (drop place text) ≡ Ok x = ap (sign_at place) (sym e) ∙ sym is in
    so_far ∙ ap (before_all done) (sign_step text place x less no_space cut b.0 b.1) ∙ before_one done (placed place x.0) (signs_from (place + x.1) 0 (drop (place + x.1) text))
    ∙ ap (λ xs. before_all xs (signs_from (place + x.1) 0 (drop (place + x.1) text))) (sym added)

pub signs_fault : (text us : List ℕ) (done : List Placed) (place : ℕ) (fault : ConditionFault) → us ≡ drop place text → place < length text → is_space (get_or text place 0) ≡ false → Err fault ≡ sign_at place us
    → signs_of text ≡ before_all done (signs_from place 0 (drop place text)) → signs_of text ≡ Err fault
signs_fault text us done place fault e less no_space is so_far =
    so_far ∙ ap (before_all done) (fault_step text place fault less no_space (ap (sign_at place) (sym e) ∙ sym is))

-- numbers
pub long_number : (place : ℕ) (text us : List ℕ) (n : ℕ) → us ≡ take 19 text → n ≡ run_of is_digit us → 18 < n → Err (f.Number place) ≡ number_sign place text (run_of is_digit text)
long_number place text us n e is long =
    let count : n ≡ min 19 (run_of is_digit text) = is ∙ ap (run_of is_digit) e ∙ run_take is_digit 19 text in
    let more : ltb 18 (run_of is_digit text) ≡ true = lt-ltb 18 (run_of is_digit text) (omega (arith, count, long)) in
    rw more refl

pub short_number : (place : ℕ) (text us : List ℕ) (n value : ℕ) → us ≡ take 19 text → n ≡ run_of is_digit us → n ≤ 18 → value ≡ value_of (take n us) → Ok (s.Number value, n) ≡ number_sign place text (run_of is_digit text)
short_number place text us n value e is short written =
    let count : n ≡ min 19 (run_of is_digit text) = is ∙ ap (run_of is_digit) e ∙ run_take is_digit 19 text in
    let same : run_of is_digit text ≡ n = omega (arith, count, short) in
    let less : ltb 18 n ≡ false = grind arith in
    let v : value ≡ value_of (take n text) = written ∙ ap (λ xs. value_of (take n xs)) e ∙ ap value_of (take-take n 19 text (omega (arith, short))) in
    rw (same, less, v) refl

-- no fault of signs is one of form, or of memory
abbrev IsSignFault : ConditionFault → Type 0
IsSignFault (f.Form place) = ⊥
IsSignFault f.Memory = ⊥
IsSignFault _ = Unit {0}

abbrev IsOfSigns : {A : Type 0} → Result A ConditionFault → Type 0
IsOfSigns (Ok x) = Unit {0}
IsOfSigns (Err fault) = IsSignFault fault

of_signs_if : {A : Type 0} (b : Bool) (x y : Result A ConditionFault) → IsOfSigns x → IsOfSigns y → IsOfSigns (if b then x else y)
of_signs_if true x y h k = h
of_signs_if false x y h k = k

byte_of_signs : (place : ℕ) (pair single : Option Sign) → IsOfSigns (byte_sign place pair single)
byte_of_signs place pair single = grind arith

sign_of_signs : (place : ℕ) (text : List ℕ) → IsOfSigns (sign_at place text)
sign_of_signs place [] = tt
sign_of_signs place (b ∷ bs) =
    of_signs_if (is_letter b) (name_sign place (b ∷ bs) (run_of is_name_byte (b ∷ bs))) _
    (of_signs_if (nat_lt 16 (run_of is_name_byte (b ∷ bs))) (Err _) (Ok _) tt tt)
    (of_signs_if (is_digit b) (number_sign place (b ∷ bs) (run_of is_digit (b ∷ bs))) _
    (of_signs_if (nat_lt 18 (run_of is_digit (b ∷ bs))) (Err _) (Ok _) tt tt)
    (byte_of_signs place (pair_of (at b pairs) bs) (at b singles)))

with_of_signs : (place : ℕ) (r : Result (Sign × ℕ) ConditionFault) (next : ℕ → Result (List Placed) ConditionFault) → IsOfSigns r → ((more : ℕ) → IsOfSigns (next more)) → IsOfSigns (with_sign place r next)
with_of_signs place r next h k = grind arith

from_of_signs : (bs : List ℕ) (place skip : ℕ) → IsOfSigns (signs_from place skip bs)
from_of_signs [] place skip = tt
from_of_signs (b ∷ bs) place (suc skip) = from_of_signs bs (suc place) skip
from_of_signs (b ∷ bs) place zero =
    of_signs_if (is_space b) (signs_from (suc place) 0 bs) _ (from_of_signs bs (suc place) 0)
    (with_of_signs place (sign_at place (b ∷ bs)) (λ more. signs_from (suc place) more bs) (sign_of_signs place (b ∷ bs)) (λ more. from_of_signs bs (suc place) more))

pub fault_of : (text : List ℕ) (fault : ConditionFault) → signs_of text ≡ Err fault → IsFaultOf text fault
fault_of text (f.Form place) e = subst IsOfSigns e (from_of_signs text 0 0)
fault_of text f.Memory e = tt
fault_of text _ e = e
