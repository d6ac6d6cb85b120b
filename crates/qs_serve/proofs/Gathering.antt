-- What was read up to the end, or up to as many bytes as are wanted, is the front of the bytes that were there.
use Rattle.std.proofs.Common.{◌≡◌, ◌<◌, ◌≤◌, ⊎_elim, ℕ, List, ◌++◌, length, take, Option, Some, None, ap, subst, sym, ◌∙◌, append-nil}
use Rattle.std.specs.Prelude.{IfOk, IfSome, Result, Ok, Err, Vec}
use Rattle.std.specs.Global.{Global}
use Rattle.std.proofs.KnownBytes.{Consumes-trans}
use Rattle.qs_serve.specs.Input.{IsReadOn}
use Rattle.std.specs.Io.KnownBytes.{Consumes, IsAtEnd}
use Rattle.std.proofs.Math.Seq.{take-append_seam}
use Rattle.std.proofs.Math.Nat.{eq-or-lt_of_le}
use Rattle.std.proofs.lemmas.List.{take-append-le, take_all}

pub read_to_end : (old new : Option (List ℕ)) (got : List ℕ) (longest : ℕ) → Consumes old new got → IsAtEnd new → length got ≤ longest
    → IfSome old (λ bytes. got ≡ take longest bytes)
read_to_end None new got longest read end few = tt
read_to_end (Some xs) None got longest read end few = absurd read
read_to_end (Some xs) (Some ys) got longest read end few =
    let all : xs ≡ got = read ∙ ap (λ l. got ++ l) end ∙ append-nil got in
    sym (take_all longest got few) ∙ ap (take longest) (sym all)

pub read_full : (old new : Option (List ℕ)) (got : List ℕ) (longest : ℕ) → Consumes old new got → length got ≡ longest
    → IfSome old (λ bytes. got ≡ take longest bytes)
read_full None new got longest read full = tt
read_full (Some xs) None got longest read full = absurd read
read_full (Some xs) (Some ys) got longest read full =
    sym (take-append_seam got ys) ∙ ap (λ n. take n (got ++ ys)) full ∙ ap (take longest) (sym read)

-- in either case, by how many bytes there are
pub read_either : (old new : Option (List ℕ)) (got : List ℕ) (longest : ℕ) → Consumes old new got → length got ≤ longest
    → (length got < longest → IsAtEnd new) → IfSome old (λ bytes. got ≡ take longest bytes)
read_either old new got longest read few end =
    ⊎_elim (λ (full : length got ≡ longest). read_full old new got longest read full) (λ (less : length got < longest). read_to_end old new got longest read (end less) few)
    (eq-or-lt_of_le few)

-- the front of a buffer, with what stands after it or without
pub front_alone : (buf rest : List ℕ) (n m : ℕ) → n ≤ length buf → n ≡ m → take n buf ≡ take m (buf ++ rest)
front_alone buf rest n m within same = sym (take-append-le n buf rest within) ∙ ap (λ k. take k (buf ++ rest)) same

-- a front that was read, and what was read after it
read_on : (old mid new : Option (List ℕ)) (front : List ℕ) (longest : ℕ) (v : Vec ℕ Global) → Consumes old mid front → IsReadOn mid new longest front v
    → length v.items ≤ longest → IfSome old (λ bytes. v.items ≡ take longest bytes)
read_on old mid new front longest v read on few =
    read_either old new v.items longest (subst (Consumes old new) (sym on.bytes) (Consumes-trans old mid new front on.more read on.read)) few on.end

pub all_read : {E : Type 0} (r : Result (Vec ℕ Global) E) (old mid new : Option (List ℕ)) (front : List ℕ) (longest : ℕ) → Consumes old mid front
    → IfOk r (IsReadOn mid new longest front) → IfOk r (λ v. length v.items ≤ longest) → IfOk r (λ v. IfSome old (λ bytes. v.items ≡ take longest bytes))
all_read (Ok v) old mid new front longest read on few = read_on old mid new front longest v read on few
all_read (Err e) old mid new front longest read on few = tt
