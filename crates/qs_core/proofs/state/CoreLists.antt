-- A list in which one member was replaced is, read as a function of numbers, the old function with a new value at that
-- number. The code replaces one client or one handler in a step, while the machine is defined by functions, so all
-- lemmas that lead from one to the other use this. The proofs go by induction on the list.
use Rattle.std.proofs.Common.{◌≡◌, ◌<◌, ℕ, zero, suc, Bool, true, false, ◌==◌, if◌then◌else◌, List, [], ◌∷◌, length, map, get_or, refl, sym, ap, subst, ◌∙◌, arith}
use Rattle.qs_played.proofs.Names.{AllByRecursion, set, fun_ext, length-map, map-set, get_or-set_same, get_or-set_other, ProgramShape, put, fresh_held}
use Rattle.qs_handler.specs.audit.Handler.{Handler, free}
use Rattle.qs_core.proofs.Names.{put_same, put_set_at, CoreClientState, CoreHandlerState, handler_with_act, core_handler_of, no_client_part, client_part_at, client_part, tickets_at}

-- a list of what its members show, changed at one place
pub map_put : {A B : Type 0} (f : A → B) (xs : List A) (n : ℕ) (x : A) (d : B) → n < length xs → (m : ℕ) → get_or (map f (set xs n x)) m d ≡ put (λ k. get_or (map f xs) k d) n (f x) m
map_put f xs n x d inside m =
    ap (λ ys. get_or ys m d) (map-set f xs n x)
    ∙ put_set_at (map f xs) n (f x) d (subst (λ k. n < k) (sym (length-map xs f)) inside) m

pub map_here : {A B : Type 0} (f : A → B) (xs : List A) (n : ℕ) (d : A) (e : B) → n < length xs → get_or (map f xs) n e ≡ f (get_or xs n d)
map_here f [] n d e inside = absurd (omega arith)
map_here f (x ∷ xs) zero d e inside = refl
map_here f (x ∷ xs) (suc n) d e inside = map_here f xs n d e (omega arith)

pub all_set : {A : Type 0} (P : A → Type 0) (xs : List A) (n : ℕ) (x : A) → P x → AllByRecursion P xs → AllByRecursion P (set xs n x)
all_set P [] n x h all = tt
all_set P (y ∷ xs) zero x h all = (h, all.1)
all_set P (y ∷ xs) (suc n) x h all = (all.0, all_set P xs n x h all.1)

pub side_put : (cs : List CoreClientState) (c : ℕ) (s : CoreClientState) → c < length cs → client_part_at (set cs c s) ≡ put (client_part_at cs) c (client_part s)
side_put cs c s inside = fun_ext (map_put client_part cs c s no_client_part inside)

pub handler_put : (p : ProgramShape) (hs : List CoreHandlerState) (h : ℕ) (s : CoreHandlerState) → h < length hs → core_handler_of p (set hs h s) ≡ put (core_handler_of p hs) h (handler_with_act s)
handler_put p hs h s inside = fun_ext at_each
  where
    at_each : (n : ℕ) → core_handler_of p (set hs h s) n ≡ put (core_handler_of p hs) h (handler_with_act s) n
    at_each n = ap (λ (ys : List Handler). get_or ys n (free (fresh_held p n))) (map-set handler_with_act hs h s) ∙ by_test (h == n) refl
      where
        by_test : (b : Bool) → (h == n) ≡ b → get_or (set (map handler_with_act hs) h (handler_with_act s)) n (free (fresh_held p n)) ≡ (if b then handler_with_act s else core_handler_of p hs n)
        by_test true e = let same : h ≡ n = grind (arith, e) in subst (λ m. get_or (set (map handler_with_act hs) h (handler_with_act s)) m (free (fresh_held p m)) ≡ handler_with_act s) same (get_or-set_same (map handler_with_act hs) h (handler_with_act s) (free (fresh_held p h)) (subst (λ k. h < k) (sym (length-map hs handler_with_act)) inside))
        by_test false e = get_or-set_other (map handler_with_act hs) h n (handler_with_act s) (free (fresh_held p n)) (λ is. let yes : (h == n) ≡ true = grind (arith, is) in cc)

pub tickets_put_at : (hs : List CoreHandlerState) (h : ℕ) (s : CoreHandlerState) → h < length hs → tickets_at (set hs h s) ≡ put (tickets_at hs) h s.tickets
tickets_put_at hs h s inside = fun_ext (map_put (λ (x : CoreHandlerState). x.tickets) hs h s [] inside)

-- a handler whose queue stays
pub tickets_keep : (hs : List CoreHandlerState) (h : ℕ) (s : CoreHandlerState) → h < length hs → s.tickets ≡ tickets_at hs h → tickets_at (set hs h s) ≡ tickets_at hs
tickets_keep hs h s inside is = tickets_put_at hs h s inside ∙ put_same (tickets_at hs) h s.tickets (sym is)
