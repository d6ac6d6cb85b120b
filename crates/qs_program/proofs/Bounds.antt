-- Each block of a sound program is sound, and its load, as a whole and on one object, is at most the load of the whole
-- program. The functions that compute rooms, and many proofs about clients and machines, stand on it. It goes by
-- induction on lists, in which each number is at most their sum, and for a block's load by induction on the statements.
use Rattle.std.proofs.Common.{◌≡◌, ℕ, ◌+◌, ◌*◌, ◌<◌, ◌≤◌, Bool, true, false, ◌||◌, ◌==◌, List, [], ◌∷◌, length, refl, arith, sum_by}
use Rattle.std.specs.List.{AllByRecursion, list_any}
use Rattle.std.proofs.lemmas.List.Sums.{sum_by-cons, get_or-le-sum_by}
use Rattle.qs_objects.proofs.Elements.{AllByRecursion-get_or}
use Rattle.qs_program.specs.declared.program.Declared.{Declared}
use Rattle.qs_program.specs.audit.Statements.{Statements, end, command, query, assign, choose, again, leave}
use Rattle.qs_program.specs.audit.Loads.{load_of}
use Rattle.qs_program.specs.audit.Program.{BlockShape, ClientShape, ProgramShape, block_load, whole_load, no_block, no_client, block_at, client_at, blocks_of}
use Rattle.qs_program.specs.audit.Sound.{is_in}
use Rattle.qs_program.specs.Sound.{IsSound, IsSoundBlock, IsSoundBody, IsSoundClient}

pub blocks-bound : (objects : List Declared) (cs : List ClientShape) → AllByRecursion (IsSoundClient objects) cs → sum_by (λ (c : ClientShape). length c.blocks) cs ≤ length cs * 64
blocks-bound objects [] each = omega arith
blocks-bound objects (c ∷ cs) each = rw sum_by-cons (omega (arith, each.0.blocks, blocks-bound objects cs each.1))

-- a member's number is at most the sum
pub is_in-sum_by : (f : ℕ → ℕ) (xs : List ℕ) (x : ℕ) → is_in xs x ≡ true → f x ≤ sum_by f xs
is_in-sum_by f [] x member = cc
is_in-sum_by f (y ∷ ys) x member = rw sum_by-cons (by_test (y == x) (λ e. e) member (is_in-sum_by f ys x))
  where
    by_test : (b : Bool) → (b ≡ true → (y == x) ≡ true) → (b || list_any (λ z. z == x) ys) ≡ true → (is_in ys x ≡ true → f x ≤ sum_by f ys) → f x ≤ f y + sum_by f ys
    by_test true same h later = let e : y ≡ x = grind (arith, same refl) in rw e (omega arith)
    by_test false same h later = omega (arith, later h)

not_in : (reserved : List ℕ) (h o : ℕ) → is_in reserved h ≡ false → is_in reserved o ≡ true → (o == h) ≡ false
not_in reserved h o out member = by_test (o == h) refl
  where
    by_test : (b : Bool) → (o == h) ≡ b → b ≡ false
    by_test true e = let same : o ≡ h = grind (arith, e) in let wrong : is_in reserved h ≡ true = rw (← same) member in cc
    by_test false e = refl

-- a block makes no request on an object that it does not reserve
pub load_of-outside : (objects : List Declared) (reserved : List ℕ) (body : Statements) (h : ℕ) → IsSoundBody objects reserved body → is_in reserved h ≡ false → load_of body h ≡ 0
load_of-outside objects reserved end h sound out = refl
load_of-outside objects reserved (command c rest) h sound out = rw (not_in reserved h c.object out sound.0.reserves, load_of-outside objects reserved rest h sound.1 out) refl
load_of-outside objects reserved (query x c rest) h sound out = rw (not_in reserved h c.object out sound.1.reserves, load_of-outside objects reserved rest h sound.2 out) refl
load_of-outside objects reserved (assign x e rest) h sound out = load_of-outside objects reserved rest h sound.2 out
load_of-outside objects reserved (choose t b first other rest) h sound out =
    rw (load_of-outside objects reserved first h sound.1 out, load_of-outside objects reserved other h sound.2 out, load_of-outside objects reserved rest h sound.3 out) refl
load_of-outside objects reserved (again n body rest) h sound out =
    rw (load_of-outside objects reserved body h sound.1 out, load_of-outside objects reserved rest h sound.2 out) (omega arith)
load_of-outside objects reserved (leave rest) h sound out = load_of-outside objects reserved rest h sound out

load_of-in_block : (objects : List Declared) (b : BlockShape) (h : ℕ) → IsSoundBlock objects b → load_of b.body h ≤ block_load b
load_of-in_block objects b h sound = by_test (is_in b.reserved h) refl
  where
    by_test : (t : Bool) → is_in b.reserved h ≡ t → load_of b.body h ≤ block_load b
    by_test true e = is_in-sum_by (load_of b.body) b.reserved h e
    by_test false e = omega (arith, load_of-outside objects b.reserved b.body h sound.body e)

-- a block's load on an object is at most the whole load
pub load_of-whole : (p : ProgramShape) (c k h : ℕ) → IsSound p → c < length p.clients → k < blocks_of p c → load_of (block_at p c k).body h ≤ whole_load p
load_of-whole p c k h sound client block =
    let its_client : IsSoundClient p.objects (client_at p c) = AllByRecursion-get_or (IsSoundClient p.objects) p.clients c no_client sound.each client in
    let its_block : IsSoundBlock p.objects (block_at p c k) = AllByRecursion-get_or (IsSoundBlock p.objects) (client_at p c).blocks k no_block its_client.each block in
    omega (
      arith,
      load_of-in_block p.objects (block_at p c k) h its_block,
      get_or-le-sum_by block_load (client_at p c).blocks k no_block block,
      get_or-le-sum_by (λ (d : ClientShape). sum_by block_load d.blocks) p.clients c no_client client,
    )

-- a block of a sound program is sound
pub sound_block : (p : ProgramShape) (c k : ℕ) → IsSound p → c < length p.clients → k < blocks_of p c → IsSoundBlock p.objects (block_at p c k)
sound_block p c k sound client block =
    let its_client : IsSoundClient p.objects (client_at p c) = AllByRecursion-get_or (IsSoundClient p.objects) p.clients c no_client sound.each client in
    AllByRecursion-get_or (IsSoundBlock p.objects) (client_at p c).blocks k no_block its_client.each block

-- a block's load is at most the whole load
pub block_load-whole : (p : ProgramShape) (c k : ℕ) → c < length p.clients → k < blocks_of p c → block_load (block_at p c k) ≤ whole_load p
block_load-whole p c k client block =
    omega (
      arith,
      get_or-le-sum_by block_load (client_at p c).blocks k no_block block,
      get_or-le-sum_by (λ (d : ClientShape). sum_by block_load d.blocks) p.clients c no_client client,
    )
