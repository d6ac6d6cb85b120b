-- The interaction tree of a sound block makes requests on no objects but those of the block's list. The proofs of
-- isolation and of what clients send need this to leave all other objects aside. It goes by induction on the
-- statements, and for a repeat by induction on its turns.
use Rattle.std.proofs.Common.{◌≡◌, ◌<◌, ℕ, zero, suc, Bool, true, false, if◌then◌else◌, nat_lt, List, length, get_or, refl, sym, ap, subst, arith, slice_set}
use Rattle.qs_meaning.proofs.Common.{again, assign, blocks_of, BlockShape, choose, client_at, command, Declared, end, expr_value, get_or_past, is_in, IsSoundBody, leave, Locals, no_block, no_client, query, Statements, test_value, text_of}
use Rattle.qs_meaning.specs.audit.Following.{reserves}
use Rattle.qs_meaning.specs.Following.{AsksOnly, BlocksAskOnly, block_tree}
use Rattle.qs_meaning.specs.audit.Interaction.{Interaction, Done, Next, meaning}
use Rattle.qs_meaning.specs.Interaction.{turns}
use Rattle.qs_program.proofs.Bounds.{sound_block}

module _ (objects : List Declared) (reserved : List ℕ) where
  abbrev Asks : Interaction → Type 0
  Asks = AsksOnly (is_in reserved)

  either : (b : Bool) (t u : Interaction) → Asks t → Asks u → Asks (if b then t else u)
  either true t u a b = a
  either false t u a b = b

  turns_ask : (k : ℕ) (body : Next → Next) (next : Next) → ((f : Next) → ((l : Locals) → Asks (f l)) → (l : Locals) → Asks (body f l)) → ((l : Locals) → Asks (next l)) → (l : Locals) → Asks (turns k body next l)
  turns_ask zero body next one later l = later l
  turns_ask (suc k) body next one later l = one (turns k body next) (turns_ask k body next one later) l

  meaning_asks : (body : Statements) (next leaves : Next) → IsSoundBody objects reserved body → ((l : Locals) → Asks (next l)) → ((l : Locals) → Asks (leaves l)) → (l : Locals) → Asks (meaning body next leaves l)
  meaning_asks end next leaves sound a b l = a l
  meaning_asks (command c rest) next leaves sound a b l = (sound.0.query, sound.0.reserves, meaning_asks rest next leaves sound.1 a b l)
  meaning_asks (query x c rest) next leaves sound a b l = (sound.1.query, sound.1.reserves, λ v. meaning_asks rest next leaves sound.2 a b (slice_set l x v))
  meaning_asks (assign x e rest) next leaves sound a b l = meaning_asks rest next leaves sound.2 a b (slice_set l x (expr_value l e))
  meaning_asks (choose t has_else first other rest) next leaves sound a b l =
      let later : (l : Locals) → Asks (meaning rest next leaves l) = meaning_asks rest next leaves sound.3 a b in
      either (test_value l t) (meaning first (meaning rest next leaves) leaves l) (meaning other (meaning rest next leaves) leaves l)
      (meaning_asks first (meaning rest next leaves) leaves sound.1 later b l) (meaning_asks other (meaning rest next leaves) leaves sound.2 later b l)
  meaning_asks (again k body rest) next leaves sound a b l =
      let later : (l : Locals) → Asks (meaning rest next leaves l) = meaning_asks rest next leaves sound.2 a b in
      turns_ask k (λ turn. meaning body turn (meaning rest next leaves)) (meaning rest next leaves) (λ f w. meaning_asks body f (meaning rest next leaves) sound.1 w later) later l
  meaning_asks (leave rest) next leaves sound a b l = b l

pub blocks_ask_only : BlocksAskOnly
blocks_ask_only p sound t l = by_client (nat_lt t.client (length p.clients)) refl
  where
    none : text_of p t ≡ no_block → AsksOnly (reserves p t) (block_tree p t l)
    none e = subst (λ (b : BlockShape). AsksOnly (is_in b.reserved) (meaning b.body Done Done l)) (sym e) tt

    by_block : t.client < length p.clients → (b : Bool) → nat_lt t.index (blocks_of p t.client) ≡ b → AsksOnly (reserves p t) (block_tree p t l)
    by_block less true e =
        let block = sound_block p t.client t.index sound less (grind (arith, e)) in
        meaning_asks p.objects (text_of p t).reserved (text_of p t).body Done Done block.body (λ l. tt) (λ l. tt) l
    by_block less false e = none (get_or_past (client_at p t.client).blocks t.index no_block (grind (arith, e)))

    by_client : (b : Bool) → nat_lt t.client (length p.clients) ≡ b → AsksOnly (reserves p t) (block_tree p t l)
    by_client true e = by_block (grind (arith, e)) (nat_lt t.index (blocks_of p t.client)) refl
    by_client false e =
        let out : client_at p t.client ≡ no_client = get_or_past p.clients t.client no_client (grind (arith, e)) in
        none (ap (λ c. get_or c.blocks t.index no_block) out)
