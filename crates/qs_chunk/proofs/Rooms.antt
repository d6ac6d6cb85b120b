-- What a room owns is taken apart, and made again. Assumes `Logic`.
--     one_place      a place comes out of a row, and any other content of it goes back
--     value_out      what a full place owns: one machine value at its address
--     of_block, to_block      room for an array is a row of empty places
--     room_had, room_made      the owner of a room: its row, and the right to give the block back
use Rattle.std.proofs.Common.{◌≡◌, ℕ, zero, suc, ◌+◌, ◌*◌, ◌^◌, ◌<◌, List, [], ◌∷◌, length, set, get_or, replicate, Option, None, sym, refl, ap, ◌∙◌, arith}
use seplogic.Ra.Ura.{Ura}
use base.Logic.{SProp, ent, sep, all, all_e, wand, apply∗, id⊢}
use base.Fml.{Fml, froom}
use mir.Syntax.{ty_array}
use mir.Val.{Val, vstruct, vcons, vnil}
use types.Logic.{Logic, sem}
use types.Kit.{Goal, Step, step, Seq, Item, ‵, raw, ◌⊛◌, ◌$◌, ◌∵◌, !, qed, by, move, keep, use1, use2, split, rewrite, frame, each, assume, fsplit, fjoin, flt_l, flt_i, done}
use denote.Index.{place, place_is}
use denote.Laws.{shows}
use denote.Param.Laws.{param_laws}
use denote.RattleType.{RattleType}
use denote.RawPtr.{Ptr, block_ptr, in_a_block}
use denote.Steps.{peeks}
use denote.Struct.Struct.{Struct}
use denote.Struct.Owning.{shape}
use Rattle.core.proofs.alloc.Calls.{Al, token}
use Rattle.core.proofs.mem.Param.{El, R, el_x, elτ}
use Rattle.core.proofs.slots.Places.{sz}
use Rattle.core.proofs.slots.Leases.{P, block_ty}
use Rattle.qs_chunk.specs.Room.{place_owns, row_owns, room_owns}
use Rattle.qs_chunk.specs.declared.cells.Room.{Room}
use Rattle.qs_chunk.specs.contracts.cells.Room as T
use Rattle.qs_chunk.proofs.cells.Room.TheLaws as L

module _ (E : El) {M : Type 1} {𝓤 : Ura M} (𝓛 : Logic 𝓤) (b : ℕ) where
  open 𝓛 use {H}

  abbrev pub Cell : Type 0
  Cell = Option (el_x E)

  abbrev pub One : ℕ → Cell → Fml
  One = place_owns (R E) b

  abbrev pub Row : ℕ → List Cell → Fml
  Row = row_owns (R E) b

  -- with the content c of its i-th place, the row is whole
  abbrev pub Filling : ℕ → List Cell → ℕ → Cell → SProp 𝓤
  Filling o places i c = wand 𝓤 (sem 𝓛 (One (place (sz E) o i) c)) (sem 𝓛 (Row o (set places i c)))

  one_place : (places : List Cell) (i o : ℕ) → i < length places
      → ent 𝓤 (sem 𝓛 (Row o places)) (sep 𝓤 (sem 𝓛 (One (place (sz E) o i) (get_or places i None))) (all 𝓤 (Filling o places i)))
  one_place [] i o within = absurd (omega arith)
  one_place (c ∷ places) zero o within = qed 𝓛 (‵ (Row o (c ∷ places)) ∷ []) ∵ fsplit ! $ frame ! $
      each ! (Filling o (c ∷ places) zero) (λ d. assume ! (‵ (One o d)) $ fjoin ! $ done !)
  one_place (c ∷ places) (suc i) o within = let at = o + sz E in qed 𝓛 (‵ (Row o (c ∷ places)) ∷ []) ∵ fsplit ! $ move ! (1 ∷ []) $
      use1 𝓛 (‵ (One (place (sz E) at i) (get_or places i None)) ⊛ raw (all 𝓤 (Filling at places i))) (one_place places i at (omega arith)) $ split ! $ frame ! $
      each ! (Filling o (c ∷ places) (suc i)) (λ d. assume ! (‵ (One (place (sz E) at i) d)) $ move ! (1 ∷ []) $ use1 𝓛 (raw (Filling at places i d)) (all_e 𝓤 (Filling at places i) d) $ move ! (1 ∷ 0 ∷ []) $
      use2 𝓛 (‵ (Row at (set places i d))) (apply∗ 𝓤 (sem 𝓛 (One (place (sz E) at i) d)) (sem 𝓛 (Row at (set places i d)))) $ move ! (1 ∷ 0 ∷ []) $ fjoin ! $ done !)

  module _ (places : List Cell) (i o : ℕ) (within : i < length places) where
    abbrev pub at : ℕ
    at = i * sz E + o

    -- the rest of the row
    abbrev pub Rest : SProp 𝓤
    Rest = all 𝓤 (Filling o places i)

    pub place_out : (c : Cell) → get_or places i None ≡ c → ent 𝓤 (sem 𝓛 (Row o places)) (sep 𝓤 (sem 𝓛 (One at c)) Rest)
    place_out c is = qed 𝓛 (‵ (Row o places) ∷ []) ∵ use1 𝓛 (‵ (One (place (sz E) o i) (get_or places i None)) ⊛ raw Rest) (one_place places i o within) $ split ! $
        rewrite ! 0 (λ (x : Cell). ‵ (One (place (sz E) o i) x)) is refl $ rewrite ! 0 (λ (k : ℕ). ‵ (One k c)) (place_is (sz E) o i) refl $ done !

    pub place_in : (c : Cell) → ent 𝓤 (sep 𝓤 (sem 𝓛 (One at c)) Rest) (sem 𝓛 (Row o (set places i c)))
    place_in c = qed 𝓛 (‵ (One at c) ∷ raw Rest ∷ []) ∵ rewrite ! 0 (λ (k : ℕ). ‵ (One k c)) (sym (place_is (sz E) o i)) refl $ move ! (1 ∷ []) $
        use1 𝓛 (raw (Filling o places i c)) (all_e 𝓤 (Filling o places i) c) $ move ! (1 ∷ 0 ∷ []) $
        use2 𝓛 (‵ (Row o (set places i c))) (apply∗ 𝓤 (sem 𝓛 (One (place (sz E) o i) c)) (sem 𝓛 (Row o (set places i c)))) $ done !

  pub of_block : (n o : ℕ) → ent 𝓤 (H.room (ty_array (elτ E) n) b o) (sem 𝓛 (Row o (replicate n None)))
  of_block zero o = qed 𝓛 (‵ (froom (ty_array (elτ E) 0) b o) ∷ []) ∵ keep ! [] $ done !
  of_block (suc n) o = qed 𝓛 (‵ (froom (ty_array (elτ E) (suc n)) b o) ∷ []) ∵
      use1 𝓛 (‵ (froom (elτ E) b o) ⊛ ‵ (froom (ty_array (elτ E) n) b (o + sz E))) (𝓛.laws.room_uncons (elτ E) n b o) $ split ! $
      use1 𝓛 (‵ (One o None)) (𝓛.laws.room-raw (elτ E) b o) $ frame ! $ by ! (of_block n (o + sz E))

  pub to_block : (n o : ℕ) → ent 𝓤 (sem 𝓛 (Row o (replicate n None))) (H.room (ty_array (elτ E) n) b o)
  to_block zero o = 𝓛.laws.room_nil (elτ E) b o
  to_block (suc n) o = qed 𝓛 (‵ (Row o (replicate (suc n) None)) ∷ []) ∵ fsplit ! $ use1 𝓛 (‵ (froom (elτ E) b o)) (𝓛.laws.raw-room (elτ E) b o) $ move ! (1 ∷ []) $
      use1 𝓛 (‵ (froom (ty_array (elτ E) n) b (o + sz E))) (to_block n (o + sz E)) $ move ! (1 ∷ 0 ∷ []) $ by ! (𝓛.laws.room_cons (elτ E) n b o)

module _ (E : El) (Z : Al) where
  -- the row of `Room`, its values, its two fields, and how the machine has them
  abbrev pub Rm : RattleType
  Rm = T.the_row (R E) (P E Z) Z.g

  abbrev pub Owner : Type 0
  Owner = Room (el_x E) Z.row.Denot

  abbrev pub Fields : RattleType
  Fields = Struct (shape (T.the_type (R E) (P E Z) Z.g))

  abbrev pub room_val : Ptr → Val
  room_val p = vstruct (vcons (denote.RawPtr.ptr_val p) (vcons (vstruct vnil) vnil))

  abbrev pub Right : Owner → ℕ → ℕ → Fml
  Right d b o = token Z d.giver (block_ty E (length d.places)) (block_ptr b o)

module _ (E : El) (Z : Al) {M : Type 1} {𝓤 : Ura M} {𝓛 : Logic 𝓤} {K : Type 0} {Γ : List (Item 𝓤)} {G : Goal 𝓤 𝓛.H} where
  pub room_had : K → (d : Owner E Z) (vs : List Val)
      → ((b o : ℕ) → d.ptr ≡ block_ptr b o → vs ≡ room_val E Z (block_ptr b o) ∷ [] → length d.places * sz E < 2 ^ 63
      → Seq K 𝓛 (‵ (row_owns (R E) b o d.places) ∷ ‵ (Right E Z d b o) ∷ ‵ ((Fields E Z).own_val (d.ptr, (tt, tt)) (room_val E Z (block_ptr b o) ∷ [])) ∷ Γ) G)
      → Seq K 𝓛 (‵ ((Rm E Z).own_val d vs) ∷ Γ) G
  room_had t d vs k =
      let LE = param_laws 0 E.row E.laws in let LZ = param_laws 1 Z.row Z.laws in
      peeks t (Rm E Z) _ (shows 𝓛 (Rm E Z)) d vs (λ is. fsplit t $ move t (1 ∷ []) $
      in_a_block t d.ptr (λ p. room_owns (R E) (token Z d.giver) p d.places) (id⊢ 𝓤 _) (λ b o e. fsplit t $ flt_l t (λ small. fsplit t $
      let holds : vs ≡ room_val E Z (block_ptr b o) ∷ [] = (L.lowers (R E) (P E Z) Z.g LE LZ).val_is d vs is ∙ ap (λ p. room_val E Z p ∷ []) e in
      rewrite t 2 (λ (ws : List Val). ‵ ((Fields E Z).own_val (d.ptr, (tt, tt)) ws)) holds refl $ k b o e holds small)))

  pub room_made : K → (d : Owner E Z) (b o : ℕ) → d.ptr ≡ block_ptr b o → length d.places * sz E < 2 ^ 63
      → Step K 𝓛 (‵ ((Rm E Z).own_val d (room_val E Z (block_ptr b o) ∷ [])) ∷ Γ) G
      (‵ (row_owns (R E) b o d.places) ∷ ‵ (Right E Z d b o) ∷ ‵ ((Fields E Z).own_val (d.ptr, (tt, tt)) (room_val E Z (block_ptr b o) ∷ [])) ∷ Γ) G
  room_made t d b o lies small = step (λ s. fjoin t $ flt_i t (length d.places * sz E) (2 ^ 63) small $ fjoin t $
      rewrite t 0 (λ (p : Ptr). ‵ (room_owns (R E) (token Z d.giver) p d.places)) (sym lies) refl $ move t (1 ∷ 0 ∷ []) $ fjoin t $ s)
