-- `read` moves the value of a full place out. Assumes `Logic`.
use Rattle.std.proofs.Common.{◌≡◌, ℕ, ◌+◌, ◌*◌, ◌^◌, ◌<◌, List, [], ◌∷◌, length, set, get_or, Some, None, refl, sym, subst, arith, w64, length-set}
use base.Fraction.{full_share}
use base.Logic.{SProp, emp}
use base.Fml.{Fml, ftrue, fsep, fat, froom, flft}
use contract.Monad.{fact, fact_i}
use contract.Running.{tables}
use mir.MapTy.{inst_fn}
use mir.Syntax.{named}
use mir.Val.{Val, vint, vptr}
use types.Kit.{‵, raw, ◌⊛◌, some, given, at_ret, ◌$◌, ◌∵◌, !, qed, by, move, keep, drop, use0, use1, use2, pick, learn, split, join, rewrite, fsplit, fsplit3, fjoin, fjoin3, feq_i}
use types.Part.{whole, sub, look_in}
use types.Run.{look, stop, fld, load, size_lit, of_opd, bin, first, blocks, exec, returns, enter}
use types.ByLocal.{alloc_all, pass_all, free_all, look_at, get, through, sets, sets_last, env}
use denote.Builtin.{usize}
use denote.Exit.{yes}
use denote.Memory.{cell_at}
use denote.Plain.{uint_vals, uint_Tells}
use denote.RattleType.{owns}
use denote.RawPtr.{block_ptr}
use denote.Ref.{mut_vals, mut_Tells}
use denote.Signature.{plain, types_at}
use denote.Steps.{nothing, heard, opens, closes}
use denote.Triple.Walked.{Stays, stay_dropped, stay_ref, walk_of, Goes-dropped, Goes-ref}
use Rattle.core.proofs.alloc.Calls.{Al, token}
use Rattle.core.proofs.mem.Param.{El, R, elτ, Good}
use Rattle.core.proofs.slice.Rows.{el_out}
use Rattle.core.proofs.slots.Bodies.{after}
use Rattle.core.proofs.slots.Leases.{args, block_ty}
use Rattle.core.proofs.slots.Places.{sz}
use Rattle.core.proofs.ptr.Rows.{times_below, one_below}
use Rattle.std.proofs.raw_atomic.Walks.{proved, leaves}
use Rattle.qs_chunk.specs.Room.{row_owns}
use Rattle.qs_chunk.proofs.Rooms.{One, Rest, place_out, place_in, Rm, Owner, room_val, room_had, room_made}
use Rattle.qs_chunk.specs.contracts.cells.Room.read.{ended, clauses}
use Rattle.qs_chunk.specs.contracts.cells.Room.read.Key.{name as #self}
use Rattle.qs_chunk.proofs.cells.Room.read.Statement.{statement}
use Rattle.qs_chunk.proofs.cells.Room.read.Code as code

pub read_spec : {M : Type 1} → statement M
read_spec 𝓤 𝓛 𝓜 𝓡 wired X U LX LU g d dd _ _ =
    let H = 𝓛.H in let 𝓣 = tables 𝓤 H 𝓜 𝓡 𝓡.env in
    let E : El = record { row = X; laws = LX } in let Z : Al = record { row = U; laws = LU; g = g; d = d; drops = dd } in
    let En = ended X U g d dd in let c = clauses X U g d dd 𝓛 𝓜.mem 𝓡.returns in let fn = inst_fn (args E Z) code.function in
    let hs : Stays En.signature.params En.kept = (stay_ref (0 ∷ []) tt (plain (λ _. Rm E Z)), (stay_dropped (plain (λ _. usize)) yes, tt)) in
    proved 𝓛 En hs c 𝓜 𝓡 (Goes-ref 𝓛 3 0 tt (plain (λ _. Rm E Z)), (Goes-dropped 𝓛 3 (plain (λ _. usize)) yes (λ κs x f. refl), tt))
    (#self (args E Z)) fn (code.unfolded 𝓤 H 𝓜 𝓡 wired (X, (U, tt)) d dd)
    (λ κs. (mut_vals, (uint_vals w64, tt))) (λ κs. (mut_Tells (named 0) κs.0 (Rm E Z), (uint_Tells w64, tt))) (λ κs qs bounds a gh are.
    let rb : ℕ = a.0.ref_ptr.0 in let ro : ℕ = a.0.ref_ptr.1 in let h : Owner E Z = a.0.now in let i : ℕ = a.1.0 in
    let y : (walk_of 𝓛 En hs c).Ghost = ((κs, qs, bounds, a, (mut_vals a.0, (uint_vals w64 i, tt))), gh) in let Post : Val → SProp 𝓤 = (walk_of 𝓛 En hs c).post y in
    let others : Fml = fsep (flft κs.1.0 qs.1.0) (fsep (flft κs.1.1.0 qs.1.1.0) ftrue) in
    let Inside : Type 0 = i < length h.places in let Full : Type 0 = (value : X.Denot) × (get_or h.places i None ≡ Some value) in
    qed 𝓛 (((‵ (flft κs.0 qs.0) ⊛ ‵ others) ⊛ ‵ (owns (types_at En.signature.params κs) a y.0.4)) ∷ (raw (fact 𝓤 _) ⊛ raw (fact 𝓤 _) ⊛ raw (fact 𝓤 Inside) ⊛ raw (fact 𝓤 Full)) ∷ []) ∵
    move ! (1 ∷ []) $ split ! $ drop ! $ split ! $ drop ! $ split ! $ heard ! Inside (λ within. heard ! Full (λ full.
    split ! $ split ! $ move ! (2 ∷ []) $ fsplit ! $ fsplit3 ! $ keep ! (1 ∷ 2 ∷ 4 ∷ 5 ∷ []) $
    enter ! 𝓣.C 𝓣.Λ fn (vptr rb ro ∷ vint w64 i ∷ []) Post $ alloc_all ! (λ l. pass_all ! refl ((tt, tt), ((tt, record { fits = are.1.0.1 }), tt)) $ let Ev = env fn.locals l in
    opens ! tt (Rm E Z) {h = h} rb ro (λ vs. move ! (1 ∷ []) $ room_had E Z ! h vs (λ b o lies holds small.
    rewrite ! 3 (λ (ws : List Val). ‵ (cell_at full_share (Rm E Z).mir ws rb ro)) holds refl $
    let n = length h.places in let x = full.0 in let s = sz E in let at = i * s + o in
    let tiny : s < 2 ^ 64 = omega (arith, one_below n s (2 ^ 63) (omega arith) small) in let far : i * s < 2 ^ 64 = omega (arith, times_below i n s (2 ^ 63) (omega arith) small) in
    let new : Owner E Z = record h { places = set h.places i None } in
    let kept : length new.places * s < 2 ^ 63 = subst (λ (k : ℕ). k * s < 2 ^ 63) (sym (length-set h.places i None)) small in
    use1 𝓛 (‵ (One E 𝓛 b at (Some x)) ⊛ raw (Rest E 𝓛 b h.places i o within)) (place_out E 𝓛 b h.places i o within (Some x) full.1) $ split ! $
    use1 𝓛 (some (λ (v : Val). given (Good E v) (‵ (fat full_share (elτ E) b at v) ⊛ ‵ (X.own_val x (v ∷ []))))) (el_out E 𝓛 b x at) $ pick ! (λ v. learn ! (λ good. split ! $
    -- [the value's cell; what it owns; the other places; the right; the fields; their cell; the open borrow, in three
    -- entries; the other tokens]
    first ! $ blocks ! $ sets ! (of_opd ! (load ! (through ! refl (fld ! refl (stop !))) (look_in ! 5 (sub ! 0 refl (whole !))))) refl (tt, tt) $
    sets ! (bin ! (get ! refl) (size_lit ! (record { fits = tiny })) (record { fits = far })) refl (tt, record { fits = far }) $ sets ! (bin ! (get ! refl) (get ! refl) tt) refl (tt, tt) $
    sets_last ! (of_opd ! (load ! (through ! refl (stop !)) (look ! 0 refl))) refl good $ exec ! 𝓣.C 𝓣.Λ Ev (after 1 fn.body) (at_ret Ev Post) $ sets ! (of_opd ! (get ! refl)) refl good $
    use1 𝓛 (‵ (froom (elτ E) b at)) (𝓛.laws.at_room (elτ E) b at v) $ use1 𝓛 (‵ (One E 𝓛 b at None)) (𝓛.laws.room-raw (elτ E) b at) $
    move ! (0 ∷ 2 ∷ []) $ use2 𝓛 (‵ (row_owns (R E) b o new.places)) (place_in E 𝓛 b h.places i o within None) $ move ! (0 ∷ 2 ∷ 3 ∷ []) $
    rewrite ! 1 (λ (k : ℕ). ‵ (token Z h.giver (block_ty E k) (block_ptr b o))) (sym (length-set h.places i None)) refl $ room_made E Z ! new b o lies kept $
    move ! (2 ∷ 0 ∷ 3 ∷ 4 ∷ 5 ∷ []) $ closes ! tt (Rm E Z) new (room_val E Z (block_ptr b o) ∷ []) rb ro $
    returns ! (look_at ! 0 refl) $ free_all ! refl $
    -- [self, in two entries; its token; what the value owns; the other tokens]
    feq_i ! (List Val) (vptr rb ro ∷ []) (vptr rb ro ∷ []) refl $ fjoin3 ! $ nothing ! $ nothing ! $ fjoin ! $ move ! (1 ∷ 0 ∷ []) $ fjoin ! $ move ! (1 ∷ 3 ∷ []) $ join ! $
    use0 𝓛 (raw (fact 𝓤 _)) (fact_i 𝓤 _ (emp 𝓤) refl) $ use0 𝓛 (raw (fact 𝓤 _)) (fact_i 𝓤 _ (emp 𝓤) refl) $ use0 𝓛 (raw (fact 𝓤 _)) (fact_i 𝓤 _ (emp 𝓤) full.1) $ keep ! (3 ∷ 4 ∷ 5 ∷ 0 ∷ 1 ∷ 2 ∷ []) $ by ! (leaves 𝓛 En hs c y v x (new, (tt, tt)) (tt, (tt, tt)))))))))))
