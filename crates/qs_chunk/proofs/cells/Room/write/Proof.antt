-- `write` fills an empty place. Assumes `Logic`.
use Rattle.std.proofs.Common.{◌≡◌, ℕ, ◌+◌, ◌*◌, ◌^◌, ◌<◌, List, [], ◌∷◌, ◌++◌, length, set, get_or, Some, None, refl, sym, subst, arith, w64, length-set}
use base.Fraction.{full_share}
use base.Logic.{SProp, emp}
use base.Fml.{Fml, ftrue, fsep, froom, flft}
use contract.Monad.{fact, fact_i}
use contract.Running.{tables}
use mir.MapTy.{inst_fn}
use mir.Val.{Val, vint, vptr, vunit}
use prog.Wp.{WpFn}
use types.Kit.{‵, raw, ◌⊛◌, prop, at_ret, ◌$◌, ◌∵◌, !, qed, by, move, keep, drop, use0, use1, use2, split, join, rewrite, regoal, fsplit, fsplit3, fjoin, fjoin3, feq_i}
use types.Part.{whole, sub, look_in}
use types.Run.{init, stop, fld, load, size_lit, unit_lit, of_opd, bin, assigns_last, first, blocks, exec, returns, enter}
use types.ByLocal.{alloc_all, pass_all, free_all, look_at, get, through, sets, env}
use denote.Builtin.{usize}
use denote.Exit.{yes, no}
use denote.Memory.{cell_at}
use denote.RattleType.{owns}
use denote.RawPtr.{block_ptr}
use denote.Signature.{plain, types_at}
use denote.Steps.{nothing, heard, opens, closes}
use denote.Triple.Walked.{Stays, stay_dropped, stay_ref, walk_of, Goes-dropped, Goes-ref}
use Rattle.core.proofs.alloc.Calls.{Al, token}
use Rattle.core.proofs.mem.Param.{El, R, elτ, lawful, one}
use Rattle.core.proofs.slice.Rows.{el_in}
use Rattle.core.proofs.slots.Bodies.{after}
use Rattle.core.proofs.slots.Leases.{args, block_ty}
use Rattle.core.proofs.slots.Places.{sz}
use Rattle.core.proofs.ptr.Rows.{times_below, one_below}
use Rattle.std.proofs.raw_atomic.Walks.{proved_at, leaves}
use Rattle.qs_chunk.specs.Room.{row_owns}
use Rattle.qs_chunk.proofs.Rooms.{One, Rest, place_out, place_in, Rm, Owner, room_val, room_had, room_made}
use Rattle.qs_chunk.specs.contracts.cells.Room.write.{ended, clauses}
use Rattle.qs_chunk.specs.contracts.cells.Room.write.Key.{name as #self}
use Rattle.qs_chunk.proofs.cells.Room.write.Statement.{statement}
use Rattle.qs_chunk.proofs.cells.Room.write.Code as code

pub write_spec : {M : Type 1} → statement M
write_spec 𝓤 𝓛 𝓜 𝓡 wired X U LX LU g d dd _ _ =
    let H = 𝓛.H in let 𝓣 = tables 𝓤 H 𝓜 𝓡 𝓡.env in
    let E : El = record { row = X; laws = LX } in let Z : Al = record { row = U; laws = LU; g = g; d = d; drops = dd } in
    let En = ended X U g d dd in let c = clauses X U g d dd 𝓛 𝓜.mem 𝓡.returns in let fn = inst_fn (args E Z) code.function in
    let hs : Stays En.signature.params En.kept = (stay_ref (0 ∷ []) tt (plain (λ _. Rm E Z)), (stay_dropped (plain (λ _. usize)) yes, (stay_dropped (plain (λ _. R E)) no, tt))) in
    proved_at 𝓛 En hs c 𝓜 𝓡 (Goes-ref 𝓛 3 0 tt (plain (λ _. Rm E Z)), (Goes-dropped 𝓛 3 (plain (λ _. usize)) yes (λ κs x f. refl), (Goes-dropped 𝓛 3 (plain (λ _. R E)) no (λ κs x f. refl), tt)))
    (#self (args E Z)) fn (code.unfolded 𝓤 H 𝓜 𝓡 wired (X, (U, tt)) d dd) (λ y are.
    let κs = y.0.0 in let qs = y.0.1 in let a = y.0.3 in let us = y.0.4 in let Post : Val → SProp 𝓤 = (walk_of 𝓛 En hs c).post y in
    let rb : ℕ = a.0.ref_ptr.0 in let ro : ℕ = a.0.ref_ptr.1 in let h : Owner E Z = a.0.now in let i : ℕ = a.1.0 in let x : X.Denot = a.1.1.0 in
    let others : Fml = fsep (flft κs.1.0 qs.1.0) (fsep (flft κs.1.1.0 qs.1.1.0) ftrue) in
    let Inside : Type 0 = i < length h.places in let Empty : Type 0 = get_or h.places i None ≡ None in
    let alone = one E us.1.1.0 ((lawful E 𝓛).typed x us.1.1.0 are.1.1.0) in let v : Val = alone.0 in let good = alone.2 in
    qed 𝓛 (((‵ (flft κs.0 qs.0) ⊛ ‵ others) ⊛ ‵ (owns (types_at En.signature.params κs) a us)) ∷ (raw (fact 𝓤 _) ⊛ raw (fact 𝓤 _) ⊛ raw (fact 𝓤 Inside) ⊛ raw (fact 𝓤 Empty)) ∷ []) ∵
    move ! (1 ∷ []) $ split ! $ drop ! $ split ! $ drop ! $ split ! $ heard ! Inside (λ within. heard ! Empty (λ empty.
    split ! $ split ! $ move ! (2 ∷ []) $ fsplit3 ! $ fsplit3 ! $
    move ! (4 ∷ []) $ fsplit ! $ rewrite ! 0 (λ (ws : List Val). ‵ (X.own_val x ws)) alone.1 refl $ keep ! (3 ∷ 4 ∷ 6 ∷ 0 ∷ 7 ∷ []) $
    regoal ! (λ (ws : List Val). prop (WpFn 𝓤 H 𝓣.C 𝓣.Λ fn ws Post)) (λ j. are.0.0 j ++ (are.1.0.0 j ++ (alone.1 j ++ []))) refl $
    enter ! 𝓣.C 𝓣.Λ fn (vptr rb ro ∷ vint w64 i ∷ v ∷ []) Post $ alloc_all ! (λ l. pass_all ! refl ((tt, tt), ((tt, record { fits = are.1.0.1 }), (good, tt))) $ let Ev = env fn.locals l in
    opens ! tt (Rm E Z) {h = h} rb ro (λ vs. move ! (1 ∷ []) $ room_had E Z ! h vs (λ b o lies holds small.
    rewrite ! 3 (λ (ws : List Val). ‵ (cell_at full_share (Rm E Z).mir ws rb ro)) holds refl $
    let n = length h.places in let s = sz E in let at = i * s + o in
    let tiny : s < 2 ^ 64 = omega (arith, one_below n s (2 ^ 63) (omega arith) small) in let far : i * s < 2 ^ 64 = omega (arith, times_below i n s (2 ^ 63) (omega arith) small) in
    let new : Owner E Z = record h { places = set h.places i (Some x) } in
    let kept : length new.places * s < 2 ^ 63 = subst (λ (k : ℕ). k * s < 2 ^ 63) (sym (length-set h.places i (Some x))) small in
    use1 𝓛 (‵ (One E 𝓛 b at None) ⊛ raw (Rest E 𝓛 b h.places i o within)) (place_out E 𝓛 b h.places i o within None empty) $ split ! $
    use1 𝓛 (‵ (froom (elτ E) b at)) (𝓛.laws.raw-room (elτ E) b at) $
    -- [room for the value; the other places; the right; the fields; their cell; the open borrow, in three entries; what
    -- the value owns; the other tokens]
    first ! $ blocks ! $ sets ! (of_opd ! (load ! (through ! refl (fld ! refl (stop !))) (look_in ! 4 (sub ! 0 refl (whole !))))) refl (tt, tt) $
    sets ! (bin ! (get ! refl) (size_lit ! (record { fits = tiny })) (record { fits = far })) refl (tt, record { fits = far }) $ sets ! (bin ! (get ! refl) (get ! refl) tt) refl (tt, tt) $
    sets ! (of_opd ! (get ! refl)) refl good $ assigns_last ! (of_opd ! (get ! refl)) (through ! refl (stop !)) (init ! 0 refl good) $
    exec ! 𝓣.C 𝓣.Λ Ev (after 1 fn.body) (at_ret Ev Post) $ sets ! (of_opd ! (unit_lit !)) refl (tt, tt) $
    move ! (0 ∷ 8 ∷ 1 ∷ []) $ use2 𝓛 (‵ (One E 𝓛 b at (Some x))) (el_in E 𝓛 b x at v) $ use2 𝓛 (‵ (row_owns (R E) b o new.places)) (place_in E 𝓛 b h.places i o within (Some x)) $
    rewrite ! 1 (λ (k : ℕ). ‵ (token Z h.giver (block_ty E k) (block_ptr b o))) (sym (length-set h.places i (Some x))) refl $ room_made E Z ! new b o lies kept $
    move ! (1 ∷ 0 ∷ 2 ∷ 3 ∷ 4 ∷ []) $ closes ! tt (Rm E Z) new (room_val E Z (block_ptr b o) ∷ []) rb ro $
    returns ! (look_at ! 0 refl) $ free_all ! refl $
    -- [self, in two entries; its token; the other tokens]
    feq_i ! (List Val) us.0 (vptr rb ro ∷ []) are.0.0 $ fjoin3 ! $ nothing ! $ nothing ! $ fjoin ! $ nothing ! $ fjoin ! $ move ! (1 ∷ 0 ∷ []) $ fjoin ! $ move ! (1 ∷ 2 ∷ []) $ join ! $
    use0 𝓛 (raw (fact 𝓤 _)) (fact_i 𝓤 _ (emp 𝓤) refl) $ use0 𝓛 (raw (fact 𝓤 _)) (fact_i 𝓤 _ (emp 𝓤) refl) $ feq_i ! (List Val) (vunit ∷ []) (vunit ∷ []) refl $ keep ! (3 ∷ 4 ∷ 0 ∷ 2 ∷ 1 ∷ []) $
    by ! (leaves 𝓛 En hs c y vunit tt (new, (tt, (tt, tt))) (tt, (tt, (tt, tt))))))))))
